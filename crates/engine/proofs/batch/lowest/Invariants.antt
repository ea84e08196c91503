use Rattle.std.proofs.Common.{◌≡◌, take}
use Rattle.engine.specs.Batches.{lowest_place}
use Rattle.engine.proofs.batch.lowest.Given as goal

abbrev pub invariant-loop-pixel : goal.invariant-loop-pixel
invariant-loop-pixel l = l.low ≡ lowest_place (take l.pixel-index l.pixels)
