use Rattle.std.proofs.Common.{◌≡◌, ◌++◌, map, take, drop}
use Rattle.schedule.specs.Rounds.{turn}
use Rattle.engine.specs.Runs.{setting, machine}
use Rattle.engine.specs.Batches.{lowest_place}
use Rattle.engine.proofs.settings.Settings.run_round.Given as goal

abbrev pub invariant-loop-pixel : goal.invariant-loop-pixel
invariant-loop-pixel g l =
    let f = turn (machine (setting g.K.NumberKind.meaning l.self)) l.place in
    (l.pixels ≡ map f (take l.pixel-index l.initial.pixels) ++ drop l.pixel-index l.initial.pixels) ×
    (l.low ≡ lowest_place (map f (take l.pixel-index l.initial.pixels)))
