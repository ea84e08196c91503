use Rattle.std.proofs.Common.{◌≡◌, ◌+◌, map}
use Rattle.std.specs.List.{AllByRecursion}
use Rattle.schedule.specs.Machine.{lone}
use Rattle.schedule.specs.Rounds.{rounds}
use Rattle.engine.specs.Runs.{setting, machine, Sound}
use Rattle.engine.specs.Batches.{lowest_place}
use Rattle.engine.proofs.settings.Settings.run_rounds.Given as goal

abbrev pub invariant-loop-low : goal.invariant-loop-low
invariant-loop-low g l =
    let s = setting g.K.NumberKind.meaning l.self in
    AllByRecursion (Sound s) l.pixels × (l.low ≡ lowest_place l.pixels) × (map (lone (machine s)) l.pixels ≡ map (lone (machine s)) l.initial.pixels) ×
    (l.count + rounds (machine s) l.pixels ≡ rounds (machine s) l.initial.pixels)

abbrev pub decreases-loop-low : goal.decreases-loop-low
decreases-loop-low g l = rounds (machine (setting g.K.NumberKind.meaning l.self)) l.pixels
