use Rattle.std.proofs.Common.{◌≡◌, ◌-◌}
use Rattle.schedule.specs.Machine.{lone}
use Rattle.engine.specs.Runs.{setting, machine, lone_run, Sound}
use Rattle.engine.proofs.settings.Settings.run_alone.Given as goal

abbrev pub invariant-loop-pixel : goal.invariant-loop-pixel
invariant-loop-pixel g l =
    let s = setting g.K.NumberKind.meaning l.self in
    Sound s l.pixel × (lone (machine s) l.pixel ≡ lone_run s l.inputs)

abbrev pub decreases-loop-pixel : goal.decreases-loop-pixel
decreases-loop-pixel g l = l.self.budget.steps - l.pixel.steps
