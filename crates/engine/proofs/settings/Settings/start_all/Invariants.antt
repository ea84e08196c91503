use Rattle.std.proofs.Common.{◌≡◌, map, take}
use Rattle.engine.specs.Runs.{setting, start_of}
use Rattle.engine.proofs.settings.Settings.start_all.Given as goal

abbrev pub invariant-loop-i : goal.invariant-loop-i
invariant-loop-i g l = take l.i l.pixels ≡ map (start_of (setting g.K.NumberKind.meaning l.self)) (take l.i l.inputs)
