use Rattle.std.proofs.Common.{◌≡◌, map, take}
use Rattle.call.specs.Frames.{mark_of}
use Rattle.call.proofs.outputs.fill_marks.Given as goal

abbrev pub invariant-loop-i : goal.invariant-loop-i
invariant-loop-i l = take l.i l.marks ≡ map mark_of (take l.i l.ends)
