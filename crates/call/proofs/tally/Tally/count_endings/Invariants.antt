use Rattle.std.proofs.Common.{take}
use Rattle.call.specs.Tallies.{Counted}
use Rattle.call.proofs.tally.Tally.count_endings.Given as goal

abbrev pub invariant-loop-mark : goal.invariant-loop-mark
invariant-loop-mark l = Counted l.initial.self (take l.mark-index l.marks) l.self
