use Rattle.std.proofs.Common.{◌≡◌, Ok}
use Rattle.transform.specs.Answers.{throughout}
use Rattle.transform.specs.Check.{row_answer}
use Rattle.transform.proofs.rows.check_rows.Given as goal

abbrev pub invariant-loop-i : goal.invariant-loop-i
invariant-loop-i l = throughout (row_answer l.rows) l.i ≡ Ok tt
