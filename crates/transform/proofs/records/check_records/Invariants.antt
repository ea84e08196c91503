use Rattle.std.proofs.Common.{◌≡◌, Ok}
use Rattle.transform.specs.Answers.{throughout}
use Rattle.transform.specs.Check.{record_answer}
use Rattle.transform.proofs.records.check_records.Given as goal

abbrev pub invariant-loop-place : goal.invariant-loop-place
invariant-loop-place l = throughout (record_answer l.rows l.records) l.place ≡ Ok tt
