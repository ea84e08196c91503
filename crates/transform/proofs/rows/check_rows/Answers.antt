use Rattle.std.proofs.Common.{◌≡◌, true, rules, length, take, arith, length-take-le}
use Rattle.transform.specs.Check.{row_answer}
use Rattle.transform.specs.Rules.{row_count_suits}
use Rattle.transform.proofs.Throughout.{counted_fault}
use Rattle.transform.proofs.rows.check_rows.Goals as goal

pub returns-in_err-check : goal.returns-in_err-check
returns-in_err-check c =
    let placed : length (take c.loop-i.i c.args.rows.now) ≡ c.loop-i.i = length-take-le c.loop-i.i c.args.rows.now (omega arith) in
    let counted : true ≡ row_count_suits c.args.rows.now = search rules in
    counted_fault (row_answer c.args.rows.now) _ _ _ _ _ _ c.from_residual.ensures.1 counted c.loop-i-test.true c.loop-i.invariant (rw placed at c.in_err-check.ensures)
