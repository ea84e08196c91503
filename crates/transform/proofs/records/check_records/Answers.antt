use Rattle.std.proofs.Common.{◌≡◌, true, rules}
use Rattle.transform.specs.Check.{record_answer}
use Rattle.transform.specs.Rules.{record_count_suits}
use Rattle.transform.proofs.Throughout.{counted_fault}
use Rattle.transform.proofs.records.check_records.Goals as goal

pub returns-in_err-check : goal.returns-in_err-check
returns-in_err-check c =
    let counted : true ≡ record_count_suits c.args.records.now = search rules in
    counted_fault (record_answer c.args.rows.now c.args.records.now) _ _ _ _ _ _ c.from_residual.ensures.1 counted c.loop-place-test.true c.loop-place.invariant c.in_err-check.ensures
