use Rattle.std.proofs.Common.{ap, ◌∙◌, arith, length-set}
use Rattle.transform.specs.Parts.{row_at}
use Rattle.call.proofs.Filled.{filled_more}
use Rattle.call.proofs.open.row_words.Goals as goal

pub loop-i-preserved : goal.loop-i-preserved
loop-i-preserved c =
    let xs = c.loop-i.word-items in
    let i = c.loop-i.i in
    let full = c.loop-i.invariant.0 in (
      length-set xs i c.row_at.result.word ∙ full,
      filled_more (λ j. (row_at c.args.transform.now.rows.now j).word) 0 xs i i _ (omega arith) (omega arith) (ap (λ r. r.word) c.row_at.ensures.row) c.loop-i.invariant.1,
    )
