use Rattle.std.proofs.Common.{◌<◌, length, refl, ◌∙◌, arith, length-set}
use Rattle.transform.specs.Parts.{row_at}
use Rattle.engine.specs.Start.{start_word}
use Rattle.engine.proofs.Registers.{listed-none, listed_more}
use Rattle.engine.proofs.start.start_registers.Goals as goal

pub loop-i-init : goal.loop-i-init
loop-i-init g c = (refl, listed-none _)

pub loop-i-preserved : goal.loop-i-preserved
loop-i-preserved g c =
    let word = start_word g.K.NumberKind.meaning c.args.settings.now.uniforms.now c.args.inputs.now in
    let xs = c.loop-i.register-items in
    let i = c.loop-i.i in
    let full = c.loop-i.invariant.0 in
    let here : i < length xs = omega arith in (
      length-set xs i c.start_word.result ∙ full,
      listed_more (λ j. word (row_at c.args.settings.now.transform.rows.now j) j) xs i c.start_word.result here c.start_word.ensures c.loop-i.invariant.1,
    )
