use Rattle.std.proofs.Common.{refl, arith}
use Rattle.call.specs.Frames.{input_words}
use Rattle.call.proofs.Filled.{filled_more}
use Rattle.call.proofs.inputs.fill_words.Goals as goal

pub loop-i-preserved : goal.loop-i-preserved
loop-i-preserved g c =
    filled_more (input_words (g.I.Readable.image c.args.input.now)) c.args.first c.loop-i.entries c.loop-i.i _ _ (omega arith) refl c.input_words.ensures c.loop-i.invariant
