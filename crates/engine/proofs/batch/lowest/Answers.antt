use Rattle.std.proofs.Common.{get_or, ap, ◌∙◌, arith}
use Rattle.engine.specs.Batches.{lowered}
use Rattle.engine.proofs.Batches.{no_pixel, lowest_more}
use Rattle.engine.proofs.batch.lowest.Goals as goal

pub loop-pixel-preserved : goal.loop-pixel-preserved
loop-pixel-preserved c =
    let ps = c.args.pixels.now in
    c.lower-low.ensures ∙ ap (λ low. lowered low (get_or ps c.loop-pixel.pixel-index no_pixel)) c.loop-pixel.invariant ∙ lowest_more ps c.loop-pixel.pixel-index (omega arith)
