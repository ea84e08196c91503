use Rattle.std.proofs.Common.{◌≡◌, ◌<◌, length, get_or, sym, ap, ◌∙◌, arith}
use Rattle.schedule.specs.Rounds.{turn}
use Rattle.engine.specs.Runs.{setting, machine}
use Rattle.engine.specs.Batches.{lowered}
use Rattle.engine.proofs.Batches.{no_pixel, turned_turn, same_length, change_more, change_lowest}
use Rattle.engine.proofs.settings.Settings.run_round.Goals as goal

pub loop-pixel-preserved : goal.loop-pixel-preserved
loop-pixel-preserved g c =
    let s = setting g.K.NumberKind.meaning c.args.self.now in
    let f = turn (machine s) c.args.place in
    let xs = c.args.pixels.now in
    let ys = c.loop-pixel.pixels in
    let i = c.loop-pixel.pixel-index in
    let h : i < length xs = omega arith in
    let q = c.turn.new.self in
    let e : q ≡ f (get_or ys i no_pixel) = c.turn.ensures ∙ turned_turn s c.args.place c.in_ok-step.step (sym c.in_ok-step.ensures.step) (get_or ys i no_pixel) in
    let same = same_length f xs ys i h c.loop-pixel.invariant.0 in (
      change_more f xs ys i h c.loop-pixel.invariant.0 q e,
      c.lower-low.ensures ∙ ap (λ low. lowered low q) c.loop-pixel.invariant.1 ∙ change_lowest f xs ys i h c.loop-pixel.invariant.0 q e,
    )
