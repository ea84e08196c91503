use Rattle.std.proofs.Common.{◌≡◌, ◌<◌, length, take, sym, refl, subst, arith, rules}
use Rattle.std.proofs.lemmas.List.{take_more, take_all, length-take-le}
use Rattle.call.specs.Tallies.{Counted}
use Rattle.call.proofs.Counts.{five_endings, ended-le, counted_more}
use Rattle.call.proofs.tally.Tally.count_endings.Goals as goal

pub overflow_add-self : goal.overflow_add-self
overflow_add-self c =
    let n = c.number.result in
    let ms = take c.loop-mark.mark-index c.args.marks.now in
    let less : n < 5 = search (rules, five_endings) in
    let is = c.loop-mark.invariant.endings n less in
    let few = ended-le n ms in
    let long : length ms ≡ c.loop-mark.mark-index = length-take-le c.loop-mark.mark-index c.args.marks.now c.loop-mark.auto.mark-index-end in
    omega (arith, c.requires.sound.1 n, c.requires.sound.0, c.requires.room)

pub loop-mark-preserved : goal.loop-mark-preserved
loop-mark-preserved c =
    counted_more c.args.self.now c.loop-mark.self (take c.loop-mark.mark-index c.args.marks.now) _ _ c.number.result c.loop-mark.invariant c.number.ensures
    (sym (take_more c.args.marks.now c.loop-mark.mark-index _ c.loop-mark-test.true))

pub loop-mark-init : goal.loop-mark-init
loop-mark-init c = record { endings = λ e lt. omega arith; served = refl; rounds = refl; five = search rules }

pub returns : goal.returns
returns c =
    subst (λ ms. Counted c.args.self.now ms c.loop-mark.self) (take_all c.loop-mark.mark-index c.args.marks.now c.loop-mark-test.false) c.loop-mark.invariant
