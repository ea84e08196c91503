use Rattle.std.proofs.Common.{◌≡◌, ◌*◌, ◌≤◌, map, length, None, sym, ap, ◌∙◌, subst, mul-le-mul_right, arith}
use Rattle.std.specs.List.{AllByRecursion}
use Rattle.schedule.specs.Machine.{lone}
use Rattle.schedule.specs.Rounds.{lowest, rounds}
use Rattle.schedule.proofs.Rounds.{lone_round, lone-none, sound_round}
use Rattle.schedule.proofs.Laws.{rounds_step, rounds_none, rounds_left}
use Rattle.engine.specs.Runs.{setting, machine, Sound}
use Rattle.engine.proofs.Ends.{settings_end}
use Rattle.engine.proofs.Batches.{lowest_here, total_left}
use Rattle.engine.proofs.settings.Settings.run_rounds.Goals as goal

pub run_round-low-requires : goal.run_round-low-requires
run_round-low-requires g c =
    let s = setting g.K.NumberKind.meaning c.args.self.now in
    let inv = c.loop-low.invariant in
    let h = lowest_here s c.loop-low.pixels c.in-Some.place inv.0 (sym inv.1 ∙ c.in-Some.is) in
    record { placed = h.0; here = h.1; sound = inv.0 }

pub overflow_add-count : goal.overflow_add-count
overflow_add-count g c =
    let s = setting g.K.NumberKind.meaning c.args.self.now in
    let law = settings_end g.K.NumberKind.meaning c.args.self.now in
    let xs = c.args.pixels.now in
    let budget = c.args.self.now.budget.steps in
    let few = c.requires.few in
    let counted = c.loop-low.invariant.3 in
    let all = rounds_left (machine s) law xs in
    let most = total_left s xs in
    let e : length xs * budget ≤ 64 * budget = mul-le-mul_right budget few in
    let short = c.args.self.now.budget.few in
    record { fits = omega arith }

pub loop-low-smaller : goal.loop-low-smaller
loop-low-smaller g c =
    let s = setting g.K.NumberKind.meaning c.args.self.now in
    let law = settings_end g.K.NumberKind.meaning c.args.self.now in
    let inv = c.loop-low.invariant in
    let one = rounds_step (machine s) law c.in-Some.place c.loop-low.pixels inv.0 (sym inv.1 ∙ c.in-Some.is) in
    let next = ap (rounds (machine s)) c.run_round-low.ensures.after in
    omega arith

pub loop-low-preserved : goal.loop-low-preserved
loop-low-preserved g c =
    let s = setting g.K.NumberKind.meaning c.args.self.now in
    let law = settings_end g.K.NumberKind.meaning c.args.self.now in
    let inv = c.loop-low.invariant in
    let place = c.in-Some.place in
    let ys = c.loop-low.pixels in
    let e = c.run_round-low.ensures.after in
    let one = rounds_step (machine s) law place ys inv.0 (sym inv.1 ∙ c.in-Some.is) in
    let next = ap (rounds (machine s)) e in
    let counted = inv.3 in (
      subst (AllByRecursion (Sound s)) (sym e) (sound_round (machine s) law place ys inv.0),
      c.run_round-low.ensures.next,
      ap (map (lone (machine s))) e ∙ lone_round (machine s) law place ys inv.0 ∙ inv.2,
      omega arith,
    )

pub returns : goal.returns
returns g c =
    let s = setting g.K.NumberKind.meaning c.args.self.now in
    let law = settings_end g.K.NumberKind.meaning c.args.self.now in
    let inv = c.loop-low.invariant in
    let ys = c.loop-low.pixels in
    let none : lowest (machine s) ys ≡ None = sym inv.1 ∙ c.in_default.is in
    let zero = rounds_none (machine s) law ys inv.0 none in
    let counted = inv.3 in
    record { ends = lone-none (machine s) law ys none ∙ inv.2; count = omega arith }
