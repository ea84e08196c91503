use Rattle.std.proofs.Common.{◌≡◌, ◌++◌, map, length, take, sym, ap, ◌∙◌, subst, arith, rules}
use mathlib.Core.List.{map-map}
use Rattle.std.specs.List.{AllByRecursion}
use Rattle.std.proofs.lemmas.List.{length-take-le, length-map}
use Rattle.schedule.specs.Machine.{lone}
use Rattle.schedule.specs.Rounds.{rounds}
use Rattle.schedule.proofs.Laws.{laws}
use Rattle.engine.specs.Runs.{setting, machine, start_of, Sound}
use Rattle.engine.proofs.Ends.{settings_end, start_sound, starts_sound}
use Rattle.engine.proofs.Batches.{take_counted, length_counted, drop_counted}
use Rattle.engine.proofs.settings.Settings.run_together.Goals as goal

pub run_rounds-requires : goal.run_rounds-requires
run_rounds-requires g c =
    let s = setting g.K.NumberKind.meaning c.args.self.now in
    let full : length c.args.batch.now.pixels ≡ 64 = search rules in
    let inputs = c.args.inputs.now in
    let n = c.min-count.result in
    let counts = c.min-count.ensures in
    let k = length_counted inputs n counts c.args.batch.now.pixels full in
    let start = c.start_all.ensures ∙ ap (λ i. map (start_of s) (take i inputs)) k in
    let long = ap length start ∙ length-map (take n inputs) (start_of s) ∙ length-take-le n inputs (omega arith) in
    record {
      few = omega arith;
      sound = subst (AllByRecursion (Sound s)) (sym start) (starts_sound g.K.NumberKind.meaning c.args.self.now (take n inputs));
    }

pub returns : goal.returns
returns g c =
    let s = setting g.K.NumberKind.meaning c.args.self.now in
    let ps = c.args.batch.now.pixels in
    let full : length ps ≡ 64 = search rules in
    let inputs = c.args.inputs.now in
    let n = c.min-count.result in
    let counts = c.min-count.ensures in
    let start : c.start_all.new.pixels ≡ map (start_of s) (take 64 inputs) =
    c.start_all.ensures ∙ ap (λ i. map (start_of s) (take i inputs)) (length_counted inputs n counts ps full) ∙ ap (map (start_of s)) (take_counted inputs n counts) in
    let end = c.run_rounds.ensures.ends ∙ ap (map (lone (machine s))) start ∙ map-map (lone (machine s)) (start_of s) (take 64 inputs) in
    record {
      ends = λ j. end j ++ drop_counted inputs n counts ps full j;
      count = c.run_rounds.ensures.count ∙ ap (rounds (machine s)) start;
      sound = λ words. start_sound g.K.NumberKind.meaning c.args.self.now words;
      laws = laws (machine s) (settings_end g.K.NumberKind.meaning c.args.self.now);
    }
