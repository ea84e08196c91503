use Rattle.std.proofs.Common.{◌≡◌, ◌*◌, ◌≤◌, length, ap, ◌∙◌, subst, sym, rules}
use Rattle.engine.specs.Batches.{ran_together, rounds_of}
use Rattle.call.specs.Setups.{setting_with}
use Rattle.call.specs.Events.{batch_words}
use Rattle.call.proofs.Together.{ends_long, together_ends, together_rounds, together_few}
use Rattle.call.proofs.setup.Setup.run_pixels.Goals as goal

pub returns : goal.returns
returns g c =
    let m = g.K.NumberKind.meaning in
    let s = setting_with m c.args.self.now in
    let inn = g.I.Readable.image c.args.input.now in
    let first = c.args.first in
    let n = c.args.count in
    let few = c.requires.few in
    let words = c.fill_words.new.entries in
    let given : words ≡ batch_words inn first n = search rules in
    let before = c.args.batch.now.pixels in
    let ran = subst (λ t. c.run_together.new.batch.pixels ≡ ran_together t words before) (c.settings.ensures m) c.run_together.ensures.ends in
    let counts = c.run_together.ensures.count ∙ ap (λ t. rounds_of t words) (c.settings.ensures m) ∙ together_rounds s inn first n few words given in
    let most : s.budget ≤ 65535 = search rules in
    let ends = together_ends s inn first n few words given before _ ran in
    record {
      ends = ends;
      long = ap length ends ∙ ends_long s inn first n;
      rounds = counts;
      few = subst (λ k. k ≤ 65535 * n) (sym counts) (together_few s inn first n few words given most);
    }
