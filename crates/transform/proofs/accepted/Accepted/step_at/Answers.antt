use Rattle.std.proofs.Common.{◌≡◌, ◌<◌, length, is_some, Some, None, sym, ap, ◌∙◌, subst, refl, arith}
use Rattle.std.specs.Option.{option_map}
use Rattle.std.specs.Result.{result_ok}
use Rattle.transform.specs.Kinds.{kind_of, kind_named}
use Rattle.transform.specs.Parts.{record_at}
use Rattle.transform.specs.Steps.{step_of, Sound}
use Rattle.transform.proofs.Kept.{kept}
use Rattle.transform.proofs.StepSound.{ok-ok_or, step_at_later, step_sound}
use Rattle.transform.proofs.accepted.Accepted.step_at.Goals as goal

pub returns : goal.returns
returns c =
    let t = c.args.self.now in
    let some : 0 < c.args.place = omega arith in
    let at = record_at t.records.now c.args.place in
    let named : result_ok (kind_named at.kind) ≡ kind_of at.kind = ok-ok_or (kind_of at.kind) (record { 0 = at.kind }) in
    let known : kind_of at.kind ≡ Some c.in_ok-kind.kind = cc (named, c.in_ok-kind.ensures.value, c.record_at-c.ensures, c.try_from.ensures) in
    let made : step_of t.rows.now c.in_ok-kind.kind at ≡ c.step.result = cc in
    let later = step_at_later t.rows.now t.records.now c.args.place some in
    record {
      step = sym (later ∙ ap (option_map (λ k. step_of t.rows.now k at)) known ∙ ap Some made);
      found = λ _ _. refl;
      sound = subst (Sound (length t.rows.now) (length t.records.now)) made (step_sound t.rows.now t.records.now t.table.now t.accepted c.args.place c.in_ok-kind.kind some known);
    }

pub returns-in_err-kind : goal.returns-in_err-kind
returns-in_err-kind c =
    let t = c.args.self.now in
    let some : 0 < c.args.place = omega arith in
    let at = record_at t.records.now c.args.place in
    let named : result_ok (kind_named at.kind) ≡ kind_of at.kind = ok-ok_or (kind_of at.kind) (record { 0 = at.kind }) in
    let none : kind_of at.kind ≡ None = cc (named, c.in_err-kind.ensures.value, c.record_at-c.ensures, c.try_from.ensures) in
    let later = step_at_later t.rows.now t.records.now c.args.place some in
    rw c.from_residual.ensures (record {
      step = sym (later ∙ ap (option_map (λ k. step_of t.rows.now k at)) none);
      found = λ o l. sym (ap is_some none) ∙ (kept t.rows.now t.records.now t.table.now t.accepted).kinds_known c.args.place o l;
      sound = tt;
    })
