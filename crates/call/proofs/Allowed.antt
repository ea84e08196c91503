-- What holds of a run that no condition refuses, and what it leaves in each word.
use Rattle.std.proofs.Common.{◌≡◌, ℕ, ◌+◌, ◌<◌, ◌≤◌, Bool, true, false, cond, not, ◌&&◌, eqb, ltb, List, length, get_or, Some, None, Option, sym, refl, ap, ◌∙◌, ⊎_elim, arith}
use mathlib.Core.List.{map-map}
use Rattle.std.specs.List.{range_with_len}
use Rattle.std.proofs.lemmas.List.FromFn.{length-map-range_with_len, get_or-map-range_with_len}
use Rattle.std.proofs.lemmas.List.{length-map}
use Rattle.std.proofs.lemmas.List.Folds.{list_any_at}
use Rattle.std.proofs.lemmas.Bool.{ltb-true, ltb-false, eqb-true, eqb-false, not-false, or_parts, cond-false, cases_Bool, true≢false}
use Rattle.frame.specs.Image.{Image}
use Rattle.transform.specs.Parts.{row_at, no_row, is_in, is_out}
use Rattle.transform.specs.declared.parts.Row.{Row}
use Rattle.engine.specs.Batches.{resting}
use Rattle.engine.specs.Runs.{Setting, lone_run}
use Rattle.call.specs.declared.refusal.RunRefusal.{RunRefusal}
use Rattle.call.specs.Tallies.{most_served}
use Rattle.call.specs.Requests.{row_lacks, lacks_channel, refusal}
use Rattle.call.specs.Frames.{input_words, ends_put}
use Rattle.call.specs.Events.{batch_words, batch_ends}
use Rattle.call.proofs.WrittenWords.{OutsInside, end_word, ends_here}

-- no condition holds
pub record Allowed (rows : List Row) (inn out : Image) (served first count given : ℕ) : Type 0 where
  pub some : 0 < count
  pub few : count ≤ 64
  pub same_pixels : inn.pixels ≡ out.pixels
  pub inside : first + count ≤ inn.pixels
  pub channels : lacks_channel inn.channels out.channels rows ≡ false
  pub long : given ≡ count
  pub room : served + count ≤ most_served

none_first : (b : Bool) (r : RunRefusal) (x : Option RunRefusal) → cond b (Some r) x ≡ None → (b ≡ false) × (x ≡ None)
none_first true r x h = let z : ◌≡◌ {A = ℕ} 0 1 = cc in absurd (omega arith)
none_first false r x h = (refl, h)

pub allowed : (rows : List Row) (inn out : Image) (served first count given : ℕ) → refusal rows inn out served first count given ≡ None → Allowed rows inn out served first count given
allowed rows inn out served first count given h =
    let a = none_first _ _ _ h in
    let b = none_first _ _ _ a.1 in
    let c = none_first _ _ _ b.1 in
    let d = none_first _ _ _ c.1 in
    let e = none_first _ _ _ d.1 in
    let f = none_first _ _ _ e.1 in
    let n = or_parts (eqb count 0) (ltb 64 count) a.0 in
    let z = eqb-false count 0 n.0 in
    record {
      some = omega arith;
      few = ltb-false 64 count n.1;
      same_pixels = eqb-true inn.pixels out.pixels (not-false _ b.0);
      inside = ltb-false inn.pixels (first + count) c.0;
      channels = d.0;
      long = eqb-true given count (not-false _ e.0);
      room = ltb-false most_served (served + count) f.0;
    }

-- an out row is no in row
out_row : (row : Row) → is_out row ≡ true → is_in row ≡ false
out_row row out = let e = eqb-true row.role 2 out in ⊎_elim (λ t. let f = eqb-true row.role 1 t in absurd (omega arith)) (λ f. f) (cases_Bool (is_in row))

lacks_none : (ins outs : ℕ) (rows : List Row) → lacks_channel ins outs rows ≡ false → (i : ℕ) → i < length rows → row_lacks ins outs (row_at rows i) ≡ false
lacks_none ins outs rows h i l =
    ⊎_elim
    (λ t. absurd (true≢false (sym (list_any_at (row_lacks ins outs) rows i no_row l t) ∙ h)))
    (λ f. f)
    (cases_Bool (row_lacks ins outs (row_at rows i)))

row_inside : (ins outs : ℕ) (row : Row) → row_lacks ins outs row ≡ false → is_out row ≡ true → row.channel < outs
row_inside ins outs row h out =
    let a : (is_out row && not (ltb row.channel outs)) ≡ false = sym (cond-false _ _ _ (out_row row out)) ∙ h in
    let b : not (ltb row.channel outs) ≡ false = ap (λ t. t && not (ltb row.channel outs)) (sym out) ∙ a in
    ltb-true row.channel outs (not-false _ b)

-- no out channel is lacking
pub outs_inside : (ins outs : ℕ) (rows : List Row) → lacks_channel ins outs rows ≡ false → OutsInside rows outs (length rows)
outs_inside ins outs rows h i l out = row_inside ins outs (row_at rows i) (lacks_none ins outs rows h i l) out

-- the end of the run of pixel i of a batch
pub end_at : (s : Setting) (inn : Image) (first count i : ℕ) → i < count → get_or (batch_ends s inn first count) i resting ≡ lone_run s (input_words inn (first + i))
end_at s inn first count i l =
    ap (λ xs. get_or xs i resting) (map-map (lone_run s) (input_words inn) (range_with_len first count)) ∙ get_or-map-range_with_len (λ p. lone_run s (input_words inn p)) first count i (first + i) resting l refl

-- in a batch that is served a pixel that is done holds the out words of its run by itself; its other words, and those of a pixel that is not done, are as before
pub served_words : (s : Setting) (inn out : Image) (served first count given : ℕ) → Allowed s.rows inn out served first count given → (i d : ℕ) → i < count
    → (ends_put s.rows (batch_ends s inn first count) first out).word (first + i) d ≡ end_word s.rows (lone_run s (input_words inn (first + i))) d (out.word (first + i) d)
served_words s inn out served first count given ok i d l =
    let long : length (batch_ends s inn first count) ≡ count = length-map (batch_words inn first count) (lone_run s) ∙ length-map-range_with_len (input_words inn) first count in
    let room = ok.inside in
    let same = ok.same_pixels in
    let here : get_or (batch_ends s inn first count) i resting ≡ lone_run s (input_words inn (first + i)) = end_at s inn first count i l in
    ends_here s.rows (batch_ends s inn first count) first out i d (omega arith) (omega arith) (outs_inside inn.channels out.channels s.rows ok.channels)
    ∙ ap (λ end. end_word s.rows end d (out.word (first + i) d)) here
