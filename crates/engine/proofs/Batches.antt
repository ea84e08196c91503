-- The loops over the pixels of a batch, one pixel on.
use Rattle.std.proofs.Common.{◌≡◌, ℕ, ◌+◌, ◌*◌, ◌<◌, ◌≤◌, min, cond, eqb, List, [], ◌∷◌, ◌++◌, map, length, get_or, take, drop, set, is_some, Some, None, sym, refl, ap, ◌∙◌, inl, inr, suc-mul, arith}
use Rattle.std.specs.List.{AllByRecursion}
use Rattle.std.proofs.lemmas.Bool.{cases_Bool, cases_eq, cases_lt, ne_eqb, true≢false}
use Rattle.std.proofs.lemmas.List.{take_more, take_all, drop_all, get_or-append_right, get_or-drop, length-map, length-take-le, length-append, length-drop, get_or_default, map_push}
use Rattle.std.proofs.lemmas.List.Edits.{map_over_more}
use Rattle.schedule.specs.Rounds.{lesser, turn, total}
use Rattle.schedule.proofs.Lowest.{lowest-push, some_same, lesser_other}
use Rattle.transform.specs.Steps.{step_at}
use Rattle.transform.specs.declared.step.Step.{Step}
use Rattle.engine.specs.declared.pixel.Pixel.{Pixel}
use Rattle.engine.specs.Pixels.{taken}
use Rattle.engine.specs.Runs.{Setting, machine, Sound}
use Rattle.engine.specs.Batches.{turned, lowered, lowest_place}

-- what is read past the end of a list of pixels
abbrev pub no_pixel : Pixel
no_pixel = record { registers = []; place = 0; steps = 0; ending = None }

-- n is the number of entries that count, of which there are 64 at most
module _ {X : Type 0} (xs : List X) (n : ℕ) (e : n ≡ min (length xs) 64) where
  -- n entries are the first 64
  pub take_counted : take n xs ≡ take 64 xs
  take_counted =
      elim (cases_lt (length xs) 64) [
        | inl l ↦ take_all n xs (omega arith) ∙ sym (take_all 64 xs (omega arith))
        | inr l ↦ let k : n ≡ 64 = omega arith in ap (λ i. take i xs) k
      ]

  module _ {Y : Type 0} (ys : List Y) (full : length ys ≡ 64) where
    -- a list of 64 has as many first elements
    pub length_counted : length (take n ys) ≡ n
    length_counted = length-take-le n ys (omega arith)

    -- and those after them are those past the entries
    pub drop_counted : drop n ys ≡ drop (length xs) ys
    drop_counted =
        elim (cases_lt (length xs) 64) [
          | inl l ↦ let k : n ≡ length xs = omega arith in ap (λ i. drop i ys) k
          | inr l ↦ drop_all n ys (omega arith) ∙ sym (drop_all (length xs) ys (omega arith))
        ]

-- with the step at the place at hand, a turn is the machine's
pub turned_turn : (s : Setting) (place : ℕ) (t : Step) → step_at s.rows s.records place ≡ Some t → (p : Pixel) → turned s place t p ≡ turn (machine s) place p
turned_turn s place t e p =
    elim (cases_eq p.place place) [
      | inl q ↦
          ap (λ o. cond (is_some p.ending) p (cond (eqb p.place place) (taken s.meaning s.table s.budget p o) p)) (sym (ap (step_at s.rows s.records) q ∙ e))
      | inr n ↦ rw (ne_eqb p.place place n) refl
    ]

-- the lowest place of one pixel more
pub lowest_more : (ps : List Pixel) (i : ℕ) → i < length ps → lowered (lowest_place (take i ps)) (get_or ps i no_pixel) ≡ lowest_place (take (i + 1) ps)
lowest_more ps i h =
    sym (ap lowest_place (take_more ps i no_pixel h) ∙ lowest-push (λ p. p.place) (λ p. is_some p.ending) (take i ps) (get_or ps i no_pixel))

-- pixels of which the first i are changed by f
module _ (f : Pixel → Pixel) (xs ys : List Pixel) (i : ℕ) (h : i < length xs) (inv : ys ≡ map f (take i xs) ++ drop i xs) where
  pub same_length : length ys ≡ length xs
  same_length =
      let a = ap length inv in
      let b = length-append (map f (take i xs)) (drop i xs) in
      let d = length-map (take i xs) f in
      let e = length-take-le i xs (omega arith) in
      let g = length-drop i xs in
      omega arith

  -- pixel i is as before
  pub as_before : get_or ys i no_pixel ≡ get_or xs i no_pixel
  as_before =
      let len : length (map f (take i xs)) ≡ i = length-map (take i xs) f ∙ length-take-le i xs (omega arith) in
      ap (λ zs. get_or zs i no_pixel) inv ∙ get_or-append_right (map f (take i xs)) (drop i xs) i i no_pixel len (omega arith) ∙
      ap (λ k. get_or (drop i xs) k no_pixel) (omega arith) ∙ get_or-drop i xs 0 no_pixel ∙ ap (λ k. get_or xs k no_pixel) (omega arith)

  -- one pixel more is changed
  pub change_more : (q : Pixel) → q ≡ f (get_or ys i no_pixel) → set ys i q ≡ map f (take (i + 1) xs) ++ drop (i + 1) xs
  change_more q e =
      let len = same_length in
      ap (λ p. set ys i p) e ∙ map_over_more f xs ys i (get_or ys i no_pixel) h inv (get_or_default ys i no_pixel (get_or ys i no_pixel) (omega arith))

  -- the lowest place of those that are changed, with one more
  pub change_lowest : (q : Pixel) → q ≡ f (get_or ys i no_pixel) → lowered (lowest_place (map f (take i xs))) q ≡ lowest_place (map f (take (i + 1) xs))
  change_lowest q e =
      let s : map f (take (i + 1) xs) ≡ map f (take i xs) ++ q ∷ [] =
      ap (map f) (take_more xs i no_pixel h) ∙ map_push f (take i xs) (get_or xs i no_pixel) ∙ ap (λ p. map f (take i xs) ++ p ∷ []) (sym (e ∙ ap f as_before)) in
      sym (ap lowest_place s ∙ lowest-push (λ p. p.place) (λ p. is_some p.ending) (map f (take i xs)) q)

module _ (s : Setting) where
  -- the lowest place of sound pixels is a record's
  pub lowest_here : (ps : List Pixel) (place : ℕ) → AllByRecursion (Sound s) ps → lowest_place ps ≡ Some place → (0 < place) × (place < length s.records)
  lowest_here [] place g e = absurd (true≢false (sym (ap is_some e)))
  lowest_here (p ∷ ps) place g e =
      elim (cases_Bool (is_some p.ending)) [
        | inl z ↦ lowest_here ps place g.1 (rw z at e)
        | inr z ↦
            let f : lesser p.place (lowest_place ps) ≡ place = some_same (lesser p.place (lowest_place ps)) place (rw z at e) in
            let a = (g.0 z).placed in
            let b = (g.0 z).here in
            elim (cases_eq p.place place) [
              | inl q ↦ (omega arith, omega arith)
              | inr n ↦ lowest_here ps place g.1 (lesser_other p.place (lowest_place ps) place f n)
            ]
      ]

  -- no pixel has more steps left than the budget
  pub total_left : (ps : List Pixel) → total (machine s).left ps ≤ length ps * s.budget
  total_left [] = omega arith
  total_left (p ∷ ps) = let ih = total_left ps in omega (arith, suc-mul (length ps) s.budget)
