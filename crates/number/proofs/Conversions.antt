-- Whole numbers as floats, and floats made whole.
use Rattle.std.specs.Prelude.{◌≡◌, ℕ, suc, ◌^◌, ◌≤◌, true, false, ℤ, pos, negsuc, Ok, Err, Result, FitsSigned, unsigned_abs, refl, Float, MatchResult, IsErrAnd}
use Rattle.std.proofs.Common.{sym, ap, ◌∙◌, arith, to_z, of_z}
use borrow.Author.Differences.{ints}
use Rattle.std.specs.Int.{w32, w64}
use Rattle.std.specs.Result.{OkIff}
use Rattle.std.specs.Float.{nan, inf, fin, binary32}
use Rattle.std.specs.Float.Ieee.{is_nan, of_int, round, to_signed}
use Rattle.std.specs.Float.Ieee.Bits.{of_bits-to_bits}
use Rattle.std.specs.Float.Ieee.Fits.{of_int-fits}
use Rattle.std.specs.Float.Ieee.Exact.{HasValue}
use Rattle.std.specs.Float.Ieee.Back.{round_whole}
use Rattle.std.specs.Float.Ieee.Casts.{to_signed_in}
use Rattle.std.proofs.lemmas.Int.{to_z-of_z}
use Rattle.number.specs.declared.kind.Stop.{Stop}
use Rattle.number.specs.declared.kind.Stop.TheVariants.{OutOfRange}
use Rattle.number.specs.Float.{value, pattern, Exactly, whole_part}

-- a whole number up to 2 ^ 24 in size is written exactly
exactly_pos : (x : Float) (n : ℕ) → HasValue x false n 1 → Exactly x (pos n)
exactly_pos nan n v = v
exactly_pos (inf s) n v = v
exactly_pos (fin s m e) n v = grind arith

exactly_neg : (x : Float) (n : ℕ) → HasValue x true (suc n) 1 → Exactly x (negsuc n)
exactly_neg nan n v = v
exactly_neg (inf s) n v = v
exactly_neg (fin s m e) n v = grind arith

of_int_exact : (z : ℤ) → unsigned_abs z ≤ 2 ^ 24 → Exactly (of_int binary32 z) z
unfolding of_int
of_int_exact (pos n) h = exactly_pos (round binary32 false n 1) n (round_whole binary32 false n h)
of_int_exact (negsuc n) h = exactly_neg (round binary32 true (suc n) 1) n (round_whole binary32 true (suc n) h)

exact : (z : ℤ) → unsigned_abs z ≤ 2 ^ 24 → Exactly (value (pattern (of_int binary32 z))) z
exact z h = rw (of_bits-to_bits binary32 (of_int binary32 z) (of_int-fits binary32 z)) (of_int_exact z h)

-- the word that the code writes for z
pub exact_word : (z : ℤ) (w : ℕ) → FitsSigned w32 z → w ≡ pattern (of_int binary32 (to_z w32 (of_z w32 z))) → unsigned_abs z ≤ 2 ^ 24 → Exactly (value w) z
exact_word z w f e h = rw (e, to_z-of_z w32 z f) (exact z h)

-- a float made whole, by way of 64 bits
abbrev Answer : Type 0
Answer = Result ℤ Stop

cut_in : (x : Float) → false ≡ is_nan x → FitsSigned w32 (to_signed 63 x) → ◌≡◌ {A = Answer} (whole_part x) (Ok (to_signed 63 x))
unfolding is_nan to_signed
cut_in nan n f = cc
cut_in (inf true) n f = grind (arith, ints)
cut_in (inf false) n f = grind (arith, ints)
cut_in (fin true m e) n f = grind (arith, ints)
cut_in (fin false m e) n f = grind (arith, ints)

cut_out : (x : Float) → (FitsSigned w32 (to_signed 63 x) → ⊥) → ◌≡◌ {A = Answer} (whole_part x) (Err OutOfRange)
unfolding to_signed
cut_out nan f = refl
cut_out (inf s) f = refl
cut_out (fin true m e) f = grind (arith, ints)
cut_out (fin false m e) f = grind (arith, ints)

-- `saturating_f32_to_i64` answers a number of 64 bits
back64 : (x : Float) (z : ℤ) → z ≡ to_signed 63 x → to_z w64 (of_z w64 z) ≡ to_signed 63 x
back64 x z e = rw e (to_z-of_z w64 (to_signed 63 x) (record { sfits = to_signed_in 63 x }))

-- what `try_from` answers of it, with its error replaced, is the answer for x
pub whole_is : {E : Type 0} {P : E → Stop → Type 0} → (x : Float) (z : ℤ) (t : Result ℤ E) (r : Answer) → false ≡ is_nan x → z ≡ to_signed 63 x
    → OkIff t (FitsSigned w32 (to_z w64 (of_z w64 z))) (to_z w64 (of_z w64 z))
    → ((b : E) (s : Stop) → P b s → s ≡ OutOfRange) → MatchResult t (λ n. r ≡ Ok n) (λ b. IsErrAnd r (P b)) → r ≡ whole_part x
whole_is x z (Ok n) r k e (f, g) p m = m ∙ ap Ok (g ∙ back64 x z e) ∙ sym (cut_in x k (rw (back64 x z e) at f))
whole_is x z (Err b) (Ok n) k e f p m = absurd m
whole_is x z (Err b) (Err s) k e f p m = ap Err (p b s m) ∙ sym (cut_out x (λ g. f (rw (back64 x z e) g)))

-- no number is the whole part of a NaN
pub whole_nan : (x : Float) → true ≡ is_nan x → ◌≡◌ {A = Answer} (Err OutOfRange) (whole_part x)
unfolding is_nan
whole_nan nan e = refl
whole_nan (inf s) e = cc
whole_nan (fin s m e) h = cc

-- in range, the bits of 64 cut to 32 hold the whole part
pub whole_in : (x : Float) (z n : ℤ) → false ≡ is_nan x → z ≡ to_signed 63 x → FitsSigned w32 (to_z w64 (of_z w64 z)) → n ≡ to_z w64 (of_z w64 z)
    → ◌≡◌ {A = Answer} (Ok (to_z w32 (of_z w32 n))) (whole_part x)
whole_in x z n k e f g =
    let back = back64 x z e in
    let fits : FitsSigned w32 (to_signed 63 x) = rw back at f in
    ap (λ (y : ℤ). Ok (to_z w32 (of_z w32 y))) (g ∙ back) ∙ ap Ok (to_z-of_z w32 (to_signed 63 x) fits) ∙ sym (cut_in x k fits)

-- out of range there is none, of a NaN too
pub whole_out : (x : Float) (z : ℤ) → z ≡ to_signed 63 x → (FitsSigned w32 (to_z w64 (of_z w64 z)) → ⊥) → ◌≡◌ {A = Answer} (Err OutOfRange) (whole_part x)
whole_out x z e f = sym (cut_out x (λ g. f (rw (back64 x z e) g)))
