-- What the counts of a tally come to, mark by mark.
use Rattle.std.proofs.Common.{◌≡◌, ℕ, ◌+◌, ◌*◌, ◌<◌, ◌≤◌, cond, eqb, ◌≢◌, ◌⊎◌, List, [], ◌∷◌, ◌++◌, length, get_or, set, sym, refl, ap, ◌∙◌, subst, inl, inr, arith, lit<, length-set, get_or-set_other, get_or-set_same}
use Rattle.std.proofs.lemmas.List.{get_or_past}
use Rattle.std.proofs.lemmas.Bool.{cond-true, cond-false, eq-eqb, ne_eqb, cases_eq, cond_both, cases_lt}
use Rattle.number.specs.declared.kind.Stop.TheVariants.{DivisionByZero, OutOfRange}
use Rattle.engine.specs.Endings.{ending_number}
use Rattle.engine.specs.declared.ending.Ending.{Ending}
use Rattle.engine.specs.declared.ending.Ending.TheVariants.{Done, Stopped, OutsideTable, Spent}
use Rattle.call.specs.declared.mark.Mark.{Mark}
use Rattle.call.specs.declared.tally.Tally.{Tally}
use Rattle.call.specs.Tallies.{most_served, Sound, ended, Counted, added, Tallied}

-- there are five endings
pub five_endings : (e : Ending) → ending_number e < 5
five_endings Done = lit< tt
five_endings (Stopped DivisionByZero) = lit< tt
five_endings (Stopped OutOfRange) = lit< tt
five_endings OutsideTable = lit< tt
five_endings Spent = lit< tt

-- an ending is counted at most once for each mark
pub ended-le : (e : ℕ) (ms : List Mark) → ended e ms ≤ length ms
ended-le e [] = omega arith
ended-le e (m ∷ ms) = let ih = ended-le e ms in cond_both (eqb (ending_number m.ending) e) 1 0 (λ k. k + ended e ms ≤ length (m ∷ ms)) (λ _. omega arith) (λ _. omega arith)

ended-push : (e : ℕ) (ms : List Mark) (m : Mark) → ended e (ms ++ m ∷ []) ≡ ended e ms + cond (eqb (ending_number m.ending) e) 1 0
ended-push e [] m = omega arith
ended-push e (x ∷ ms) m = let ih = ended-push e ms m in omega arith

-- the counts once the ending with the number n is counted
abbrev raised : List ℕ → ℕ → List ℕ
raised counts n = set counts n (get_or counts n 0 + 1)

counted_at : (before t : Tally) (ms : List Mark) (m : Mark) → Counted before ms t → (e : ℕ) → e < 5 → (ending_number m.ending ≡ e) ⊎ (ending_number m.ending ≡ e → ⊥)
    → get_or (raised t.endings (ending_number m.ending)) e 0 ≡ get_or before.endings e 0 + ended e (ms ++ m ∷ [])
counted_at before t ms m h e le (inl same) =
    let n = ending_number m.ending in
    let lt : n < length t.endings = omega (arith, h.five) in
    let a : get_or (raised t.endings n) e 0 ≡ get_or t.endings e 0 + 1 =
    subst (λ k. get_or (raised t.endings n) k 0 ≡ get_or t.endings k 0 + 1) same (get_or-set_same t.endings n _ 0 lt) in
    let b = ended-push e ms m in
    let d : ◌≡◌ {A = ℕ} (cond (eqb n e) 1 0) 1 = cond-true _ 1 0 (eq-eqb n e same) in
    omega (arith, h.endings e le)
counted_at before t ms m h e le (inr other) =
    let n = ending_number m.ending in
    let ne : e ≢ n = λ x. other (sym x) in
    let a : get_or (raised t.endings n) e 0 ≡ get_or t.endings e 0 = rw get_or-set_other refl in
    let b = ended-push e ms m in
    let d : ◌≡◌ {A = ℕ} (cond (eqb n e) 1 0) 0 = cond-false _ 1 0 (ne_eqb n e other) in
    omega (arith, h.endings e le)

-- one mark more
pub counted_more : (before t : Tally) (ms ns : List Mark) (m : Mark) (n : ℕ) → Counted before ms t → n ≡ ending_number m.ending → ms ++ m ∷ [] ≡ ns
    → Counted before ns (record { endings = raised t.endings n; served = t.served; rounds = t.rounds })
counted_more before t ms ns m n h e q = record {
  endings = λ k lt. ap (λ i. get_or (raised t.endings i) k 0) e ∙ counted_at before t ms m h k lt (cases_eq (ending_number m.ending) k) ∙ ap (λ xs. get_or before.endings k 0 + ended k xs) q;
  served = h.served;
  rounds = h.rounds;
  five = length-set t.endings n _ ∙ h.five;
}

endings_le : (t u : Tally) (ms : List Mark) → Sound t → Counted t ms u → (e : ℕ) → (e < 5) ⊎ (5 ≤ e) → get_or u.endings e 0 ≤ u.served + length ms
endings_le t u ms h k e (inl lt) = let a = ended-le e ms in let b = k.endings e lt in let d = h.1 e in omega (arith, k.served)
endings_le t u ms h k e (inr ge) =
    let far : length u.endings ≤ e = omega (arith, k.five) in
    let z : get_or u.endings e 0 ≡ 0 = get_or_past u.endings e 0 far in
    omega arith

-- the sums stay within their bounds
sound_more : (t u : Tally) (ms : List Mark) (r : ℕ) → Sound t → Counted t ms u → t.served + length ms ≤ most_served → r ≤ 65535 * length ms → Sound (added u (length ms) r)
sound_more t u ms r h k room few =
    (omega (arith, k.served), λ e. endings_le t u ms h k e (cases_lt e 5), omega (arith, k.served, k.rounds, h.2))

-- a tally whose endings are counted, with the pixels and the rounds added
pub tallied : (t u v : Tally) (ms : List Mark) (r : ℕ) → Sound t → Counted t ms u → v ≡ added u (length ms) r → t.served + length ms ≤ most_served → r ≤ 65535 * length ms → Tallied t ms r v × Sound v
tallied t u v ms r h k e room few =
    subst (λ w. Tallied t ms r w × Sound w) (sym e) (
      record { endings = k.endings; served = ap (λ n. n + length ms) k.served; sum = ap (λ n. n + r) k.rounds },
      sound_more t u ms r h k room few,
    )
