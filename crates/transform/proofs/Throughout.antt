-- Laws of the first fault among places.
use Rattle.std.proofs.Common.{◌≡◌, ℕ, zero, suc, ◌+◌, ◌-◌, ◌<◌, Bool, true, Ok, Err, sym, ap, ◌∙◌, add-zero, add-suc, add-one, arith}
use Rattle.std.proofs.lemmas.Result.{err_from_is_err_and}
use Rattle.std.specs.Result.{IsErrAnd}
use Rattle.transform.specs.Answers.{Answer, demand, ◌and_then◌, throughout}

module _ {F : Type 0} (at : ℕ → Answer F) where
  -- one more place without a fault
  pub throughout_more : (n : ℕ) → throughout at n ≡ Ok tt → Ok tt ≡ at n → throughout at (n + 1) ≡ Ok tt
  throughout_more n h e = rw add-one (ap (λ a. a and_then at n) h ∙ sym e)

  -- a fault stays the answer, however many places follow
  stays : (f : F) (m k : ℕ) → throughout at m ≡ Err f → throughout at (m + k) ≡ Err f
  stays f m zero h = rw add-zero h
  stays f m (suc k) h = rw add-suc (ap (λ a. a and_then at (m + k)) (stays f m k h))

  -- past a count that is kept, the first fault of a place is the answer that is passed on
  pub counted_fault : (kept : Bool) (g f : F) (i n : ℕ) (r : Answer F) → IsErrAnd r (λ e. e ≡ f) → true ≡ kept → i < n → throughout at i ≡ Ok tt → Err f ≡ at i → r ≡ demand kept g and_then throughout at n
  counted_fault kept g f i n r q k l h e =
      let p = err_from_is_err_and r q in
      let all : suc i + (n - suc i) ≡ n = omega arith in
      rw (p.1, p.2) (sym (stays f (suc i) (n - suc i) (ap (λ a. a and_then at i) h ∙ sym e)) ∙ ap (throughout at) all ∙ ap (λ b. demand b g and_then throughout at n) k)
