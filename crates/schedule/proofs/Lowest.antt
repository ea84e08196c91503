-- The lowest place of a batch, and of two batches joined.
use Rattle.std.proofs.Common.{◌≡◌, ℕ, ◌<◌, ◌≤◌, min, Bool, true, false, cond, ◌≢◌, ◌⊎◌, List, [], ◌∷◌, ◌++◌, Some, None, Option, sym, refl, ap, ◌∙◌, inl, inr, ⊎_elim, arith}
use Rattle.std.proofs.lemmas.Bool.{cases_Bool, cases_eq}
use Rattle.schedule.specs.Machine.{Machine}
use Rattle.schedule.specs.Rounds.{lesser, lower, lowest_by, lowest}

-- every place of a batch lies past p
abbrev pub Past : ℕ → Option ℕ → Type 0
Past p None = Unit {0}
Past p (Some q) = p < q

-- there is a place or there is none, not both
pub none_some : {X : Type 0} (p : ℕ) → None ≡ Some p → X
none_some p e = let z : ◌≡◌ {A = ℕ} 0 1 = cc in absurd (omega arith)

-- the place that there is, is one
pub some_same : (p q : ℕ) → Some p ≡ Some q → p ≡ q
some_same p q e = cc

-- the lesser of a place and another is no more than the place
pub lesser-le : (p : ℕ) (o : Option ℕ) → lesser p o ≤ p
lesser-le p None = omega arith
lesser-le p (Some q) = omega arith

-- the lesser of three places, taken from either side
pub lesser_lower : (p : ℕ) (a b : Option ℕ) → lesser p (lower a b) ≡ lesser (lesser p a) b
lesser_lower p None b = refl
lesser_lower p (Some q) None = refl
lesser_lower p (Some q) (Some r) = omega arith

-- a batch has its round at p, or all its places lie past p
abbrev pub Rest : Option ℕ → ℕ → Type 0
Rest o p = (o ≡ Some p) ⊎ Past p o

-- in a round of two batches joined one of them has its round, and the other too or is past it
pub parts : (a b : Option ℕ) (p : ℕ) → lower a b ≡ Some p → ((a ≡ Some p) × Rest b p) ⊎ (Past p a × (b ≡ Some p))
parts None b p e = inr (tt, e)
parts (Some q) None p e = inl (e, inr tt)
parts (Some q) (Some r) p e =
    let f : min q r ≡ p = cc in
    elim (cases_eq q p) [
      | inl h ↦ inl (ap {B = Option ℕ} Some h, elim (cases_eq r p) [ inl k ↦ inl (ap {B = Option ℕ} Some k) | inr k ↦ inr (omega (arith, k)) ])
      | inr h ↦ inr (omega (arith, h), ap {B = Option ℕ} Some (let g : q ≢ p = h in omega arith))
    ]

-- there is no lower place where neither has one
pub lower-none : (a b : Option ℕ) → lower a b ≡ None → (a ≡ None) × (b ≡ None)
lower-none None b e = (refl, e)
lower-none (Some p) b e = none_some (lesser p b) (sym e)

-- the lesser is the other where it is not the one
pub lesser_other : (q : ℕ) (o : Option ℕ) (p : ℕ) → lesser q o ≡ p → q ≢ p → o ≡ Some p
lesser_other q None p e n = absurd (n e)
lesser_other q (Some r) p e n = ap {B = Option ℕ} Some (omega arith)

-- the lowest place with one state more at the end
pub lowest-push : {S : Type 0} (place : S → ℕ) (ended : S → Bool) (ss : List S) (s : S) →
    lowest_by place ended (ss ++ s ∷ []) ≡ cond (ended s) (lowest_by place ended ss) (lower (lowest_by place ended ss) (Some (place s)))
lowest-push place ended [] s = refl
lowest-push place ended (x ∷ ss) s =
    let ih = lowest-push place ended ss s in
    elim (cases_Bool (ended x)) [
      | inl e ↦ rw e ih
      | inr e ↦ elim (cases_Bool (ended s)) [
        | inl f ↦ let k : lowest_by place ended (ss ++ s ∷ []) ≡ lowest_by place ended ss = rw f at ih in rw f (rw e (ap (λ o. Some (lesser (place x) o)) k))
        | inr f ↦
            let k : lowest_by place ended (ss ++ s ∷ []) ≡ lower (lowest_by place ended ss) (Some (place s)) = rw f at ih in
            rw f (rw e (ap (λ o. Some (lesser (place x) o)) k ∙ ap {B = Option ℕ} Some (lesser_lower (place x) (lowest_by place ended ss) (Some (place s)))))
      ]
    ]

module _ {S : Type 0} (m : Machine S) where
  -- a state that has not ended counts
  pub lowest_running : (s : S) (ss : List S) → m.ended s ≡ false → lowest m (s ∷ ss) ≡ Some (lesser (m.place s) (lowest m ss))
  lowest_running s ss e = rw e refl

  -- one that has ended does not
  pub lowest_over : (s : S) (ss : List S) → m.ended s ≡ true → lowest m (s ∷ ss) ≡ lowest m ss
  lowest_over s ss e = rw e refl

  -- the lowest place of two batches joined
  pub lowest-append : (xs ys : List S) → lowest m (xs ++ ys) ≡ lower (lowest m xs) (lowest m ys)
  lowest-append [] ys = refl
  lowest-append (x ∷ xs) ys =
      let ih = lowest-append xs ys in
      ⊎_elim (λ e. rw e ih)
      (λ e. rw e (rw ih (ap {B = Option ℕ} Some (lesser_lower (m.place x) (lowest m xs) (lowest m ys)))))
      (cases_Bool (m.ended x))

  -- what lies past p does so without its first state
  pub past_tail : (p : ℕ) (s : S) (ss : List S) → Past p (lowest m (s ∷ ss)) → Past p (lowest m ss)
  past_tail p s ss h = go (lowest m ss) refl
    where
      go : (o : Option ℕ) → lowest m ss ≡ o → Past p (lowest m ss)
      go None e = rw e tt
      go (Some q) e =
          ⊎_elim (λ b. rw b at h) (λ b. rw e (let h' : Past p (Some (lesser (m.place s) (Some q))) = rw e at (rw b at h) in omega arith)) (cases_Bool (m.ended s))

  -- where there is no place, all have ended
  pub none_ended : (s : S) (ss : List S) → lowest m (s ∷ ss) ≡ None → (m.ended s ≡ true) × (lowest m ss ≡ None)
  none_ended s ss h =
      elim (cases_Bool (m.ended s)) [
        | inl e ↦ (e, sym (lowest_over s ss e) ∙ h)
        | inr e ↦ none_some (lesser (m.place s) (lowest m ss)) (sym h ∙ lowest_running s ss e)
      ]
