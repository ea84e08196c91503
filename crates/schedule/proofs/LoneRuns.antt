-- The laws of a run by itself, for any machine whose steps bring the steps that are left down.
use Rattle.std.proofs.Common.{◌≡◌, ℕ, zero, suc, ◌≤◌, true, false, sym, refl, ◌∙◌, subst, inl, inr, arith}
use Rattle.std.proofs.lemmas.Bool.{cases_Bool, cond-true, cond-false}
use Rattle.schedule.specs.Machine.{Machine, Ends, Reaches, after, lone, steps_in}

module _ {S : Type 0} (m : Machine S) where
  -- a state that has ended stays
  pub after_ended : (n : ℕ) (s : S) → m.ended s ≡ true → after m n s ≡ s
  after_ended zero s e = refl
  after_ended (suc n) s e = cond-true (m.ended s) s (after m n (m.step s)) e

  -- and takes no step
  pub steps_ended : (n : ℕ) (s : S) → m.ended s ≡ true → steps_in m n s ≡ 0
  steps_ended zero s e = refl
  steps_ended (suc n) s e = cond-true (m.ended s) 0 (suc (steps_in m n (m.step s))) e

  -- an end that is reached within n steps is the state after n steps
  pub after_reached : (k : ℕ) (s t : S) → Reaches m s k t → (n : ℕ) → k ≤ n → after m n s ≡ t
  after_reached zero s t r n l = after_ended n s r.0 ∙ r.1
  after_reached (suc k) s t r zero l = absurd (omega arith)
  after_reached (suc k) s t r (suc n) l = cond-false (m.ended s) s (after m n (m.step s)) r.0 ∙ after_reached k (m.step s) t r.1 n (omega arith)

  module _ {Sound : S → Type 0} (law : Ends m Sound) where
    -- no end lies further off than the steps that are left
    pub reached_within : (k : ℕ) (s t : S) → Sound s → Reaches m s k t → k ≤ m.left s
    reached_within zero s t g r = omega arith
    reached_within (suc k) s t g r =
        let ih = reached_within k (m.step s) t (law.kept s g r.0) r.1 in
        let f = law.falls s g r.0 in
        omega arith

    -- the end that is reached from a sound state is its lone run's, however it is reached
    pub lone_reached : (k : ℕ) (s t : S) → Sound s → Reaches m s k t → lone m s ≡ t
    lone_reached k s t g r = after_reached k s t r (m.left s) (reached_within k s t g r)

    -- a sound state comes to an end within any number of steps that is not below what is left
    pub ends_within : (n : ℕ) (s : S) → Sound s → m.left s ≤ n → (k : ℕ) × Reaches m s k (after m n s)
    ends_within zero s g l =
        elim (cases_Bool (m.ended s)) [
          | inl e ↦ (0, (e, refl))
          | inr e ↦ let f = law.falls s g e in absurd (omega arith)
        ]
    ends_within (suc n) s g l =
        elim (cases_Bool (m.ended s)) [
          | inl e ↦ (0, (e, sym (after_ended (suc n) s e)))
          | inr e ↦
              let f = law.falls s g e in
              let ih = ends_within n (m.step s) (law.kept s g e) (omega arith) in
              (suc ih.0, (e, subst (Reaches m (m.step s) ih.0) (sym (cond-false (m.ended s) s (after m n (m.step s)) e)) ih.1))
        ]

    -- a sound state's lone run ends
    pub lone_ends : (s : S) → Sound s → (k : ℕ) × Reaches m s k (lone m s)
    lone_ends s g = ends_within (m.left s) s g (omega arith)

    -- a step leaves the end of the lone run as it was
    pub lone_step : (s : S) → Sound s → m.ended s ≡ false → lone m (m.step s) ≡ lone m s
    lone_step s g e =
        let r = lone_ends (m.step s) (law.kept s g e) in
        sym (lone_reached (suc r.0) s (lone m (m.step s)) g (e, r.1))

    -- the end lies as many steps off as are taken, of any number that is not below what is left
    pub counted_in : (n : ℕ) (s : S) → Sound s → m.left s ≤ n → Reaches m s (steps_in m n s) (after m n s)
    counted_in zero s g l =
        elim (cases_Bool (m.ended s)) [
          | inl e ↦ (e, refl)
          | inr e ↦ let f = law.falls s g e in absurd (omega arith)
        ]
    counted_in (suc n) s g l =
        elim (cases_Bool (m.ended s)) [
          | inl e ↦ rw e (e, refl)
          | inr e ↦
              let f = law.falls s g e in
              let ih = counted_in n (m.step s) (law.kept s g e) (omega arith) in
              rw e (e, ih)
        ]
