-- Rounds: what one does to each state, and what the rounds of two batches joined are to each of the two.
use Rattle.std.proofs.Common.{◌≡◌, ℕ, zero, suc, ◌+◌, ◌<◌, ◌≤◌, true, false, List, [], ◌∷◌, ◌++◌, map, Some, None, Option, sym, refl, ap, ◌∙◌, subst, inl, inr, ⊎_elim, arith}
use Rattle.std.specs.List.{AllByRecursion}
use Rattle.std.proofs.lemmas.List.{map-append}
use Rattle.std.proofs.lemmas.Bool.{cases_Bool, cases_eq, eq-eqb, ne_eqb}
use Rattle.schedule.specs.Machine.{Machine, Ends, lone}
use Rattle.schedule.specs.Rounds.{lesser, lowest, turn, round, one_more, rounds_in, total}
use Rattle.schedule.specs.Laws.{Leads}
use Rattle.schedule.proofs.LoneRuns.{after_ended, lone_step}
use Rattle.schedule.proofs.Lowest.{Past, none_some, some_same, parts, lower-none, lesser_other, lesser-le, lowest_running, lowest_over, lowest-append, past_tail, none_ended}

-- what n rounds of two batches joined are to each of the two
pub record Split {S : Type 0} (m : Machine S) (xs ys : List S) (n : ℕ) (zs : List S) : Type 0 where
  pub a : ℕ
  pub b : ℕ
  pub us : List S
  pub vs : List S
  pub first : Leads m xs a us
  pub second : Leads m ys b vs
  pub whole : us ++ vs ≡ zs
  pub sum : n ≤ a + b
  pub a_le : a ≤ n
  pub b_le : b ≤ n

module _ {S : Type 0} (m : Machine S) where
  -- a state that has ended has no turn
  pub turn_over : (p : ℕ) (s : S) → m.ended s ≡ true → turn m p s ≡ s
  turn_over p s e = rw e refl

  -- one that stands at the round's place steps
  pub turn_here : (p : ℕ) (s : S) → m.ended s ≡ false → m.place s ≡ p → turn m p s ≡ m.step s
  turn_here p s e q = rw (e, eq-eqb (m.place s) p q) refl

  -- one that stands elsewhere stays
  pub turn_away : (p : ℕ) (s : S) → m.ended s ≡ false → (m.place s ≡ p → ⊥) → turn m p s ≡ s
  turn_away p s e n = rw (e, ne_eqb (m.place s) p n) refl

  -- in a batch whose places all lie past p the first state has no turn at p
  past_turn : (p : ℕ) (s : S) (ss : List S) → Past p (lowest m (s ∷ ss)) → turn m p s ≡ s
  past_turn p s ss h =
      ⊎_elim (turn_over p s)
      (λ e. turn_away p s e (λ q. let h' : p < lesser (m.place s) (lowest m ss) = rw e at h in omega (arith, lesser-le (m.place s) (lowest m ss))))
      (cases_Bool (m.ended s))

  -- a batch whose places all lie past p is not changed by a round at p
  pub idle : (p : ℕ) (ss : List S) → Past p (lowest m ss) → round m p ss ≡ ss
  idle p [] h = refl
  idle p (s ∷ ss) h =
      let a = past_turn p s ss h in
      let b = idle p ss (past_tail m p s ss h) in
      cc

  -- keep of the rounds of the whole those in which a part has a turn: what is left are the rounds of that part by itself
  pub split : (n : ℕ) (xs ys zs : List S) → Leads m (xs ++ ys) n zs → Split m xs ys n zs
  split zero xs ys zs h =
      let e = lower-none (lowest m xs) (lowest m ys) (sym (lowest-append m xs ys) ∙ h.0) in
      record {
        a = 0;
        b = 0;
        us = xs;
        vs = ys;
        first = (e.0, refl);
        second = (e.1, refl);
        whole = h.1;
        sum = omega arith;
        a_le = omega arith;
        b_le = omega arith;
      }
  split (suc n) xs ys zs h =
      let p = h.0 in
      let r : Leads m (round m p xs ++ round m p ys) n zs = subst (λ ws. Leads m ws n zs) (map-append (turn m p) xs ys) h.2 in
      let ih = split n (round m p xs) (round m p ys) zs r in
      let s = ih.sum in
      let la = ih.a_le in
      let lb = ih.b_le in
      elim (parts (lowest m xs) (lowest m ys) p (sym (lowest-append m xs ys) ∙ h.1)) [
        | inl c ↦ elim c.1 [
          | inl d ↦ record {
            a = suc ih.a;
            b = suc ih.b;
            us = ih.us;
            vs = ih.vs;
            first = (p, c.0, ih.first);
            second = (p, d, ih.second);
            whole = ih.whole;
            sum = omega arith;
            a_le = omega arith;
            b_le = omega arith;
          }
          | inr d ↦ record {
            a = suc ih.a;
            b = ih.b;
            us = ih.us;
            vs = ih.vs;
            first = (p, c.0, ih.first);
            second = subst (λ ws. Leads m ws ih.b ih.vs) (idle p ys d) ih.second;
            whole = ih.whole;
            sum = omega arith;
            a_le = omega arith;
            b_le = omega arith;
          }
        ]
        | inr c ↦ record {
          a = ih.a;
          b = suc ih.b;
          us = ih.us;
          vs = ih.vs;
          first = subst (λ ws. Leads m ws ih.a ih.us) (idle p xs c.0) ih.first;
          second = (p, c.1, ih.second);
          whole = ih.whole;
          sum = omega arith;
          a_le = omega arith;
          b_le = omega arith;
        }
      ]

  -- there is one number of rounds, and one end
  pub one_end : (n k : ℕ) (ss ts us : List S) → Leads m ss n ts → Leads m ss k us → (n ≡ k) × (ts ≡ us)
  one_end zero zero ss ts us h i = (refl, sym h.1 ∙ i.1)
  one_end zero (suc k) ss ts us h i = none_some i.0 (sym h.0 ∙ i.1)
  one_end (suc n) zero ss ts us h i = none_some h.0 (sym i.0 ∙ h.1)
  one_end (suc n) (suc k) ss ts us h i =
      let e : h.0 ≡ i.0 = some_same h.0 i.0 (sym h.1 ∙ i.1) in
      let r : Leads m (round m i.0 ss) n ts = subst (λ p. Leads m (round m p ss) n ts) e h.2 in
      let t = one_end n k (round m i.0 ss) ts us r i.2 in
      (ap suc t.0, t.1)

  -- one more than n at most
  one_more-le : (n : ℕ) (o : Option ℕ) (next : ℕ → ℕ) → ((p : ℕ) → next p ≤ n) → one_more o next ≤ suc n
  one_more-le n None next h = omega arith
  one_more-le n (Some p) next h = let k = h p in omega arith

  -- of n rounds at most there are n at most
  pub rounds_in-le : (n : ℕ) (ss : List S) → rounds_in m n ss ≤ n
  rounds_in-le zero ss = omega arith
  rounds_in-le (suc n) ss = one_more-le n (lowest m ss) (λ p. rounds_in m n (round m p ss)) (λ p. rounds_in-le n (round m p ss))

module _ {S : Type 0} (m : Machine S) {Sound : S → Type 0} (law : Ends m Sound) where
  -- a turn leaves the end of the lone run as it was
  lone_turn : (p : ℕ) (s : S) → Sound s → lone m (turn m p s) ≡ lone m s
  lone_turn p s g =
      elim (cases_Bool (m.ended s)) [
        | inl e ↦ ap (lone m) (turn_over m p s e)
        | inr e ↦ elim (cases_eq (m.place s) p) [
          | inl q ↦ ap (lone m) (turn_here m p s e q) ∙ lone_step m law s g e
          | inr q ↦ ap (lone m) (turn_away m p s e q)
        ]
      ]

  -- so does a round
  pub lone_round : (p : ℕ) (ss : List S) → AllByRecursion Sound ss → map (lone m) (round m p ss) ≡ map (lone m) ss
  lone_round p [] g = refl
  lone_round p (s ∷ ss) g = let a = lone_turn p s g.0 in let b = lone_round p ss g.1 in cc

  -- soundness lasts
  sound_turn : (p : ℕ) (s : S) → Sound s → Sound (turn m p s)
  sound_turn p s g =
      elim (cases_Bool (m.ended s)) [
        | inl e ↦ subst Sound (sym (turn_over m p s e)) g
        | inr e ↦ elim (cases_eq (m.place s) p) [
          | inl q ↦ subst Sound (sym (turn_here m p s e q)) (law.kept s g e)
          | inr q ↦ subst Sound (sym (turn_away m p s e q)) g
        ]
      ]

  -- soundness lasts over a round
  pub sound_round : (p : ℕ) (ss : List S) → AllByRecursion Sound ss → AllByRecursion Sound (round m p ss)
  sound_round p [] g = tt
  sound_round p (s ∷ ss) g = (sound_turn p s g.0, sound_round p ss g.1)

  -- no turn adds steps that are left
  left_turn : (p : ℕ) (s : S) → Sound s → m.left (turn m p s) ≤ m.left s
  left_turn p s g =
      elim (cases_Bool (m.ended s)) [
        | inl e ↦ rw (turn_over m p s e) (omega arith)
        | inr e ↦ elim (cases_eq (m.place s) p) [
          | inl q ↦ let f = law.falls s g e in rw (turn_here m p s e q) (omega arith)
          | inr q ↦ rw (turn_away m p s e q) (omega arith)
        ]
      ]

  -- nor does a round
  left_round : (p : ℕ) (ss : List S) → AllByRecursion Sound ss → total m.left (round m p ss) ≤ total m.left ss
  left_round p [] g = omega arith
  left_round p (s ∷ ss) g = omega (arith, left_turn p s g.0, left_round p ss g.1)

  -- a round takes a step at least
  pub left_falls : (p : ℕ) (ss : List S) → AllByRecursion Sound ss → lowest m ss ≡ Some p → total m.left (round m p ss) < total m.left ss
  left_falls p [] g h = none_some p h
  left_falls p (s ∷ ss) g h =
      let ih = left_falls p ss g.1 in
      let a = left_turn p s g.0 in
      let b = left_round p ss g.1 in
      elim (cases_Bool (m.ended s)) [
        | inl e ↦ omega (arith, a, ih (sym (lowest_over m s ss e) ∙ h))
        | inr e ↦ elim (cases_eq (m.place s) p) [
          | inl q ↦
              let f = law.falls s g.0 e in
              let k : m.left (turn m p s) < m.left s = rw (turn_here m p s e q) (omega arith) in
              omega (arith, k, b)
          | inr q ↦ omega (arith, a, ih (lesser_other (m.place s) (lowest m ss) p (some_same (lesser (m.place s) (lowest m ss)) p (sym (lowest_running m s ss e) ∙ h)) q))
        ]
      ]

  -- where all have ended, each is the end of its lone run
  pub lone-none : (ss : List S) → lowest m ss ≡ None → ss ≡ map (lone m) ss
  lone-none [] h = refl
  lone-none (s ∷ ss) h = let e = none_ended m s ss h in let a = after_ended m (m.left s) s e.0 in let b = lone-none ss e.1 in cc

  -- the rounds lead to the ends of the lone runs
  pub leads_in : (n : ℕ) (ss : List S) → AllByRecursion Sound ss → total m.left ss ≤ n → Leads m ss (rounds_in m n ss) (map (lone m) ss)
  leads_in zero ss g h = go (lowest m ss) refl
    where
      go : (o : Option ℕ) → lowest m ss ≡ o → Leads m ss 0 (map (lone m) ss)
      go None e = (e, lone-none ss e)
      go (Some p) e = let f = left_falls p ss g e in absurd (omega arith)
  leads_in (suc n) ss g h = go (lowest m ss) refl (λ p f. leads_in n (round m p ss) (sound_round p ss g) f)
    where
      go : (o : Option ℕ) → lowest m ss ≡ o → ((p : ℕ) → total m.left (round m p ss) ≤ n → Leads m (round m p ss) (rounds_in m n (round m p ss)) (map (lone m) (round m p ss))) →
          Leads m ss (one_more (lowest m ss) (λ p. rounds_in m n (round m p ss))) (map (lone m) ss)
      go None e ih = rw e (e, lone-none ss e)
      go (Some p) e ih =
          let f = left_falls p ss g e in
          let r = ih p (omega arith) in
          let r' : Leads m (round m p ss) (rounds_in m n (round m p ss)) (map (lone m) ss) = subst (λ ts. Leads m (round m p ss) (rounds_in m n (round m p ss)) ts) (lone_round p ss g) r in
          subst (λ o. Leads m ss (one_more o (λ p. rounds_in m n (round m p ss))) (map (lone m) ss)) (sym e) (p, e, r')
