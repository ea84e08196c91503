-- The laws of rounds, for any machine whose steps bring the steps that are left down.
use Rattle.std.proofs.Common.{◌≡◌, ℕ, zero, suc, ◌≤◌, eqb, List, [], ◌∷◌, ◌++◌, map, Some, None, sym, refl, ap, ◌∙◌, inl, inr, arith}
use Rattle.std.specs.List.{AllByRecursion}
use Rattle.std.proofs.ByRecursion.{All-append}
use Rattle.std.proofs.lemmas.Bool.{cases_Bool, eq-eqb, cond-true}
use Rattle.schedule.specs.Machine.{Machine, Ends, lone, steps_in, steps}
use Rattle.schedule.specs.Rounds.{lowest, round, rounds_in, total, rounds}
use Rattle.schedule.specs.Laws.{Company, Alone, Joined, Bounded, Longest, Cut, Laws, chained}
use Rattle.schedule.proofs.LoneRuns.{steps_ended, counted_in}
use Rattle.schedule.proofs.Rounds.{split, one_end, rounds_in-le, sound_round, leads_in}

module _ {S : Type 0} (m : Machine S) {Sound : S → Type 0} (law : Ends m Sound) where
  -- the rounds lead to the lone runs' ends, and nothing else does
  pub company : Company m Sound
  company ss g =
      let l = leads_in m law (total m.left ss) ss g (omega arith) in
      (l, λ n ts h. one_end m n (rounds m ss) ss ts (map (lone m) ss) h l)

  -- the rounds of the whole are split into those of the parts
  pub joined : Joined m Sound
  joined xs ys g h =
      let w = (company (xs ++ ys) (All-append Sound xs ys g h)).0 in
      let s = split m (rounds m (xs ++ ys)) xs ys (map (lone m) (xs ++ ys)) w in
      let a = ((company xs g).1 s.a s.us s.first).0 in
      let b = ((company ys h).1 s.b s.vs s.second).0 in
      let u = s.sum in
      let v = s.a_le in
      let x = s.b_le in
      (omega arith, omega arith, omega arith)

  -- a batch of one, of any numbers of rounds and steps that are enough
  alone_in : (n k : ℕ) (s : S) → Sound s → m.left s ≤ n → m.left s ≤ k → rounds_in m n (s ∷ []) ≡ steps_in m k s
  alone_in zero k s g hn hk =
      elim (cases_Bool (m.ended s)) [ inl e ↦ sym (steps_ended m k s e) | inr e ↦ let f = law.falls s g e in absurd (omega arith) ]
  alone_in (suc n) zero s g hn hk =
      elim (cases_Bool (m.ended s)) [ inl e ↦ rw e refl | inr e ↦ let f = law.falls s g e in absurd (omega arith) ]
  alone_in (suc n) (suc k) s g hn hk =
      elim (cases_Bool (m.ended s)) [
        | inl e ↦ rw e refl
        | inr e ↦
            let f = law.falls s g e in
            let ih = alone_in n k (m.step s) (law.kept s g e) (omega arith) (omega arith) in
            let t = cond-true (eqb (m.place s) (m.place s)) (m.step s) s (eq-eqb (m.place s) (m.place s) refl) in
            rw e (ap suc (ap (λ x. rounds_in m n (x ∷ [])) t ∙ ih))
      ]

  -- a batch of one takes a round for each step
  pub alone : Alone m Sound
  alone s g = alone_in (total m.left (s ∷ [])) (m.left s) s g (omega arith) (omega arith)

  -- the batch is its states joined one by one
  pub bounded : Bounded m Sound
  bounded [] g = omega arith
  bounded (s ∷ ss) g =
      let j = (joined (s ∷ []) ss (g.0, tt) g.1).0 in
      let a = alone s g.0 in
      let b = bounded ss g.1 in
      omega arith

  -- a round counts one
  pub rounds_step : (p : ℕ) (ss : List S) → AllByRecursion Sound ss → lowest m ss ≡ Some p → rounds m ss ≡ suc (rounds m (round m p ss))
  rounds_step p ss g e =
      let next = (company (round m p ss) (sound_round m law p ss g)).0 in
      sym ((company ss g).1 (suc (rounds m (round m p ss))) (map (lone m) (round m p ss)) (p, e, next)).0

  -- none is left where all have ended
  pub rounds_none : (ss : List S) → AllByRecursion Sound ss → lowest m ss ≡ None → rounds m ss ≡ 0
  rounds_none ss g e = sym ((company ss g).1 0 ss (e, refl)).0

  -- there are no more rounds than steps left in all
  pub rounds_left : (ss : List S) → rounds m ss ≤ total m.left ss
  rounds_left ss = rounds_in-le m (total m.left ss) ss

  -- what keeps a bound keeps a higher one
  weaker : {X : Type 0} (f : X → ℕ) (a b : ℕ) → a ≤ b → (xs : List X) → AllByRecursion (λ x. f x ≤ a) xs → AllByRecursion (λ x. f x ≤ b) xs
  weaker f a b h [] g = tt
  weaker f a b h (x ∷ xs) g = let k = g.0 in (omega arith, weaker f a b h xs g.1)

  -- each state is a part of its batch
  pub longest : Longest m Sound
  longest [] g = tt
  longest (s ∷ ss) g =
      let j = joined (s ∷ []) ss (g.0, tt) g.1 in
      let a = alone s g.0 in
      let x = j.1 in
      (omega arith, weaker (steps m) (rounds m ss) (rounds m (s ∷ ss)) j.2 ss (longest ss g.1))

  -- sound batches in order are sound
  sound_chained : (bs : List (List S)) → AllByRecursion (AllByRecursion Sound) bs → AllByRecursion Sound (chained bs)
  sound_chained [] g = tt
  sound_chained (b ∷ bs) g = All-append Sound b (chained bs) g.0 (sound_chained bs g.1)

  -- the whole is its parts joined one by one
  pub cut : Cut m Sound
  cut [] g = (omega arith, tt)
  cut (b ∷ bs) g =
      let j = joined b (chained bs) g.0 (sound_chained bs g.1) in
      let ih = cut bs g.1 in
      let x = j.0 in
      let y = ih.0 in
      (omega arith, (j.1, weaker (rounds m) (rounds m (chained bs)) (rounds m (b ++ chained bs)) j.2 bs ih.1))

  -- all laws hold of a machine whose steps bring the steps that are left down
  pub laws : Laws m Sound
  laws = record { counted = λ s g. counted_in m law (m.left s) s g (omega arith); company = company; alone = alone; joined = joined; bounded = bounded; longest = longest; cut = cut }
