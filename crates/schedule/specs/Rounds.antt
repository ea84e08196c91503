-- The rounds in which several states of a machine run together.
use Rattle.std.specs.Prelude.{ℕ, zero, suc, ◌+◌, min, Bool, if◌then◌else◌, List, [], ◌∷◌, map, Some, None, Option, ◌==◌}
use Rattle.schedule.specs.Machine.{Machine}

-- the lesser of a place and another one, if there is another
abbrev pub lesser : ℕ → Option ℕ → ℕ
lesser p None = p
lesser p (Some q) = min p q

-- the lower of two places, where there are any
abbrev pub lower : Option ℕ → Option ℕ → Option ℕ
lower None o = o
lower (Some p) o = Some (lesser p o)

-- the lowest place of the states that have not ended, by the states' places and endings
abbrev pub lowest_by : {S : Type 0} → (S → ℕ) → (S → Bool) → List S → Option ℕ
lowest_by place ended [] = None
lowest_by place ended (s ∷ ss) = if ended s then lowest_by place ended ss else lower (Some (place s)) (lowest_by place ended ss)

-- the lowest place at which a state stands that has not ended; none where all have ended
abbrev pub lowest : {S : Type 0} → Machine S → List S → Option ℕ
lowest m ss = lowest_by m.place m.ended ss

-- in a round at the place p a state takes its step if it has not ended and stands there
abbrev pub turn : {S : Type 0} → Machine S → ℕ → S → S
turn m p s = if m.ended s then s else if m.place s == p then m.step s else s

-- the states after a round at the place p
abbrev pub round : {S : Type 0} → Machine S → ℕ → List S → List S
round m p ss = map (turn m p) ss

-- a round more where a place is given, and none where it is not
abbrev pub one_more : Option ℕ → (ℕ → ℕ) → ℕ
one_more None next = 0
one_more (Some p) next = suc (next p)

-- how many rounds are taken until all have ended, each at the lowest place, of n at most
abbrev pub rounds_in : {S : Type 0} → Machine S → ℕ → List S → ℕ
rounds_in m zero ss = 0
rounds_in m (suc n) ss = one_more (lowest m ss) (λ p. rounds_in m n (round m p ss))

-- the sum of f over a list
abbrev pub total : {S : Type 0} → (S → ℕ) → List S → ℕ
total f [] = 0
total f (s ∷ ss) = f s + total f ss

-- the rounds of a batch: each takes a step at least, so there are no more than steps are left in all
abbrev pub rounds : {S : Type 0} → Machine S → List S → ℕ
rounds m ss = rounds_in m (total m.left ss) ss
