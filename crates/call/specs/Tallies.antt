-- What a call counts.
use Rattle.std.specs.Prelude.{◌≡◌, ℕ, ◌+◌, ◌*◌, ◌<◌, ◌≤◌, if◌then◌else◌, List, [], ◌∷◌, length, ◌==◌, slice_index}
use Rattle.engine.specs.Endings.{ending_number}
use Rattle.call.specs.declared.mark.Mark.{Mark}
use Rattle.call.specs.declared.tally.Tally.{Tally}

-- no call serves more pixels than this, repeats counted
abbrev pub most_served : ℕ
most_served = 16777216

-- what keeps the sums within their types: no ending is counted more often than pixels are served, and no pixel has more rounds than the largest budget
abbrev pub Sound : Tally → Type 0
Sound t = (t.served ≤ most_served) × ((e : ℕ) → slice_index t.endings e ≤ t.served) × (t.rounds ≤ 65535 * t.served)

-- the tally of a call just armed
abbrev pub empty : Tally
empty = record { endings = 0 ∷ 0 ∷ 0 ∷ 0 ∷ 0 ∷ []; served = 0; rounds = 0 }

-- how many of the marks have the ending with the number e
abbrev pub ended : ℕ → List Mark → ℕ
ended e [] = 0
ended e (m ∷ ms) = (if ending_number m.ending == e then 1 else 0) + ended e ms

-- a tally once the endings of some marks are counted in it
pub record Counted (before : Tally) (marks : List Mark) (after : Tally) : Type 0 where
  pub endings : (e : ℕ) → e < 5 → slice_index after.endings e ≡ slice_index before.endings e + ended e marks
  pub served : after.served ≡ before.served
  pub rounds : after.rounds ≡ before.rounds
  pub five : length after.endings ≡ 5

-- a tally once so many pixels more were served, in so many rounds
abbrev pub added : Tally → ℕ → ℕ → Tally
added t pixels rounds = record { endings = t.endings; served = t.served + pixels; rounds = t.rounds + rounds }

-- a tally after a batch that filled these marks in so many rounds
pub record Tallied (before : Tally) (marks : List Mark) (rounds : ℕ) (after : Tally) : Type 0 where
  pub endings : (e : ℕ) → e < 5 → slice_index after.endings e ≡ slice_index before.endings e + ended e marks
  pub served : after.served ≡ before.served + length marks
  pub sum : after.rounds ≡ before.rounds + rounds
