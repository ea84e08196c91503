-- Answers of a check: no fault, or the first one.
use Rattle.std.specs.Prelude.{ℕ, zero, suc, Bool, if◌then◌else◌, Ok, Err, Result}

-- no fault, or one
abbrev pub Answer : Type 0 → Type 0
Answer F = Result (Unit {0}) F

-- the fault, unless the rule is kept
abbrev pub demand : {F : Type 0} → Bool → F → Answer F
demand kept f = if kept then Ok tt else Err f

infixr 20 ◌and_then◌
-- the first fault of two answers
abbrev pub ◌and_then◌ : {F : Type 0} → Answer F → Answer F → Answer F
◌and_then◌ (Ok u) later = later
◌and_then◌ (Err f) later = Err f

-- the first fault at the places 0 to n - 1
abbrev pub throughout : {F : Type 0} → (ℕ → Answer F) → ℕ → Answer F
throughout at zero = Ok tt
throughout at (suc n) = throughout at n and_then at n

-- the same answer, its fault taken into a larger list of faults
abbrev pub raised : {F G : Type 0} → (F → G) → Answer F → Answer G
raised up (Ok u) = Ok u
raised up (Err f) = Err (up f)
