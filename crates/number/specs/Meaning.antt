-- What a number kind means: the answer of each operation, as a function of the words.
use Rattle.std.specs.Prelude.{◌≡◌, ℕ, ◌^◌, ◌<◌, Bool, ℤ, Ok, Err, Result, FitsSigned, List, codes}
use Rattle.std.specs.Int.{w32}
use Rattle.number.specs.declared.kind.Stop.{Stop}
use Rattle.number.specs.declared.kind.Stop.TheVariants.{DivisionByZero, OutOfRange}

-- the number by which a stop is reported
abbrev pub stop_number : Stop → ℕ
stop_number DivisionByZero = 1
stop_number OutOfRange = 2

-- what a stop is called
abbrev pub stop_text : Stop → List ℕ
stop_text DivisionByZero = codes "divided by zero"
stop_text OutOfRange = codes "out of range"

-- the kind's number, the admitted form of a word, and what each operation yields: a word, a flag, a whole number or a stop
pub record Meaning : Type 0 where
  pub number : ℕ
  pub admit : ℕ → ℕ
  pub add : ℕ → ℕ → Result ℕ Stop
  pub subtract : ℕ → ℕ → Result ℕ Stop
  pub multiply : ℕ → ℕ → Result ℕ Stop
  pub divide : ℕ → ℕ → Result ℕ Stop
  pub negate : ℕ → Result ℕ Stop
  pub less : ℕ → ℕ → Bool
  pub equal : ℕ → ℕ → Bool
  pub from_whole : ℤ → Result ℕ Stop
  pub to_whole : ℕ → Result ℤ Stop

-- a word that admitting returns
abbrev pub Admitted : Meaning → ℕ → Type 0
Admitted m w = m.admit w ≡ w

-- an answer that is a stop or an admitted word of 32 bits
abbrev pub YieldsNumber : Meaning → Result ℕ Stop → Type 0
YieldsNumber m (Ok w) = (w < 2 ^ 32) × Admitted m w
YieldsNumber m (Err s) = Unit {0}

-- an answer that is a stop or a signed number of 32 bits
abbrev pub YieldsWhole : Result ℤ Stop → Type 0
YieldsWhole (Ok z) = FitsSigned w32 z
YieldsWhole (Err s) = Unit {0}

-- The facts that every kind shows, and the only ones that an engine may use: admitting an admitted word returns it, and every number yielded is admitted.
-- That equal operands yield equal answers needs no fact of its own: the answers are functions of the words.
pub record Lawful (m : Meaning) : Type 0 where
  pub admit_word : (w : ℕ) → w < 2 ^ 32 → m.admit w < 2 ^ 32
  pub admit_again : (w : ℕ) → w < 2 ^ 32 → Admitted m (m.admit w)
  pub add_yields : (a b : ℕ) → a < 2 ^ 32 → b < 2 ^ 32 → YieldsNumber m (m.add a b)
  pub subtract_yields : (a b : ℕ) → a < 2 ^ 32 → b < 2 ^ 32 → YieldsNumber m (m.subtract a b)
  pub multiply_yields : (a b : ℕ) → a < 2 ^ 32 → b < 2 ^ 32 → YieldsNumber m (m.multiply a b)
  pub divide_yields : (a b : ℕ) → a < 2 ^ 32 → b < 2 ^ 32 → YieldsNumber m (m.divide a b)
  pub negate_yields : (a : ℕ) → a < 2 ^ 32 → YieldsNumber m (m.negate a)
  pub from_whole_yields : (z : ℤ) → YieldsNumber m (m.from_whole z)
  pub to_whole_yields : (a : ℕ) → a < 2 ^ 32 → YieldsWhole (m.to_whole a)
