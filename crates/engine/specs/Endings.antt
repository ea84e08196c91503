-- The numbers by which endings and the refusal of a budget are reported.
use Rattle.std.specs.Prelude.{ℕ, List, codes}
use Rattle.number.specs.Meaning.{stop_number, stop_text}
use Rattle.engine.specs.declared.ending.Ending.{Ending}
use Rattle.engine.specs.declared.ending.Ending.TheVariants.{Done, Stopped, OutsideTable, Spent}

-- 0 done, 1 and 2 a stop of an operation, 3 a look-up outside the table, 4 spent
abbrev pub ending_number : Ending → ℕ
ending_number Done = 0
ending_number (Stopped s) = stop_number s
ending_number OutsideTable = 3
ending_number Spent = 4

-- what an ending is called
abbrev pub ending_text : Ending → List ℕ
ending_text Done = codes "done"
ending_text (Stopped s) = stop_text s
ending_text OutsideTable = codes "outside the table"
ending_text Spent = codes "spent"

-- the refusal of a budget of 0 steps
abbrev pub zero_budget : ℕ
zero_budget = 14

-- what that refusal says
abbrev pub zero_budget_text : List ℕ
zero_budget_text = codes "a budget of 0 steps"
