-- The built-in transform: an input below the start word of row 3 is copied out, any other has that word added.
use Rattle.std.specs.Prelude.{ℕ, List, [], ◌∷◌}
use Rattle.transform.specs.Parts.{flag, number, work, in_role, out_role}
use Rattle.transform.specs.declared.parts.Row.{Row}
use Rattle.transform.specs.declared.parts.Record.{Record}

-- a row by its fields
abbrev row : ℕ → ℕ → ℕ → ℕ → Row
row holds role channel word = record { holds = holds; role = role; channel = channel; word = word }

-- a record by its fields
abbrev step : ℕ → ℕ → ℕ → ℕ → ℕ → ℕ → Record
step kind to a b word next = record { kind = kind; to = to; a = a; b = b; word = word; next = next }

-- an in register, an out register, a flag and a number that starts as 65,536
abbrev pub fork_rows : List Row
fork_rows = row number in_role 0 0 ∷ row number out_role 0 0 ∷ row flag work 0 0 ∷ row number work 0 65536 ∷ []

-- less, branch, copy and add
abbrev pub fork_records : List Record
fork_records = step 0 0 0 0 0 0 ∷ step 9 2 0 3 0 2 ∷ step 15 0 2 4 0 3 ∷ step 2 1 0 0 0 0 ∷ step 3 1 0 3 0 0 ∷ []
