-- What holds of an accepted transform's steps, and what a check leaves in the transform that its caller holds.
use Rattle.std.specs.Prelude.{◌≡◌, ℕ, List, length, Ok, Err}
use Rattle.transform.specs.Answers.{Answer}
use Rattle.transform.specs.Steps.{Sound}
use Rattle.transform.specs.declared.accepted.Accepted.{Accepted}
use Rattle.transform.specs.declared.fault.Fault.{Fault}
use Rattle.transform.specs.declared.parts.Row.{Row}
use Rattle.transform.specs.declared.parts.Record.{Record}
use Rattle.transform.specs.declared.step.Step.{Step}

-- the registers that a step names are rows of the transform, and the places that it leads to are its records
abbrev pub SoundIn : Accepted → Step → Type 0
SoundIn t s = Sound (length t.rows.now) (length t.records.now) s

-- accepted, the transform is held from now on; refused, the one held before stays
abbrev pub Filled : Accepted → Accepted → Answer Fault → List Row → List Record → List ℕ → Type 0
Filled before after (Ok u) rows records table = (after.rows.now ≡ rows) × (after.records.now ≡ records) × (after.table.now ≡ table)
Filled before after (Err f) rows records table = after ≡ before
