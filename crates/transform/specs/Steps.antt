-- A record as a step, and what holds of a step of an accepted transform.
use Rattle.std.specs.Prelude.{ℕ, zero, suc, ◌<◌, List, None, Option}
use Rattle.std.specs.Option.{option_map}
use Rattle.transform.specs.Kinds.{kind_of, fields_of}
use Rattle.transform.specs.Parts.{is_number, row_at, record_at}
use Rattle.transform.specs.declared.kind.Fields.{Fields}
use Rattle.transform.specs.declared.kind.Fields.TheVariants.{Word, One, Two, Fork}
use Rattle.transform.specs.declared.kind.RecordKind.{RecordKind}
use Rattle.transform.specs.declared.parts.Record.{Record}
use Rattle.transform.specs.declared.parts.Row.{Row}
use Rattle.transform.specs.declared.step.Step.{Step}

-- the register that b names; a branch's b names none
abbrev pub second_of : Fields → Record → ℕ
second_of Word c = c.b
second_of One c = c.b
second_of Two c = c.b
second_of Fork c = 0

-- the place that a branch goes on at for 0
abbrev pub other_of : Fields → Record → ℕ
other_of Word c = 0
other_of One c = 0
other_of Two c = 0
other_of Fork c = c.b

-- the record as a step of its kind
abbrev pub step_of : List Row → RecordKind → Record → Step
step_of rows kind c =
    record {
      kind = kind;
      to = c.to;
      a = c.a;
      b = second_of (fields_of kind) c;
      word = c.word;
      next = c.next;
      other = other_of (fields_of kind) c;
      to_number = is_number (row_at rows c.to);
      a_number = is_number (row_at rows c.a);
    }

-- the step at a place: none at place 0, nor where there is no record
abbrev pub step_at : List Row → List Record → ℕ → Option Step
step_at rows records zero = None
step_at rows records (suc i) = option_map (λ kind. step_of rows kind (record_at records (suc i))) (kind_of (record_at records (suc i)).kind)

-- the registers that a step names are rows, and the places that it leads to are records
pub record Sound (rows records : ℕ) (s : Step) : Type 0 where
  pub to : s.to < rows
  pub a : s.a < rows
  pub b : s.b < rows
  pub next : s.next < records
  pub other : s.other < records
