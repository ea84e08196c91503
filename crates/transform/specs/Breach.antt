-- The first breach: which rule a fault says is broken, and which fault comes before which.
use Rattle.std.specs.Prelude.{◌≡◌, ℕ, ◌<◌, Bool, false, if◌then◌else◌, ◌⊎◌, List, length, Some, None, Ok, Err, nat_le}
use Rattle.transform.specs.Answers.{Answer}
use Rattle.transform.specs.Faults.{cause, place}
use Rattle.transform.specs.Keeps.{Keeps}
use Rattle.transform.specs.Kinds.{kind_of}
use Rattle.transform.specs.Parts.{row_at, record_at}
use Rattle.transform.specs.Rules.{row_count_suits, row_known, channel_suits, word_suits, SameOut, record_count_suits, all_zero, targets_rule, fields_rule, types_rule, writes_rule, table_length_suits}
use Rattle.transform.specs.declared.fault.Fault.{Fault}
use Rattle.transform.specs.declared.fault.Fault.TheVariants.{Rows, Records, Table}
use Rattle.transform.specs.declared.fault.RecordFault.{RecordFault}
use Rattle.transform.specs.declared.fault.RecordFault.TheVariants as RecordFaults
use Rattle.transform.specs.declared.fault.RowFault.{RowFault}
use Rattle.transform.specs.declared.fault.RowFault.TheVariants as RowFaults
use Rattle.transform.specs.declared.kind.RecordKind.{RecordKind}
use Rattle.transform.specs.declared.parts.Record.{Record}
use Rattle.transform.specs.declared.parts.Row.{Row}

-- the rows break the rule that the fault names, at its row
abbrev pub RowBreaks : List Row → RowFault → Type 0
RowBreaks rows RowFaults.Count = row_count_suits rows ≡ false
RowBreaks rows (RowFaults.Unknown i) = (i < length rows) × (row_known (row_at rows i) ≡ false)
RowBreaks rows (RowFaults.Channel i) = (i < length rows) × (channel_suits (row_at rows i) ≡ false)
RowBreaks rows (RowFaults.Word i) = (i < length rows) × (word_suits (row_at rows i) ≡ false)
RowBreaks rows (RowFaults.RepeatedOut i) = (i < length rows) × ((j : ℕ) × ((j < i) × SameOut rows j i))

-- the record at i is a step of a known kind, and breaks a rule of that kind
abbrev pub StepBreaks : List Record → ℕ → (RecordKind → Record → Bool) → Type 0
StepBreaks records i rule = (kind : RecordKind) × ((0 < i) × (i < length records) × (kind_of (record_at records i).kind ≡ Some kind) × (rule kind (record_at records i) ≡ false))

-- the records break the rule that the fault names, at its record
abbrev pub RecordBreaks : List Row → List Record → RecordFault → Type 0
RecordBreaks rows records RecordFaults.Count = record_count_suits records ≡ false
RecordBreaks rows records RecordFaults.FirstNotZero = all_zero (record_at records 0) ≡ false
RecordBreaks rows records (RecordFaults.Kind i) = (0 < i) × (i < length records) × (kind_of (record_at records i).kind ≡ None)
RecordBreaks rows records (RecordFaults.Target i) = StepBreaks records i (targets_rule (length records))
RecordBreaks rows records (RecordFaults.Field i) = StepBreaks records i (fields_rule (length rows))
RecordBreaks rows records (RecordFaults.Types i) = StepBreaks records i (types_rule rows)
RecordBreaks rows records (RecordFaults.ReadOnly i) = StepBreaks records i (writes_rule rows)

-- the transform breaks the rule that the fault names, at the fault's place
abbrev pub Breaks : List Row → List Record → List ℕ → Fault → Type 0
Breaks rows records table (Rows f) = RowBreaks rows f
Breaks rows records table (Records f) = RecordBreaks rows records f
Breaks rows records table (Table f) = table_length_suits table ≡ false

-- when a cause is looked for: 1 with the number of rows, 2 row by row, 3 with the number of records, 4 record by record, 5 with the table
abbrev pub stage : ℕ → ℕ
stage k = if nat_le k 1 then 1 else if nat_le k 5 then 2 else if nat_le k 6 then 3 else if nat_le k 12 then 4 else 5

-- at an earlier stage; or at one stage, at an earlier place; or at one place, of a lower cause
abbrev pub Precedes : Fault → Fault → Type 0
Precedes g f = (stage (cause g) < stage (cause f)) ⊎ ((stage (cause g) ≡ stage (cause f)) × ((place g < place f) ⊎ ((place g ≡ place f) × (cause g < cause f))))

-- the fault is there, and no fault before it is
pub record FirstBreach (rows : List Row) (records : List Record) (table : List ℕ) (f : Fault) : Type 0 where
  pub broken : Breaks rows records table f
  pub earliest : (g : Fault) → Precedes g f → Breaks rows records table g → ⊥

-- an answer that is right: no fault where every rule is kept, else the first breach
abbrev pub Judged : List Row → List Record → List ℕ → Answer Fault → Type 0
Judged rows records table (Ok u) = Keeps rows records table
Judged rows records table (Err f) = FirstBreach rows records table f
