-- The answer of the check: the rules in their order, and the first that is broken.
use Rattle.std.specs.Prelude.{ℕ, zero, suc, List, length, take, Some, None, Err, Option}
use Rattle.transform.specs.Answers.{Answer, demand, ◌and_then◌, throughout, raised}
use Rattle.transform.specs.Kinds.{kind_of}
use Rattle.transform.specs.Parts.{row_at, record_at}
use Rattle.transform.specs.Rules.{row_count_suits, row_known, channel_suits, word_suits, out_alone, record_count_suits, all_zero, targets_rule, fields_rule, types_rule, writes_rule, table_length_suits}
use Rattle.transform.specs.declared.fault.Fault.{Fault}
use Rattle.transform.specs.declared.fault.Fault.TheVariants.{Rows, Records, Table}
use Rattle.transform.specs.declared.fault.RecordFault.{RecordFault}
use Rattle.transform.specs.declared.fault.RecordFault.TheVariants as RecordFaults
use Rattle.transform.specs.declared.fault.RowFault.{RowFault}
use Rattle.transform.specs.declared.fault.RowFault.TheVariants as RowFaults
use Rattle.transform.specs.declared.fault.TableFault.{TableFault}
use Rattle.transform.specs.declared.fault.TableFault.TheVariants.{TooLong}
use Rattle.transform.specs.declared.kind.RecordKind.{RecordKind}
use Rattle.transform.specs.declared.parts.Record.{Record}
use Rattle.transform.specs.declared.parts.Row.{Row}

-- the rules of the row r at i, after the earlier ones
abbrev pub row_rules : List Row → Row → ℕ → Answer RowFault
row_rules earlier r i =
    demand (row_known r) (RowFaults.Unknown i) and_then
    demand (channel_suits r) (RowFaults.Channel i) and_then
    demand (word_suits r) (RowFaults.Word i) and_then
    demand (out_alone earlier r) (RowFaults.RepeatedOut i)

-- the rules of the row at i
abbrev pub row_answer : List Row → ℕ → Answer RowFault
row_answer rows i = row_rules (take i rows) (row_at rows i) i

-- the number of rows, then row after row
abbrev pub rows_answer : List Row → Answer RowFault
rows_answer rows = demand (row_count_suits rows) RowFaults.Count and_then throughout (row_answer rows) (length rows)

-- the rules of the record c at place i, among n records, by its kind
abbrev pub step_answer : Option RecordKind → List Row → ℕ → Record → ℕ → Answer RecordFault
step_answer None rows n c i = Err (RecordFaults.Kind i)
step_answer (Some kind) rows n c i =
    demand (targets_rule n kind c) (RecordFaults.Target i) and_then
    demand (fields_rule (length rows) kind c) (RecordFaults.Field i) and_then
    demand (types_rule rows kind c) (RecordFaults.Types i) and_then
    demand (writes_rule rows kind c) (RecordFaults.ReadOnly i)

-- the rules of the record c at place i, among n records; record 0 is no step
abbrev pub record_rules : List Row → ℕ → Record → ℕ → Answer RecordFault
record_rules rows n c zero = demand (all_zero c) RecordFaults.FirstNotZero
record_rules rows n c (suc i) = step_answer (kind_of c.kind) rows n c (suc i)

-- the rules of the record at i
abbrev pub record_answer : List Row → List Record → ℕ → Answer RecordFault
record_answer rows records i = record_rules rows (length records) (record_at records i) i

-- the number of records, then record after record
abbrev pub records_answer : List Row → List Record → Answer RecordFault
records_answer rows records = demand (record_count_suits records) RecordFaults.Count and_then throughout (record_answer rows records) (length records)

-- the length of the table
abbrev pub table_answer : List ℕ → Answer TableFault
table_answer table = demand (table_length_suits table) TooLong

-- the rows first, then the records, last the table
abbrev pub checked : List Row → List Record → List ℕ → Answer Fault
checked rows records table = raised Rows (rows_answer rows) and_then raised Records (records_answer rows records) and_then raised Table (table_answer table)
