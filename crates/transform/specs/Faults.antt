-- The numbers of a fault: its layer, its cause and its place.
use Rattle.std.specs.Prelude.{ℕ}
use Rattle.transform.specs.declared.fault.RowFault.{RowFault}
use Rattle.transform.specs.declared.fault.RecordFault.{RecordFault}
use Rattle.transform.specs.declared.fault.Fault.{Fault}
use Rattle.transform.specs.declared.fault.RowFault.TheVariants as RowFaults
use Rattle.transform.specs.declared.fault.RecordFault.TheVariants as RecordFaults
use Rattle.transform.specs.declared.fault.Fault.TheVariants.{Rows, Records, Table}

-- the number of the rule that a fault of the rows says is broken
abbrev pub row_cause : RowFault → ℕ
row_cause RowFaults.Count = 1
row_cause (RowFaults.Unknown i) = 2
row_cause (RowFaults.Channel i) = 3
row_cause (RowFaults.Word i) = 4
row_cause (RowFaults.RepeatedOut i) = 5

-- the row that a fault of the rows is about, or 0
abbrev pub row_place : RowFault → ℕ
row_place RowFaults.Count = 0
row_place (RowFaults.Unknown i) = i
row_place (RowFaults.Channel i) = i
row_place (RowFaults.Word i) = i
row_place (RowFaults.RepeatedOut i) = i

-- the number of the rule that a fault of the records says is broken
abbrev pub record_cause : RecordFault → ℕ
record_cause RecordFaults.Count = 6
record_cause RecordFaults.FirstNotZero = 7
record_cause (RecordFaults.Kind i) = 8
record_cause (RecordFaults.Target i) = 9
record_cause (RecordFaults.Field i) = 10
record_cause (RecordFaults.Types i) = 11
record_cause (RecordFaults.ReadOnly i) = 12

-- the record that a fault of the records is about, or 0
abbrev pub record_place : RecordFault → ℕ
record_place RecordFaults.Count = 0
record_place RecordFaults.FirstNotZero = 0
record_place (RecordFaults.Kind i) = i
record_place (RecordFaults.Target i) = i
record_place (RecordFaults.Field i) = i
record_place (RecordFaults.Types i) = i
record_place (RecordFaults.ReadOnly i) = i

-- the part of the transform: 1 rows, 2 records, 3 table
abbrev pub layer : Fault → ℕ
layer (Rows f) = 1
layer (Records f) = 2
layer (Table f) = 3

-- the number of the rule that a fault says is broken
abbrev pub cause : Fault → ℕ
cause (Rows f) = row_cause f
cause (Records f) = record_cause f
cause (Table f) = 13

-- the row or record that a fault is about, or 0
abbrev pub place : Fault → ℕ
place (Rows f) = row_place f
place (Records f) = record_place f
place (Table f) = 0
