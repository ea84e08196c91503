-- What is written of a fault: its numbers, and the rule that is broken, in the words of docs/RULES.md.
use Rattle.std.specs.Prelude.{ℕ, List, ◌++◌, codes}
use Rattle.std.specs.Fmt.{decimal}
use Rattle.transform.specs.Faults.{layer, cause, place}
use Rattle.transform.specs.declared.fault.RowFault.{RowFault}
use Rattle.transform.specs.declared.fault.RecordFault.{RecordFault}
use Rattle.transform.specs.declared.fault.TableFault.{TableFault}
use Rattle.transform.specs.declared.fault.Fault.{Fault}
use Rattle.transform.specs.declared.fault.RowFault.TheVariants as RowFaults
use Rattle.transform.specs.declared.fault.RecordFault.TheVariants as RecordFaults
use Rattle.transform.specs.declared.fault.TableFault.TheVariants.{TooLong}
use Rattle.transform.specs.declared.fault.Fault.TheVariants.{Rows, Records, Table}
use Rattle.transform.specs.declared.kind.UnknownKind.{UnknownKind}

-- the rule of the rows that is broken
abbrev pub row_text : RowFault → List ℕ
row_text RowFaults.Count = codes "broken rule: there are 1 to 64 rows"
row_text (RowFaults.Unknown i) = codes "broken rule: the type is 1, 2 or 3, and the role 0, 1, 2 or 3"
row_text (RowFaults.Channel i) = codes "broken rule: a row of role 1 or 2 has a channel from 0 to 7 and type 3; any other row has channel 0"
row_text (RowFaults.Word i) = codes "broken rule: the word of a flag is 0 or 1, and the word of a row of role 1 is 0"
row_text (RowFaults.RepeatedOut i) = codes "broken rule: the channel of an out row is not that of an earlier out row"

-- the rule of the records that is broken
abbrev pub record_text : RecordFault → List ℕ
record_text RecordFaults.Count = codes "broken rule: there are 2 to 512 records"
record_text RecordFaults.FirstNotZero = codes "broken rule: every field of record 0 is 0"
record_text (RecordFaults.Kind i) = codes "broken rule: the kind is one of 1 to 15"
record_text (RecordFaults.Target i) = codes "broken rule: next names a record, and so does b of a branch"
record_text (RecordFaults.Field i) = codes "broken rule: every register that is used exists, and every field that is not used is 0"
record_text (RecordFaults.Types i) = codes "broken rule: the types suit the kind, and a literal for a flag is 0 or 1"
record_text (RecordFaults.ReadOnly i) = codes "broken rule: where the kind uses to, that register has neither role 1 nor role 3"

-- the rule of the table that is broken
abbrev pub table_text : TableFault → List ℕ
table_text TooLong = codes "broken rule: there are at most 4,096 table words"

-- the rule that is broken
abbrev pub rule_text : Fault → List ℕ
rule_text (Rows f) = row_text f
rule_text (Records f) = record_text f
rule_text (Table f) = table_text f

-- layer, cause and place, and the rule
abbrev pub fault_text : Fault → List ℕ
fault_text f = codes "layer " ++ decimal (layer f) ++ codes ", cause " ++ decimal (cause f) ++ codes ", place " ++ decimal (place f) ++ codes ", " ++ rule_text f

-- a number that names no kind
abbrev pub unknown_text : UnknownKind → List ℕ
unknown_text k = codes "no kind of step has the number " ++ decimal k.0
