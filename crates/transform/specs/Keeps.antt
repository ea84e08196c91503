-- A transform that keeps every rule, rule by rule.
use Rattle.std.specs.Prelude.{◌≡◌, ℕ, ◌<◌, ◌≤◌, Bool, true, List, length, is_some, Some}
use Rattle.transform.specs.Kinds.{kind_of}
use Rattle.transform.specs.Parts.{most_words, IsRowCount, IsRecordCount, row_at, record_at}
use Rattle.transform.specs.Rules.{row_known, channel_suits, word_suits, SameOut, all_zero, targets_rule, fields_rule, types_rule, writes_rule}
use Rattle.transform.specs.declared.kind.RecordKind.{RecordKind}
use Rattle.transform.specs.declared.parts.Record.{Record}
use Rattle.transform.specs.declared.parts.Row.{Row}

-- the record at every place but 0 keeps the rule of the kind that it has
abbrev pub EachStep : List Record → (RecordKind → Record → Bool) → Type 0
EachStep records rule = (i : ℕ) (kind : RecordKind) → 0 < i → i < length records → kind_of (record_at records i).kind ≡ Some kind → rule kind (record_at records i) ≡ true

-- one field for each cause of a fault, in their order
pub record Keeps (rows : List Row) (records : List Record) (table : List ℕ) : Type 0 where
  pub rows_counted : IsRowCount (length rows)
  pub rows_known : (i : ℕ) → i < length rows → row_known (row_at rows i) ≡ true
  pub channels_suit : (i : ℕ) → i < length rows → channel_suits (row_at rows i) ≡ true
  pub words_suit : (i : ℕ) → i < length rows → word_suits (row_at rows i) ≡ true
  pub outs_apart : (i j : ℕ) → i < j → j < length rows → SameOut rows i j → ⊥
  pub records_counted : IsRecordCount (length records)
  pub first_zero : all_zero (record_at records 0) ≡ true
  pub kinds_known : (i : ℕ) → 0 < i → i < length records → is_some (kind_of (record_at records i).kind) ≡ true
  pub targets_inside : EachStep records (targets_rule (length records))
  pub fields_suit : EachStep records (fields_rule (length rows))
  pub types_suit : EachStep records (types_rule rows)
  pub writes_suit : EachStep records (writes_rule rows)
  pub table_counted : length table ≤ most_words
