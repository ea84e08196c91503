-- The check's answer is right about all faults.
use Rattle.std.proofs.Common.{◌≡◌, ℕ, zero, suc, ◌<◌, Bool, true, false, List, [], ◌∷◌, length, take, Some, None, Option, sym, refl, subst, arith}
use Rattle.std.proofs.lemmas.Bool.{true≢false}
use Rattle.transform.specs.Answers.{demand, ◌and_then◌, throughout, raised}
use Rattle.transform.specs.Breach.{StepBreaks, Breaks}
use Rattle.transform.specs.Check.{row_answer, rows_answer, step_answer, record_answer, records_answer, table_answer, checked}
use Rattle.transform.specs.Kinds.{kind_of}
use Rattle.transform.specs.Parts.{row_at, record_at}
use Rattle.transform.specs.Rules.{row_count_suits, row_known, channel_suits, word_suits, out_alone, record_count_suits, all_zero, targets_rule, fields_rule, types_rule, writes_rule, table_length_suits}
use Rattle.transform.specs.declared.fault.Fault.{Fault}
use Rattle.transform.specs.declared.fault.Fault.TheVariants.{Rows, Records, Table}
use Rattle.transform.specs.declared.fault.RecordFault.TheVariants as RecordFaults
use Rattle.transform.specs.declared.fault.RowFault.TheVariants as RowFaults
use Rattle.transform.specs.declared.fault.TableFault.TheVariants.{TooLong}
use Rattle.transform.specs.declared.kind.RecordKind.{RecordKind}
use Rattle.transform.specs.declared.parts.Record.{Record}
use Rattle.transform.specs.declared.parts.Row.{Row}
use Rattle.transform.proofs.Outs.{not_alone, shared_before}
use Rattle.transform.proofs.Right.{Causes, Below, At, Right, right_raised, right_wider, right_fault, lone_demand, last_demand, demand_then, stages_then, throughout_right, same_place}

-- every cause is one of thirteen
pub all_causes : (g : Fault) → Causes 1 13 g
all_causes g = grind arith

-- a record that is not zero is there
first_there : (records : List Record) → all_zero (record_at records 0) ≡ false → 0 < length records
first_there [] h = absurd (true≢false h)
first_there (c ∷ cs) h = omega arith

module _ (rows : List Row) (records : List Record) (table : List ℕ) where
  abbrev Broken : Fault → Type 0
  Broken = Breaks rows records table

  -- the answer for a row is right about its faults
  row_right : (i : ℕ) → i < length rows → Right Broken Rows (At 2 5 i) (row_answer rows i)
  row_right i l =
      let r = row_at rows i in
      let repeated = demand (out_alone (take i rows) r) (RowFaults.RepeatedOut i) in
      let word = demand (word_suits r) (RowFaults.Word i) and_then repeated in
      let channel = demand (channel_suits r) (RowFaults.Channel i) and_then word in
      demand_then Broken Rows (RowFaults.Unknown i) (row_known r) 5 channel (omega arith) (λ b. b.1) (λ e. (l, e))
      (demand_then Broken Rows (RowFaults.Channel i) (channel_suits r) 5 word (omega arith) (λ b. b.1) (λ e. (l, e))
      (demand_then Broken Rows (RowFaults.Word i) (word_suits r) 5 repeated (omega arith) (λ b. b.1) (λ e. (l, e))
      (last_demand Broken Rows (RowFaults.RepeatedOut i) (out_alone (take i rows) r) (λ b. not_alone rows i b.1.0 l b.1.1.0 b.1.1.1) (λ e. (l, shared_before rows i e)))))

  -- the answer for all rows is right about theirs
  rows_right : Right Broken Rows (Causes 1 5) (rows_answer rows)
  rows_right =
      let each = throughout (row_answer rows) (length rows) in
      stages_then Broken Rows 1 1 5 (demand (row_count_suits rows) RowFaults.Count) each (omega arith) (omega arith) (omega arith)
      (lone_demand Broken Rows RowFaults.Count (row_count_suits rows) (λ _. refl) (λ b. b) (λ e. e))
      (right_wider Broken Rows (Below 2 5 (length rows)) (Causes 2 5) each (λ g c b. grind arith) (λ g c. (c.0, c.1))
      (throughout_right Broken Rows 2 5 (row_answer rows) refl (length rows) row_right))

  abbrev n : ℕ
  n = length records

  abbrev kind_at : ℕ → Option RecordKind
  kind_at i = kind_of (record_at records i).kind

  -- the rule of the one kind that the record has
  of_kind : (rule : RecordKind → Record → Bool) (i : ℕ) (kind : RecordKind) → kind_at i ≡ Some kind → StepBreaks records i rule → rule kind (record_at records i) ≡ false
  of_kind rule i kind e b = let e' = b.1.2 in let same : b.0 ≡ kind = cc in subst (λ k. rule k (record_at records i) ≡ false) same b.1.3

  -- the answer for a step is right about its faults
  step_right : (i : ℕ) (o : Option RecordKind) → kind_at i ≡ o → 0 < i → i < n → Right Broken Records (At 8 12 i) (step_answer o rows n (record_at records i) i)
  step_right i None e some l = right_fault Broken Records (At 8 12 i) (RecordFaults.Kind i) (omega arith, omega arith, refl) (some, l, e) (λ g c p. same_place (Records (RecordFaults.Kind i)) g c.0 (sym c.2) p)
  step_right i (Some kind) e some l =
      let c = record_at records i in
      let last = demand (writes_rule rows kind c) (RecordFaults.ReadOnly i) in
      let third = demand (types_rule rows kind c) (RecordFaults.Types i) and_then last in
      let second = demand (fields_rule (length rows) kind c) (RecordFaults.Field i) and_then third in
      let first = demand (targets_rule n kind c) (RecordFaults.Target i) and_then second in
      demand_then Broken Records (RecordFaults.Kind i) true 12 first (omega arith) (λ b. let none = b.2 in absurd cc) (λ h. absurd (true≢false h))
      (demand_then Broken Records (RecordFaults.Target i) (targets_rule n kind c) 12 second (omega arith) (of_kind (targets_rule n) i kind e) (λ h. (kind, (some, l, e, h)))
      (demand_then Broken Records (RecordFaults.Field i) (fields_rule (length rows) kind c) 12 third (omega arith) (of_kind (fields_rule (length rows)) i kind e) (λ h. (kind, (some, l, e, h)))
      (demand_then Broken Records (RecordFaults.Types i) (types_rule rows kind c) 12 last (omega arith) (of_kind (types_rule rows) i kind e) (λ h. (kind, (some, l, e, h)))
      (last_demand Broken Records (RecordFaults.ReadOnly i) (writes_rule rows kind c) (of_kind (writes_rule rows) i kind e) (λ h. (kind, (some, l, e, h)))))))

  -- the answer for a record is right about its faults
  record_right : (i : ℕ) → i < n → Right Broken Records (At 7 12 i) (record_answer rows records i)
  record_right zero l =
      right_wider Broken Records (At 7 7 0) (At 7 12 0) (record_answer rows records 0)
      (λ g c b. grind arith)
      (λ g c. (c.0, omega (arith, c.1), c.2))
      (last_demand Broken Records RecordFaults.FirstNotZero (all_zero (record_at records 0)) (λ b. b) (λ e. e))
  record_right (suc i) l =
      right_wider Broken Records (At 8 12 (suc i)) (At 7 12 (suc i)) (record_answer rows records (suc i))
      (λ g c b. grind arith)
      (λ g c. (omega (arith, c.0), c.1, c.2))
      (step_right (suc i) (kind_at (suc i)) refl (omega arith) l)

  -- the answer for all records is right about theirs
  records_right : Right Broken Records (Causes 6 12) (records_answer rows records)
  records_right =
      let each = throughout (record_answer rows records) n in
      stages_then Broken Records 6 6 12 (demand (record_count_suits records) RecordFaults.Count) each (omega arith) (omega arith) (omega arith)
      (lone_demand Broken Records RecordFaults.Count (record_count_suits records) (λ _. refl) (λ b. b) (λ e. e))
      (right_wider Broken Records (Below 7 12 n) (Causes 7 12) each (λ g c b. grind (arith, first_there records)) (λ g c. (c.0, c.1))
      (throughout_right Broken Records 7 12 (record_answer rows records) refl n record_right))

  -- the answer of the check is right about all faults
  pub checked_right : Right Broken (λ f. f) (Causes 1 13) (checked rows records table)
  checked_right =
      let a = raised Rows (rows_answer rows) in
      let b = raised Records (records_answer rows records) in
      let c = raised Table (table_answer table) in
      stages_then Broken (λ f. f) 1 5 13 a (b and_then c) (omega arith) (omega arith) (omega arith) (right_raised Broken Rows (Causes 1 5) (rows_answer rows) rows_right)
      (stages_then Broken (λ f. f) 6 12 13 b c (omega arith) (omega arith) (omega arith) (right_raised Broken Records (Causes 6 12) (records_answer rows records) records_right)
      (right_raised Broken Table (Causes 13 13) (table_answer table) (lone_demand Broken Table TooLong (table_length_suits table) (λ _. refl) (λ b. b) (λ e. e))))
