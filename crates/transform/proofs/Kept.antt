-- What the check accepts keeps every rule, what keeps every rule is accepted, and a fault is the first breach.
use Rattle.std.proofs.Common.{◌≡◌, ℕ, ◌≤◌, true, List, length, is_some, is_ok as passes, None, Ok, Err, Option, sym, ap, ◌∙◌, arith}
use Rattle.std.proofs.lemmas.Bool.{true_from_ne_false, both_ways, leb-true, le-leb}
use Rattle.std.proofs.lemmas.Bool.Decides.{nat_tests}
use Rattle.transform.specs.Answers.{Answer}
use Rattle.transform.specs.Breach.{Breaks, Judged}
use Rattle.transform.specs.Check.{checked}
use Rattle.transform.specs.Keeps.{Keeps}
use Rattle.transform.specs.Parts.{most_words}
use Rattle.transform.specs.Tests.{within}
use Rattle.transform.specs.declared.fault.Fault.{Fault}
use Rattle.transform.specs.declared.fault.Fault.TheVariants.{Rows, Records, Table}
use Rattle.transform.specs.declared.fault.RecordFault.TheVariants as RecordFaults
use Rattle.transform.specs.declared.fault.RowFault.TheVariants as RowFaults
use Rattle.transform.specs.declared.fault.TableFault.TheVariants.{TooLong}
use Rattle.transform.specs.declared.parts.Record.{Record}
use Rattle.transform.specs.declared.parts.Row.{Row}
use Rattle.transform.proofs.First.{all_causes, checked_right}

-- what is not none is some
some : {A : Type 0} (o : Option A) → (o ≡ None → ⊥) → is_some o ≡ true
some o h = grind arith

-- what is some is not none
not_none : {A : Type 0} (o : Option A) → is_some o ≡ true → o ≡ None → ⊥
not_none o h e = cc

-- the bounds that the test says
pub inside : (low high n : ℕ) → within low high n ≡ true → (low ≤ n) × (n ≤ high)
inside low high n h = grind (arith, nat_tests)

-- the test that the bounds pass
within_from : (low high n : ℕ) → (low ≤ n) × (n ≤ high) → within low high n ≡ true
within_from low high n h = grind (arith, nat_tests)

-- an answer without a fault accepts
ok_unless : {F : Type 0} (x : Answer F) → ((f : F) → x ≡ Err f → ⊥) → passes x ≡ true
ok_unless x h = grind arith

-- the only answer that accepts
pub is_ok : {F : Type 0} (x : Answer F) → passes x ≡ true → x ≡ Ok tt
is_ok x h = grind arith

module _ (rows : List Row) (records : List Record) (table : List ℕ) where
  -- where no fault is there, every rule is kept
  keeps : ((g : Fault) → Breaks rows records table g → ⊥) → Keeps rows records table
  keeps none =
      record {
        rows_counted = inside _ _ _ (true_from_ne_false _ (none (Rows RowFaults.Count)));
        rows_known = λ i l. true_from_ne_false _ (λ e. none (Rows (RowFaults.Unknown i)) (l, e));
        channels_suit = λ i l. true_from_ne_false _ (λ e. none (Rows (RowFaults.Channel i)) (l, e));
        words_suit = λ i l. true_from_ne_false _ (λ e. none (Rows (RowFaults.Word i)) (l, e));
        outs_apart = λ i j l m s. none (Rows (RowFaults.RepeatedOut j)) (m, (i, (l, s)));
        records_counted = inside _ _ _ (true_from_ne_false _ (none (Records RecordFaults.Count)));
        first_zero = true_from_ne_false _ (none (Records RecordFaults.FirstNotZero));
        kinds_known = λ i o l. some _ (λ e. none (Records (RecordFaults.Kind i)) (o, l, e));
        targets_inside = λ i k o l e. true_from_ne_false _ (λ h. none (Records (RecordFaults.Target i)) (k, (o, l, e, h)));
        fields_suit = λ i k o l e. true_from_ne_false _ (λ h. none (Records (RecordFaults.Field i)) (k, (o, l, e, h)));
        types_suit = λ i k o l e. true_from_ne_false _ (λ h. none (Records (RecordFaults.Types i)) (k, (o, l, e, h)));
        writes_suit = λ i k o l e. true_from_ne_false _ (λ h. none (Records (RecordFaults.ReadOnly i)) (k, (o, l, e, h)));
        table_counted = leb-true (length table) most_words (true_from_ne_false _ (none (Table TooLong)));
      }

  -- where every rule is kept, no fault is there
  none_broken : Keeps rows records table → (g : Fault) → Breaks rows records table g → ⊥
  none_broken k (Rows RowFaults.Count) b = both_ways _ b (within_from _ _ _ k.rows_counted)
  none_broken k (Rows (RowFaults.Unknown i)) b = both_ways _ b.1 (k.rows_known i b.0)
  none_broken k (Rows (RowFaults.Channel i)) b = both_ways _ b.1 (k.channels_suit i b.0)
  none_broken k (Rows (RowFaults.Word i)) b = both_ways _ b.1 (k.words_suit i b.0)
  none_broken k (Rows (RowFaults.RepeatedOut i)) b = k.outs_apart b.1.0 i b.1.1.0 b.0 b.1.1.1
  none_broken k (Records RecordFaults.Count) b = both_ways _ b (within_from _ _ _ k.records_counted)
  none_broken k (Records RecordFaults.FirstNotZero) b = both_ways _ b k.first_zero
  none_broken k (Records (RecordFaults.Kind i)) b = not_none _ (k.kinds_known i b.0 b.1) b.2
  none_broken k (Records (RecordFaults.Target i)) b = both_ways _ b.1.3 (k.targets_inside i b.0 b.1.0 b.1.1 b.1.2)
  none_broken k (Records (RecordFaults.Field i)) b = both_ways _ b.1.3 (k.fields_suit i b.0 b.1.0 b.1.1 b.1.2)
  none_broken k (Records (RecordFaults.Types i)) b = both_ways _ b.1.3 (k.types_suit i b.0 b.1.0 b.1.1 b.1.2)
  none_broken k (Records (RecordFaults.ReadOnly i)) b = both_ways _ b.1.3 (k.writes_suit i b.0 b.1.0 b.1.1 b.1.2)
  none_broken k (Table f) b = both_ways _ b (le-leb (length table) most_words k.table_counted)

  -- what the check accepts keeps every rule
  pub kept : passes (checked rows records table) ≡ true → Keeps rows records table
  kept h = keeps (λ g b. (checked_right rows records table).clear (is_ok (checked rows records table) h) g (all_causes g) b)

  -- what keeps every rule is accepted
  pub accepts : (r : Answer Fault) → r ≡ checked rows records table → Keeps rows records table → passes r ≡ true
  accepts r h k = ok_unless r (λ f e. none_broken k f ((checked_right rows records table).found f (sym h ∙ e)).1)

  -- the check's answer is right
  pub judged : (r : Answer Fault) → r ≡ checked rows records table → Judged rows records table r
  judged (Ok u) h = kept (sym (ap passes h))
  judged (Err f) h = let q = (checked_right rows records table).found f (sym h) in record { broken = q.1; earliest = λ g p b. q.2 g (all_causes g) p b }
