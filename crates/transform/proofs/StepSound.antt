-- What the rules say of a step that is read.
use Rattle.std.proofs.Common.{◌≡◌, ℕ, zero, suc, ◌<◌, true, List, length, is_ok, Some, None, Option, sym, refl, ap, ⊎_elim, arith}
use Rattle.std.specs.Option.{option_map, ok_or}
use Rattle.std.specs.Result.{result_ok}
use Rattle.std.proofs.lemmas.List.{get_or_past}
use Rattle.std.proofs.lemmas.Bool.{cases_lt}
use Rattle.std.proofs.lemmas.Bool.Decides.{nat_tests}
use Rattle.transform.specs.Check.{checked}
use Rattle.transform.specs.Kinds.{kind_of}
use Rattle.transform.specs.Parts.{no_record, record_at}
use Rattle.transform.specs.Steps.{step_of, step_at, Sound}
use Rattle.transform.specs.declared.kind.RecordKind.{RecordKind}
use Rattle.transform.specs.declared.parts.Record.{Record}
use Rattle.transform.specs.declared.parts.Row.{Row}
use Rattle.transform.proofs.Kept.{kept}

-- an error in the place of none is left out again
pub ok-ok_or : {T E : Type 0} (o : Option T) (e : E) → result_ok (ok_or o e) ≡ o
ok-ok_or None e = refl
ok-ok_or (Some x) e = refl

-- past place 0 the step is the record of its kind
pub step_at_later : (rows : List Row) (records : List Record) (i : ℕ) → 0 < i → step_at rows records i ≡ option_map (λ kind. step_of rows kind (record_at records i)) (kind_of (record_at records i).kind)
step_at_later rows records zero l = absurd (omega arith)
step_at_later rows records (suc i) l = refl

-- a record of a known kind is there
record_there : (records : List Record) (i : ℕ) (kind : RecordKind) → kind_of (record_at records i).kind ≡ Some kind → i < length records
record_there records i kind e =
    ⊎_elim
    (λ l. l)
    (λ l. let none = sym (ap (λ c. kind_of c.kind) (get_or_past records i no_record l)) in absurd cc)
    (cases_lt i (length records))

-- the step of an accepted transform names what there is
pub step_sound : (rows : List Row) (records : List Record) (table : List ℕ) → is_ok (checked rows records table) ≡ true → (i : ℕ) (kind : RecordKind) → 0 < i → kind_of (record_at records i).kind ≡ Some kind → Sound (length rows) (length records) (step_of rows kind (record_at records i))
step_sound rows records table h i kind o e =
    let k = kept rows records table h in
    let l = record_there records i kind e in
    let some = k.rows_counted in
    let fields = k.fields_suit i kind o l e in
    let targets = k.targets_inside i kind o l e in
    record { to = grind (arith, nat_tests); a = grind (arith, nat_tests); b = grind (arith, nat_tests); next = grind (arith, nat_tests); other = grind (arith, nat_tests) }
