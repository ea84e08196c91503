-- Every pixel of an accepted transform ends: each step is counted, and none leads away from the records.
use Rattle.std.proofs.Common.{◌≡◌, ℕ, zero, suc, ◌+◌, ◌<◌, ◌≤◌, Bool, true, false, cond, eqb, List, [], ◌∷◌, map, length, get_or, ℤ, is_some, Some, None, Ok, Err, Option, Result, sym, refl, ap, ◌∙◌, subst, inl, inr, arith}
use Rattle.std.specs.Option.{option_map}
use Rattle.std.specs.List.{AllByRecursion}
use Rattle.std.proofs.lemmas.Bool.{cases_Bool, true≢false, eqb-false, cond-true, cond-false}
use Rattle.schedule.specs.Machine.{Ends, Reaches, lone}
use Rattle.schedule.proofs.LoneRuns.{lone_ends}
use Rattle.number.specs.Meaning.{Meaning}
use Rattle.number.specs.declared.kind.Stop.{Stop}
use Rattle.transform.specs.Kinds.{kind_of}
use Rattle.transform.specs.Parts.{record_at, word_at}
use Rattle.transform.specs.Steps as steps
use Rattle.transform.specs.Steps.{step_of, step_at}
use Rattle.transform.proofs.Kept.{kept}
use Rattle.transform.proofs.StepSound.{step_at_later, step_sound}
use Rattle.transform.specs.declared.accepted.Accepted.{Accepted}
use Rattle.transform.specs.declared.kind.RecordKind.{RecordKind}
use Rattle.transform.specs.declared.kind.RecordKind.TheVariants.{Literal, Copy, Add, Subtract, Multiply, Divide, Remainder, Negate, Less, Equal, Not, ToNumber, ToWhole, LookUp, Branch}
use Rattle.transform.specs.declared.parts.Row.{Row}
use Rattle.transform.specs.declared.parts.Record.{Record}
use Rattle.transform.specs.declared.step.Step.{Step}
use Rattle.engine.specs.declared.effect.Effect.{Effect}
use Rattle.engine.specs.declared.effect.Effect.TheVariants.{Put, Go}
use Rattle.engine.specs.declared.ending.Ending.{Ending}
use Rattle.engine.specs.declared.ending.Ending.TheVariants.{Done, Spent}
use Rattle.engine.specs.declared.pixel.Pixel.{Pixel}
use Rattle.engine.specs.declared.settings.Settings.{Settings}
use Rattle.engine.specs.Effects.{putting, putting_whole, putting_entry, effect_of}
use Rattle.engine.specs.Pixels.{ending_at, standing, settled, taken, stepped}
use Rattle.engine.specs.Runs.{Setting, setting, machine, start_of, Running, Sound}
use Rattle.engine.specs.Start.{start_registers}

-- every place but 0 of the records has a step, which names rows and leads to records
abbrev pub Fit : List Row → List Record → Type 0
Fit rows records = (i : ℕ) → 0 < i → i < length records → (s : Step) × ((step_at rows records i ≡ Some s) × steps.Sound (length rows) (length records) s)

some_of : {X : Type 0} (o : Option X) → is_some o ≡ true → (x : X) × (o ≡ Some x)
some_of None e = absurd (true≢false (sym e))
some_of (Some x) e = (x, refl)

-- the records of an accepted transform are fit
pub accepted_fit : (t : Accepted) → Fit t.rows.now t.records.now
accepted_fit t i o l =
    let rows = t.rows.now in
    let records = t.records.now in
    let k = some_of (kind_of (record_at records i).kind) ((kept rows records t.table.now t.accepted).kinds_known i o l) in (
      step_of rows k.0 (record_at records i),
      (step_at_later rows records i o ∙ ap (option_map (λ kind. step_of rows kind (record_at records i))) k.1, step_sound rows records t.table.now t.accepted i k.0 o k.1),
    )

-- an effect that goes to a place goes to one of n records
abbrev Leads : ℕ → Result Effect Ending → Type 0
Leads n (Ok (Put w)) = Unit {0}
Leads n (Ok (Go place)) = place < n
Leads n (Err e) = Unit {0}

putting_leads : (n : ℕ) (x : Result ℕ Stop) → Leads n (putting x)
putting_leads n (Ok w) = tt
putting_leads n (Err s) = tt

whole_leads : (n : ℕ) (x : Result ℤ Stop) → Leads n (putting_whole x)
whole_leads n (Ok z) = tt
whole_leads n (Err s) = tt

entry_leads : (n : ℕ) (m : Meaning) (x : Option ℕ) → Leads n (putting_entry m x)
entry_leads n m (Some w) = tt
entry_leads n m None = tt

branch_leads : (n : ℕ) (taken : Bool) (x y : ℕ) → x < n → y < n → cond taken x y < n
branch_leads n true x y h k = h
branch_leads n false x y h k = k

effect_leads : (m : Meaning) (table : List ℕ) (s : Step) (a b n : ℕ) → s.next < n → s.other < n → (kind : RecordKind) → Leads n (effect_of m table s a b kind)
effect_leads m table s a b n h k Literal = tt
effect_leads m table s a b n h k Copy = tt
effect_leads m table s a b n h k Add = putting_leads n _
effect_leads m table s a b n h k Subtract = putting_leads n _
effect_leads m table s a b n h k Multiply = putting_leads n _
effect_leads m table s a b n h k Divide = putting_leads n _
effect_leads m table s a b n h k Remainder = putting_leads n _
effect_leads m table s a b n h k Negate = putting_leads n _
effect_leads m table s a b n h k Less = tt
effect_leads m table s a b n h k Equal = tt
effect_leads m table s a b n h k Not = tt
effect_leads m table s a b n h k ToNumber = putting_leads n _
effect_leads m table s a b n h k ToWhole = whole_leads n _
effect_leads m table s a b n h k LookUp = entry_leads n m (word_at table a)
effect_leads m table s a b n h k Branch = branch_leads n (eqb a 0) s.other s.next k h

settled_counts : (budget : ℕ) (p : Pixel) (s : Step) (e : Result Effect Ending) → (settled budget p s e).steps ≡ p.steps + 1
settled_counts budget p s (Ok (Put w)) = refl
settled_counts budget p s (Ok (Go place)) = refl
settled_counts budget p s (Err e) = refl

-- where no ending stands, the place is not 0 and the budget is not used up
unended : (budget place k : ℕ) → is_some (ending_at budget place k) ≡ false → (eqb place 0 ≡ false) × (eqb k budget ≡ false) × (ending_at budget place k ≡ None)
unended budget place k h =
    elim (cases_Bool (eqb place 0)) [
      | inl e ↦ absurd (true≢false (sym (ap is_some (cond-true (eqb place 0) (Some Done) (cond (eqb k budget) (Some Spent) None) e)) ∙ h))
      | inr e ↦
          let f = cond-false (eqb place 0) (Some Done) (cond (eqb k budget) (Some Spent) None) e in
          elim (cases_Bool (eqb k budget)) [
            | inl i ↦ absurd (true≢false (sym (ap is_some (f ∙ cond-true (eqb k budget) (Some Spent) None i)) ∙ h))
            | inr i ↦ (e, i, f ∙ cond-false (eqb k budget) (Some Spent) None i)
          ]
    ]

module _ (s : Setting) where
  abbrev budget : ℕ
  budget = s.budget

  abbrev count : ℕ
  count = length s.records

  -- a pixel that stands at a record within the budget is sound
  pub standing_sound : (registers : List ℕ) (place k : ℕ) → place < count → k ≤ budget → Sound s (standing budget registers place k)
  standing_sound registers place k h l e =
      let u = unended budget place k e in
      let a = eqb-false place 0 u.0 in
      let b = eqb-false k budget u.1 in
      record { unended = u.2; placed = omega (arith, a); here = h; unspent = omega (arith, b) }

  settled_sound : (p : Pixel) (st : Step) (x : Result Effect Ending) → p.steps < budget → st.next < count → Leads count x → Sound s (settled budget p st x)
  settled_sound p st (Ok (Put w)) u h l = standing_sound _ st.next (p.steps + 1) h (omega arith)
  settled_sound p st (Ok (Go place)) u h l = standing_sound p.registers place (p.steps + 1) l (omega arith)
  settled_sound p st (Err e) u h l = λ z. absurd (true≢false z)

  module _ (fit : Fit s.rows s.records) where
    abbrev next : Pixel → Pixel
    next p = stepped s.meaning s.rows s.records s.table budget p

    -- what the step t does to the pixel p
    abbrev does : Pixel → Step → Result Effect Ending
    does p t = effect_of s.meaning s.table t (get_or p.registers t.a 0) (get_or p.registers t.b 0) t.kind

    -- a step is counted
    step_counts : (p : Pixel) → Running count budget p → (next p).steps ≡ p.steps + 1
    step_counts p r =
        let f = fit p.place r.placed r.here in
        ap (λ o. (taken s.meaning s.table budget p o).steps) f.1.0 ∙ settled_counts budget p f.0 (does p f.0)

    next_sound : (p : Pixel) → Running count budget p → Sound s (next p)
    next_sound p r =
        let f = fit p.place r.placed r.here in
        let t = f.0 in
        let lead = effect_leads s.meaning s.table t (get_or p.registers t.a 0) (get_or p.registers t.b 0) count f.1.1.next f.1.1.other t.kind in
        subst (λ o. Sound s (taken s.meaning s.table budget p o)) (sym f.1.0) (settled_sound p t (does p t) r.unspent f.1.1.next lead)

    -- soundness lasts, and each step brings the steps that are left down
    pub pixels_end : Ends (machine s) (Sound s)
    pixels_end = record {
      kept = λ p g e. next_sound p (g e);
      falls = λ p g e. let u = (g e).unspent in let k = step_counts p (g e) in omega arith;
    }

    -- a pixel that is reached counts the steps that led to it
    reaches_counts : (k : ℕ) (p t : Pixel) → Sound s p → Reaches (machine s) p k t → t.steps ≡ p.steps + k
    reaches_counts zero p t g r = let e = ap (λ q. q.steps) r.1 in omega arith
    reaches_counts (suc k) p t g r =
        let u = g r.0 in
        let ih = reaches_counts k (next p) t (next_sound p u) r.1 in
        let c = step_counts p u in
        omega arith

    -- from a pixel that has taken no step, the lone run's end is reached in as many steps as it counts
    pub lone_counted : (p : Pixel) → Sound s p → p.steps ≡ 0 → Reaches (machine s) p (lone (machine s) p).steps (lone (machine s) p)
    lone_counted p g z =
        let r = lone_ends (machine s) pixels_end p g in
        let k : (lone (machine s) p).steps ≡ r.0 = let c = reaches_counts r.0 p (lone (machine s) p) g r.1 in omega arith in
        subst (λ n. Reaches (machine s) p n (lone (machine s) p)) (sym k) r.1

-- under settings every pixel ends
pub settings_end : (m : Meaning) (s : Settings) → Ends (machine (setting m s)) (Sound (setting m s))
settings_end m s = pixels_end (setting m s) (accepted_fit s.transform)

-- a pixel at its start is sound: an accepted transform has a record at place 1
pub start_sound : (m : Meaning) (s : Settings) (inputs : List ℕ) → Sound (setting m s) (start_of (setting m s) inputs)
start_sound m s inputs =
    let few = s.transform.few_records.0 in
    standing_sound (setting m s) (start_registers m s.transform.rows.now s.uniforms.now inputs) 1 0 (omega arith) (omega arith)

-- so are all pixels at their start
pub starts_sound : (m : Meaning) (s : Settings) (inputs : List (List ℕ)) → AllByRecursion (Sound (setting m s)) (map (start_of (setting m s)) inputs)
starts_sound m s [] = tt
starts_sound m s (words ∷ inputs) = (start_sound m s words, starts_sound m s inputs)
