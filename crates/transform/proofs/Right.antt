-- Answers that are right about a region of faults, and how they join.
use Rattle.std.proofs.Common.{◌≡◌, ℕ, zero, suc, ◌<◌, ◌≤◌, Bool, true, false, ◌⊎◌, [], ◌∷◌, get_or, Ok, Err, sym, refl, ap, ◌∙◌, subst, inl, inr, ⊎_elim, arith}
use Rattle.std.proofs.lemmas.Bool.{true≢false}
use Rattle.std.proofs.lemmas.Bool.Decides.{nat_tests}
use Rattle.transform.specs.Answers.{Answer, demand, ◌and_then◌, throughout, raised}
use Rattle.transform.specs.Breach.{stage, Precedes}
use Rattle.transform.specs.Faults.{cause, place}
use Rattle.transform.specs.declared.fault.Fault.{Fault}
use Rattle.transform.specs.declared.fault.Fault.TheVariants.{Rows, Records, Table}
use Rattle.transform.specs.declared.fault.RecordFault.TheVariants as RecordFaults
use Rattle.transform.specs.declared.fault.RowFault.TheVariants as RowFaults
use Rattle.transform.specs.declared.fault.TableFault.TheVariants.{TooLong}

-- the fault with that cause and place
abbrev pub fault_of : ℕ → ℕ → Fault
fault_of k i =
    get_or
    (Rows RowFaults.Count ∷ Rows RowFaults.Count ∷ Rows (RowFaults.Unknown i) ∷ Rows (RowFaults.Channel i) ∷ Rows (RowFaults.Word i) ∷ Rows (RowFaults.RepeatedOut i) ∷
    Records RecordFaults.Count ∷ Records RecordFaults.FirstNotZero ∷ Records (RecordFaults.Kind i) ∷ Records (RecordFaults.Target i) ∷ Records (RecordFaults.Field i) ∷ Records (RecordFaults.Types i) ∷ Records (RecordFaults.ReadOnly i) ∷ [])
    k (Table TooLong)

-- cause and place tell the fault
pub told : (g : Fault) → g ≡ fault_of (cause g) (place g)
told (Rows RowFaults.Count) = refl
told (Rows (RowFaults.Unknown i)) = refl
told (Rows (RowFaults.Channel i)) = refl
told (Rows (RowFaults.Word i)) = refl
told (Rows (RowFaults.RepeatedOut i)) = refl
told (Records RecordFaults.Count) = refl
told (Records RecordFaults.FirstNotZero) = refl
told (Records (RecordFaults.Kind i)) = refl
told (Records (RecordFaults.Target i)) = refl
told (Records (RecordFaults.Field i)) = refl
told (Records (RecordFaults.Types i)) = refl
told (Records (RecordFaults.ReadOnly i)) = refl
told (Table TooLong) = refl

-- two faults of one cause and place are one
pub same_fault : (f g : Fault) → cause g ≡ cause f → place g ≡ place f → g ≡ f
same_fault f g k p = told g ∙ ap (λ x. fault_of x (place g)) k ∙ ap (fault_of (cause f)) p ∙ sym (told f)

-- later causes come at later stages
stage_rises : (k l : ℕ) → k ≤ l → stage k ≤ stage l
stage_rises k l h = grind (arith, nat_tests)

-- a fault of a later stage does not come before
later_stage : (f g : Fault) → stage (cause f) < stage (cause g) → Precedes g f → ⊥
later_stage f g h p = grind arith

-- nor one of the same stage at a later place
later_place : (f g : Fault) → stage (cause f) ≡ stage (cause g) → place f < place g → Precedes g f → ⊥
later_place f g s h p = grind arith

-- nor one at the same place of no lower cause
pub same_place : (f g : Fault) → cause f ≤ cause g → place f ≡ place g → Precedes g f → ⊥
same_place f g h e p =
    let s = stage_rises (cause f) (cause g) h in grind arith

-- the faults with a cause from k to l
abbrev pub Causes : ℕ → ℕ → Fault → Type 0
Causes k l g = (k ≤ cause g) × (cause g ≤ l)

-- those at a place below n
abbrev pub Below : ℕ → ℕ → ℕ → Fault → Type 0
Below k l n g = (k ≤ cause g) × (cause g ≤ l) × (place g < n)

-- those at the place i
abbrev pub At : ℕ → ℕ → ℕ → Fault → Type 0
At k l i g = (k ≤ cause g) × (cause g ≤ l) × (place g ≡ i)

-- no fault of the region is there, or the answer's is, and none of the region before it
pub record Right (Broken : Fault → Type 0) {F : Type 0} (up : F → Fault) (Region : Fault → Type 0) (x : Answer F) : Type 0 where
  pub clear : x ≡ Ok tt → (g : Fault) → Region g → Broken g → ⊥
  pub found : (f : F) → x ≡ Err f → Region (up f) × Broken (up f) × ((g : Fault) → Region g → Precedes g (up f) → Broken g → ⊥)

module _ (Broken : Fault → Type 0) where
  -- an answer stays right as its fault becomes one of the whole check
  pub right_raised : {F : Type 0} (up : F → Fault) (A : Fault → Type 0) (x : Answer F) → Right Broken up A x → Right Broken (λ f. f) A (raised up x)
  right_raised up A (Ok u) r = record { clear = λ e. r.clear refl; found = λ f e. absurd cc }
  right_raised up A (Err f) r =
      record {
        clear = λ e. absurd cc;
        found = λ g e. let q : up f ≡ g = cc in subst (λ g. A g × Broken g × ((h : Fault) → A h → Precedes h g → Broken h → ⊥)) q (r.found f refl);
      }

  module _ {F : Type 0} (up : F → Fault) where
    -- a region may lose what is not broken
    pub right_wider : (A B : Fault → Type 0) (x : Answer F) → ((g : Fault) → B g → Broken g → A g) → ((g : Fault) → A g → B g) → Right Broken up A x → Right Broken up B x
    right_wider A B x back on r =
        record {
          clear = λ e g b broken. r.clear e g (back g b broken) broken;
          found = λ f e. let q = r.found f e in (on (up f) q.0, q.1, λ g b p broken. q.2 g (back g b broken) p broken);
        }

    -- two answers, one after the other, are right about both regions
    pub right_then : (A B : Fault → Type 0) (x y : Answer F) → ((f g : Fault) → A f → B g → Precedes g f → ⊥) → Right Broken up A x → Right Broken up B y → Right Broken up (λ g. A g ⊎ B g) (x and_then y)
    right_then A B (Ok u) y order r s =
        record {
          clear = λ e g c broken. ⊎_elim (λ a. r.clear refl g a broken) (λ b. s.clear e g b broken) c;
          found = λ f e. let q = s.found f e in (inr q.0, q.1, λ g c p broken. ⊎_elim (λ a. r.clear refl g a broken) (λ b. q.2 g b p broken) c);
        }
    right_then A B (Err h) y order r s =
        record {
          clear = λ e. absurd cc;
          found = λ f e. let q = r.found f e in (inl q.0, q.1, λ g c p broken. ⊎_elim (λ a. q.2 g a p broken) (λ b. order (up f) g q.0 b p) c);
        }

    -- a fault that comes before every other of its region
    pub right_fault : (A : Fault → Type 0) (f : F) → A (up f) → Broken (up f) → ((g : Fault) → A g → Precedes g (up f) → ⊥) → Right Broken up A (Err f)
    right_fault A f a broken least =
        record {
          clear = λ e. absurd cc;
          found = λ h e. let q : f ≡ h = cc in subst (λ h. A (up h) × Broken (up h) × ((g : Fault) → A g → Precedes g (up h) → Broken g → ⊥)) q (a, broken, λ g b p _. least g b p);
        }

    -- a rule that is kept exactly where the one fault of the region is not there
    pub right_demand : (A : Fault → Type 0) (f : F) (kept : Bool) → A (up f) → ((g : Fault) → A g → g ≡ up f) → (Broken (up f) → kept ≡ false) → (kept ≡ false → Broken (up f)) → Right Broken up A (demand kept f)
    right_demand A f true a only fails breaks =
        record { clear = λ e g b broken. true≢false (fails (subst Broken (only g b) broken)); found = λ h e. absurd cc }
    right_demand A f false a only fails breaks =
        right_fault A f a (breaks refl) (λ g b p. same_place (up f) g (omega (arith, ap cause (only g b))) (sym (ap place (only g b))) p)

    -- a demand of a fault that has no place of its own
    pub lone_demand : (f : F) (kept : Bool) → ((i : ℕ) → fault_of (cause (up f)) i ≡ up f) → (Broken (up f) → kept ≡ false) → (kept ≡ false → Broken (up f)) → Right Broken up (Causes (cause (up f)) (cause (up f))) (demand kept f)
    lone_demand f kept alone = right_demand (Causes (cause (up f)) (cause (up f))) f kept (omega arith, omega arith) (λ g c. let e : cause g ≡ cause (up f) = omega (arith, c.0, c.1) in told g ∙ ap (λ k. fault_of k (place g)) e ∙ alone (place g))

    -- the demand of a place's last cause
    pub last_demand : (f : F) (kept : Bool) → (Broken (up f) → kept ≡ false) → (kept ≡ false → Broken (up f)) → Right Broken up (At (cause (up f)) (cause (up f)) (place (up f))) (demand kept f)
    last_demand f kept = right_demand (At (cause (up f)) (cause (up f)) (place (up f))) f kept (omega arith, omega arith, refl) (λ g c. same_fault (up f) g (omega (arith, c.0, c.1)) c.2)

    -- the demand of a cause before those that follow at the place
    pub demand_then : (f : F) (kept : Bool) (l : ℕ) (y : Answer F) → cause (up f) ≤ l → (Broken (up f) → kept ≡ false) → (kept ≡ false → Broken (up f)) → Right Broken up (At (suc (cause (up f))) l (place (up f))) y → Right Broken up (At (cause (up f)) l (place (up f))) (demand kept f and_then y)
    demand_then f kept l y h fails breaks r =
        let k = cause (up f) in
        let i = place (up f) in
        right_wider (λ g. At k k i g ⊎ At (suc k) l i g) (At k l i) (demand kept f and_then y)
        (λ g c _. grind arith)
        (λ g c. grind arith)
        (right_then (At k k i) (At (suc k) l i) (demand kept f) y (λ f g a b p. same_place f g (omega (arith, a.1, b.0)) (a.2 ∙ sym b.2) p) (last_demand f kept fails breaks) r)

    -- one stage after another
    pub stages_then : (k m l : ℕ) (x y : Answer F) → stage m < stage (suc m) → k ≤ m → m < l → Right Broken up (Causes k m) x → Right Broken up (Causes (suc m) l) y → Right Broken up (Causes k l) (x and_then y)
    stages_then k m l x y rises low high r s =
        right_wider (λ g. Causes k m g ⊎ Causes (suc m) l g) (Causes k l) (x and_then y)
        (λ g c _. grind arith)
        (λ g c. grind arith)
        (right_then (Causes k m) (Causes (suc m) l) x y (λ f g a b p. later_stage f g (omega (arith, stage_rises (cause f) m a.1, stage_rises (suc m) (cause g) b.0)) p) r s)

    -- place after place, at one stage
    pub throughout_right : (k l : ℕ) (at : ℕ → Answer F) → stage k ≡ stage l → (n : ℕ) → ((i : ℕ) → i < n → Right Broken up (At k l i) (at i)) → Right Broken up (Below k l n) (throughout at n)
    throughout_right k l at same zero r = record { clear = λ e g c broken. omega (arith, c.2); found = λ f e. absurd cc }
    throughout_right k l at same (suc n) r =
        right_wider (λ g. Below k l n g ⊎ At k l n g) (Below k l (suc n)) (throughout at n and_then at n)
        (λ g c _. grind arith)
        (λ g c. grind arith)
        (right_then (Below k l n) (At k l n) (throughout at n) (at n)
        (λ f g a b p.
        later_place f g
        (omega (arith, same, stage_rises k (cause f) a.0, stage_rises (cause f) l a.1, stage_rises k (cause g) b.0, stage_rises (cause g) l b.1))
        (omega (arith, a.2, b.2)) p)
        (throughout_right k l at same n (λ i h. r i (omega arith))) (r n (omega arith)))
