-- The laws of rounds, as statements on a machine and its sound states.
use Rattle.std.specs.Prelude.{◌≡◌, ℕ, zero, suc, ◌+◌, ◌≤◌, List, [], ◌∷◌, ◌++◌, map, Some, None}
use Rattle.std.specs.List.{AllByRecursion}
use Rattle.schedule.specs.Machine.{Machine, Reaches, lone, steps}
use Rattle.schedule.specs.Rounds.{lowest, round, rounds, total}

-- n rounds, each at the lowest place, lead from the states ss to the states ts, which have all ended
abbrev pub Leads : {S : Type 0} → Machine S → List S → ℕ → List S → Type 0
Leads m ss zero ts = (lowest m ss ≡ None) × (ss ≡ ts)
Leads m ss (suc n) ts = (p : ℕ) × (lowest m ss ≡ Some p) × Leads m (round m p ss) n ts

-- a state's run by itself comes to its end in as many steps as are counted for it
abbrev pub Counted : {S : Type 0} → Machine S → (S → Type 0) → Type 0
Counted {S} m Sound = (s : S) → Sound s → Reaches m s (steps m s) (lone m s)

-- the rounds lead each state to the end of its run by itself, whatever the company; and no other number of rounds leads to an end
abbrev pub Company : {S : Type 0} → Machine S → (S → Type 0) → Type 0
Company {S} m Sound =
    (ss : List S) → AllByRecursion Sound ss →
    Leads m ss (rounds m ss) (map (lone m) ss) × ((n : ℕ) (ts : List S) → Leads m ss n ts → (n ≡ rounds m ss) × (ts ≡ map (lone m) ss))

-- a batch of one takes a round for each step
abbrev pub Alone : {S : Type 0} → Machine S → (S → Type 0) → Type 0
Alone {S} m Sound = (s : S) → Sound s → rounds m (s ∷ []) ≡ steps m s

-- two batches joined take no more rounds than both apart, and no fewer than either
abbrev pub Joined : {S : Type 0} → Machine S → (S → Type 0) → Type 0
Joined {S} m Sound =
    (xs ys : List S) → AllByRecursion Sound xs → AllByRecursion Sound ys →
    (rounds m (xs ++ ys) ≤ rounds m xs + rounds m ys) × (rounds m xs ≤ rounds m (xs ++ ys)) × (rounds m ys ≤ rounds m (xs ++ ys))

-- a batch takes no more rounds than its states take steps together
abbrev pub Bounded : {S : Type 0} → Machine S → (S → Type 0) → Type 0
Bounded {S} m Sound = (ss : List S) → AllByRecursion Sound ss → rounds m ss ≤ total (steps m) ss

-- no state takes more steps than its batch takes rounds
abbrev pub Longest : {S : Type 0} → Machine S → (S → Type 0) → Type 0
Longest {S} m Sound = (ss : List S) → AllByRecursion Sound ss → AllByRecursion (λ s. steps m s ≤ rounds m ss) ss

-- the states of several batches, in order
abbrev pub chained : {S : Type 0} → List (List S) → List S
chained [] = []
chained (b ∷ bs) = b ++ chained bs

-- however a batch is cut, the whole takes no more rounds than the parts together, and no fewer than any part
abbrev pub Cut : {S : Type 0} → Machine S → (S → Type 0) → Type 0
Cut {S} m Sound =
    (bs : List (List S)) → AllByRecursion (AllByRecursion Sound) bs →
    (rounds m (chained bs) ≤ total (rounds m) bs) × AllByRecursion (λ b. rounds m b ≤ rounds m (chained bs)) bs

-- the laws of rounds, for a machine and its sound states
pub record Laws {S : Type 0} (m : Machine S) (Sound : S → Type 0) : Type 0 where
  pub counted : Counted m Sound
  pub company : Company m Sound
  pub alone : Alone m Sound
  pub joined : Joined m Sound
  pub bounded : Bounded m Sound
  pub longest : Longest m Sound
  pub cut : Cut m Sound
