-- A machine that goes step by step, and the run of one of its states by itself.
use Rattle.std.specs.Prelude.{◌≡◌, ℕ, zero, suc, ◌<◌, Bool, true, false, if◌then◌else◌}

-- a state stands at a place, has ended or not and has at most so many steps left; `step` is for one that has not ended
pub record Machine (S : Type 0) : Type 0 where
  pub place : S → ℕ
  pub ended : S → Bool
  pub step : S → S
  pub left : S → ℕ

-- `Sound` lasts from step to step, and each step of a sound state brings the steps that are left down
pub record Ends {S : Type 0} (m : Machine S) (Sound : S → Type 0) : Type 0 where
  pub kept : (s : S) → Sound s → m.ended s ≡ false → Sound (m.step s)
  pub falls : (s : S) → Sound s → m.ended s ≡ false → m.left (m.step s) < m.left s

-- n steps lead from the state s to the state t, which has ended, as none before it has
abbrev pub Reaches : {S : Type 0} → Machine S → S → ℕ → S → Type 0
Reaches m s zero t = (m.ended s ≡ true) × (s ≡ t)
Reaches m s (suc n) t = (m.ended s ≡ false) × Reaches m (m.step s) n t

-- the state after n steps, or where it ended before
abbrev pub after : {S : Type 0} → Machine S → ℕ → S → S
after m zero s = s
after m (suc n) s = if m.ended s then s else after m n (m.step s)

-- the end of a state's run by itself: no run is longer than the steps that are left
abbrev pub lone : {S : Type 0} → Machine S → S → S
lone m s = after m (m.left s) s

-- how many steps are taken, of n at most
abbrev pub steps_in : {S : Type 0} → Machine S → ℕ → S → ℕ
steps_in m zero s = 0
steps_in m (suc n) s = if m.ended s then 0 else suc (steps_in m n (m.step s))

-- how many steps a state's run by itself takes
abbrev pub steps : {S : Type 0} → Machine S → S → ℕ
steps m s = steps_in m (m.left s) s
