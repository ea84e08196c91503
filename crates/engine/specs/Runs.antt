-- A pixel's run by itself, from its start to its ending.
use Rattle.std.specs.Prelude.{◌≡◌, ℕ, ◌-◌, ◌<◌, false, List, length, is_some, None}
use Rattle.schedule.specs.Machine.{Machine, lone, Reaches}
use Rattle.number.specs.Meaning.{Meaning}
use Rattle.transform.specs.declared.accepted.Accepted.{Accepted}
use Rattle.transform.specs.declared.parts.Row.{Row}
use Rattle.transform.specs.declared.parts.Record.{Record}
use Rattle.engine.specs.declared.budget.Budget.{Budget}
use Rattle.engine.specs.declared.pixel.Pixel.{Pixel}
use Rattle.engine.specs.declared.settings.Settings.{Settings}
use Rattle.engine.specs.Pixels.{stepped}
use Rattle.engine.specs.Start.{started}

-- what decides a pixel besides its input words
pub record Setting : Type 0 where
  pub meaning : Meaning
  pub rows : List Row
  pub records : List Record
  pub table : List ℕ
  pub budget : ℕ
  pub uniforms : List ℕ

-- the setting of a number kind, an accepted transform, a budget and uniform words
abbrev pub setting_of : Meaning → Accepted → Budget → List ℕ → Setting
setting_of m t b uniforms = record { meaning = m; rows = t.rows.now; records = t.records.now; table = t.table.now; budget = b.steps; uniforms = uniforms }

-- the setting of a number kind under settings
abbrev pub setting : Meaning → Settings → Setting
setting m s = setting_of m s.transform s.budget s.uniforms.now

-- the pixels of a setting as a machine: a pixel stands at its place, has ended once it has an ending, and never takes more steps than the budget
abbrev pub machine : Setting → Machine Pixel
machine s = record {
  place = λ p. p.place;
  ended = λ p. is_some p.ending;
  step = stepped s.meaning s.rows s.records s.table s.budget;
  left = λ p. s.budget - p.steps;
}

-- the pixel with these input words, at its start
abbrev pub start_of : Setting → List ℕ → Pixel
start_of s inputs = started s.meaning s.rows s.budget s.uniforms inputs

-- the end of the run by itself of the pixel with these input words
abbrev pub lone_run : Setting → List ℕ → Pixel
lone_run s inputs = lone (machine s) (start_of s inputs)

-- the pixel p ends the run from these input words: as many steps as it counts lead to it from the start, and it is the first with an ending
abbrev pub EndsRun : Setting → List ℕ → Pixel → Type 0
EndsRun s inputs p = Reaches (machine s) (start_of s inputs) p.steps p

-- a pixel that may take a step: without an ending, at a record that is a step, with steps left
pub record Running (records budget : ℕ) (p : Pixel) : Type 0 where
  pub unended : p.ending ≡ None
  pub placed : 0 < p.place
  pub here : p.place < records
  pub unspent : p.steps < budget

-- a pixel without an ending may take a step
abbrev pub Sound : Setting → Pixel → Type 0
Sound s p = is_some p.ending ≡ false → Running (length s.records) s.budget p
