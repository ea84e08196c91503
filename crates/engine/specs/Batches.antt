-- Pixels that run together.
use Rattle.std.specs.Prelude.{ℕ, if◌then◌else◌, List, ◌++◌, map, length, take, drop, replicate, is_some, Some, None, Option, ◌==◌, nat_lt, slice_index_or}
use Rattle.schedule.specs.Rounds.{lower, lowest_by, rounds}
use Rattle.transform.specs.declared.step.Step.{Step}
use Rattle.engine.specs.declared.ending.Ending.TheVariants.{Done}
use Rattle.engine.specs.declared.pixel.Pixel.{Pixel}
use Rattle.engine.specs.Pixels.{taken}
use Rattle.engine.specs.Runs.{Setting, machine, start_of, lone_run}

-- a pixel at rest: nothing in its registers, and done
abbrev pub resting : Pixel
resting = record { registers = replicate 64 0; place = 0; steps = 0; ending = Some Done }

-- the pixel with an index, from 0
abbrev pub pixel_at : List Pixel → ℕ → Option Pixel
pixel_at pixels i = if nat_lt i (length pixels) then Some (slice_index_or pixels i resting) else None

-- the pixel after a step that has been read at its place
abbrev pub taking : Setting → Step → Pixel → Pixel
taking s step p = taken s.meaning s.table s.budget p (Some step)

-- in a round at a place a pixel takes the step that stands there, if it has no ending and stands there
abbrev pub turned : Setting → ℕ → Step → Pixel → Pixel
turned s place step p = if is_some p.ending then p else if p.place == place then taking s step p else p

-- the lower of a place, if there is one, and that of a pixel, if it has no ending
abbrev pub lowered : Option ℕ → Pixel → Option ℕ
lowered low p = if is_some p.ending then low else lower low (Some p.place)

-- the lowest place at which a pixel without an ending stands
abbrev pub lowest_place : List Pixel → Option ℕ
lowest_place pixels = lowest_by (λ p. p.place) (λ p. is_some p.ending) pixels

-- a batch after a run: the first pixels are the ends of the lone runs from the inputs, of which 64 count; the others are as before
abbrev pub ran_together : Setting → List (List ℕ) → List Pixel → List Pixel
ran_together s inputs before = map (lone_run s) (take 64 inputs) ++ drop (length inputs) before

-- the rounds of the pixels with these inputs, of which 64 count
abbrev pub rounds_of : Setting → List (List ℕ) → ℕ
rounds_of s inputs = rounds (machine s) (map (start_of s) (take 64 inputs))
