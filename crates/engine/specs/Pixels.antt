-- One pixel, step by step.
use Rattle.std.specs.Prelude.{ℕ, ◌+◌, if◌then◌else◌, List, Some, None, Ok, Err, Option, Result, ◌==◌, slice_index, slice_set}
use Rattle.number.specs.Meaning.{Meaning}
use Rattle.transform.specs.Steps.{step_at}
use Rattle.transform.specs.declared.parts.Row.{Row}
use Rattle.transform.specs.declared.parts.Record.{Record}
use Rattle.transform.specs.declared.step.Step.{Step}
use Rattle.engine.specs.declared.effect.Effect.{Effect}
use Rattle.engine.specs.declared.effect.Effect.TheVariants.{Put, Go}
use Rattle.engine.specs.declared.ending.Ending.{Ending}
use Rattle.engine.specs.declared.ending.Ending.TheVariants.{Done, Spent}
use Rattle.engine.specs.declared.pixel.Pixel.{Pixel}
use Rattle.engine.specs.Effects.{effect_of}

-- the ending at a place after so many steps: done at place 0, spent where the budget is used up
abbrev pub ending_at : ℕ → ℕ → ℕ → Option Ending
ending_at budget place steps = if place == 0 then Some Done else if steps == budget then Some Spent else None

-- the pixel that stands at a place with some registers, after so many steps
abbrev pub standing : ℕ → List ℕ → ℕ → ℕ → Pixel
standing budget registers place steps = record { registers = registers; place = place; steps = steps; ending = ending_at budget place steps }

-- the pixel after a step with an effect; one that stops keeps its registers and its place
abbrev pub settled : ℕ → Pixel → Step → Result Effect Ending → Pixel
settled budget p s (Ok (Put w)) = standing budget (slice_set p.registers s.to w) s.next (p.steps + 1)
settled budget p s (Ok (Go place)) = standing budget p.registers place (p.steps + 1)
settled budget p s (Err e) = record { registers = p.registers; place = p.place; steps = p.steps + 1; ending = Some e }

-- the pixel after the step, if there is one at its place
abbrev pub taken : Meaning → List ℕ → ℕ → Pixel → Option Step → Pixel
taken m table budget p None = p
taken m table budget p (Some s) = settled budget p s (effect_of m table s (slice_index p.registers s.a) (slice_index p.registers s.b) s.kind)

-- the pixel after the step at its place
abbrev pub stepped : Meaning → List Row → List Record → List ℕ → ℕ → Pixel → Pixel
stepped m rows records table budget p = taken m table budget p (step_at rows records p.place)
