-- When a run is refused.
use Rattle.std.specs.Prelude.{ℕ, ◌+◌, Bool, if◌then◌else◌, not, ◌&&◌, ◌||◌, List, [], ◌∷◌, Some, None, Ok, Err, Option, Result, ◌==◌, nat_lt}
use Rattle.std.specs.List.{list_any}
use Rattle.frame.specs.Image.{Image}
use Rattle.transform.specs.Parts.{is_in, is_out}
use Rattle.transform.specs.declared.parts.Row.{Row}
use Rattle.call.specs.declared.refusal.RunRefusal.{RunRefusal}
use Rattle.call.specs.declared.refusal.RunRefusal.TheVariants.{Count, PixelCounts, PastEnd, Channel, Marks, Served}
use Rattle.call.specs.Tallies.{most_served}

-- a batch has at most so many pixels
abbrev pub most_batch_pixels : ℕ
most_batch_pixels = 64

-- an in row's channel is not among those of the in frame, or an out row's not among those of the out frame
abbrev pub row_lacks : ℕ → ℕ → Row → Bool
row_lacks ins outs row = if is_in row then not (nat_lt row.channel ins) else is_out row && not (nat_lt row.channel outs)

-- so it is for one of the rows
abbrev pub lacks_channel : ℕ → ℕ → List Row → Bool
lacks_channel ins outs rows = list_any (row_lacks ins outs) rows

-- the first refusal whose condition holds
abbrev pub first_of : List (Bool × RunRefusal) → Option RunRefusal
first_of [] = None
first_of (c ∷ cs) = if c.0 then Some c.1 else first_of cs

-- the conditions in their order, for a call that has served so many pixels, a batch of count pixels from first on, and so many marks given
abbrev pub conditions : List Row → Image → Image → ℕ → ℕ → ℕ → ℕ → List (Bool × RunRefusal)
conditions rows inn out served first count given =
    (count == 0 || nat_lt most_batch_pixels count, Count)
    ∷ (not (inn.pixels == out.pixels), PixelCounts)
    ∷ (nat_lt inn.pixels (first + count), PastEnd)
    ∷ (lacks_channel inn.channels out.channels rows, Channel)
    ∷ (not (given == count), Marks)
    ∷ (nat_lt most_served (served + count), Served)
    ∷ []

-- the refusal of a run, if it is refused
abbrev pub refusal : List Row → Image → Image → ℕ → ℕ → ℕ → ℕ → Option RunRefusal
refusal rows inn out served first count given = first_of (conditions rows inn out served first count given)

-- what is answered where a refusal is none, and where it is one
abbrev pub unless_refused : Option RunRefusal → Result (Unit {0}) RunRefusal
unless_refused None = Ok tt
unless_refused (Some r) = Err r
