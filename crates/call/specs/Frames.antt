-- What a run reads from a frame and writes to one.
use Rattle.std.specs.Prelude.{ℕ, zero, suc, ◌+◌, Bool, true, false, if◌then◌else◌, List, [], ◌∷◌, map, length, Some, None, Option, slice_index}
use Rattle.std.specs.List.{range_with_len}
use Rattle.frame.specs.Image.{Image, sample, put_image}
use Rattle.transform.specs.Parts.{row_at, is_out, channels}
use Rattle.transform.specs.declared.parts.Row.{Row}
use Rattle.engine.specs.declared.ending.Ending.{Ending}
use Rattle.engine.specs.declared.ending.Ending.TheVariants.{Done, Stopped, OutsideTable, Spent}
use Rattle.engine.specs.declared.pixel.Pixel.{Pixel}
use Rattle.call.specs.declared.mark.Mark.{Mark}

-- the word of a sample, or 0
abbrev pub word_of : Option ℕ → ℕ
word_of (Some w) = w
word_of None = 0

-- the word at a pixel and a channel, 0 where the image has none
abbrev pub input_word : Image → ℕ → ℕ → ℕ
input_word m p c = word_of (sample m p c)

-- the words of a pixel on the channels 0 to 7
abbrev pub input_words : Image → ℕ → List ℕ
input_words m p = map (input_word m p) (range_with_len 0 channels)

-- the image after an out row's word goes to the row's channel of pixel p; any other row's does not
abbrev pub row_put : ℕ → Row → ℕ → Image → Image
row_put p row w m = if is_out row then put_image m p row.channel w else m

-- the image after the first n rows' words are put into pixel p
abbrev pub rows_put : List Row → List ℕ → ℕ → ℕ → Image → Image
rows_put rows registers p zero m = m
rows_put rows registers p (suc n) m = row_put p (row_at rows n) (slice_index registers n) (rows_put rows registers p n m)

-- the chain of records came to its end
abbrev pub is_done : Option Ending → Bool
is_done (Some Done) = true
is_done (Some (Stopped s)) = false
is_done (Some OutsideTable) = false
is_done (Some Spent) = false
is_done None = false

-- the image after the end of a run is written into pixel p: the out words of a run that is done, and nothing of any other
abbrev pub end_put : List Row → Pixel → ℕ → Image → Image
end_put rows end p m = if is_done end.ending then rows_put rows end.registers p (length rows) m else m

-- the image after the ends of runs are written into the pixels from p on
abbrev pub ends_put : List Row → List Pixel → ℕ → Image → Image
ends_put rows [] p m = m
ends_put rows (end ∷ ends) p m = ends_put rows ends (p + 1) (end_put rows end p m)

-- the ending of a pixel; one that has none is on its way, as no end of a run is
abbrev pub ending_of : Option Ending → Ending
ending_of (Some e) = e
ending_of None = Spent

-- what is reported of the end of a run
abbrev pub mark_of : Pixel → Mark
mark_of end = record { ending = ending_of end.ending; place = end.place; steps = end.steps }
