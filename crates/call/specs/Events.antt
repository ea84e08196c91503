-- What a run does.
use Rattle.std.specs.Prelude.{◌≡◌, ℕ, List, map, length, Some, None, Ok, Err, Option, Result}
use Rattle.std.specs.List.{range_with_len}
use Rattle.schedule.specs.Rounds.{rounds}
use Rattle.frame.specs.Image.{Image}
use Rattle.engine.specs.Runs.{Setting, machine, start_of, lone_run}
use Rattle.engine.specs.declared.pixel.Pixel.{Pixel}
use Rattle.call.specs.declared.mark.Answer.{Answer}
use Rattle.call.specs.declared.mark.Mark.{Mark}
use Rattle.call.specs.declared.refusal.RunRefusal.{RunRefusal}
use Rattle.call.specs.declared.tally.Tally.{Tally}
use Rattle.call.specs.Frames.{input_words, ends_put, mark_of}
use Rattle.call.specs.Requests.{refusal}
use Rattle.call.specs.Tallies.{Tallied}

-- the input words of count pixels from first on
abbrev pub batch_words : Image → ℕ → ℕ → List (List ℕ)
batch_words inn first count = map (input_words inn) (range_with_len first count)

-- the ends of the runs by themselves of the pixels of a batch
abbrev pub batch_ends : Setting → Image → ℕ → ℕ → List Pixel
batch_ends s inn first count = map (lone_run s) (batch_words inn first count)

-- the rounds of a batch
abbrev pub batch_rounds : Setting → Image → ℕ → ℕ → ℕ
batch_rounds s inn first count = rounds (machine s) (map (start_of s) (batch_words inn first count))

-- a run: the batch asked for, the marks as they were given and as they were filled, the answer, and the out image and the tally that it left
pub record Event : Type 0 where
  pub first : ℕ
  pub count : ℕ
  pub given : List Mark
  pub filled : List Mark
  pub answer : Result Answer RunRefusal
  pub out : Image
  pub tally : Tally

-- a refused run alters nothing
pub record Refused (out : Image) (t : Tally) (e : Event) (r : RunRefusal) : Type 0 where
  pub answer : e.answer ≡ Err r
  pub marks : e.filled ≡ e.given
  pub image : e.out ≡ out
  pub counts : e.tally ≡ t

-- a run that serves its batch: its marks are those of the runs by themselves, in pixel order, and the out words of those that are done are written
pub record Serves (s : Setting) (inn out : Image) (t : Tally) (e : Event) : Type 0 where
  pub answer : e.answer ≡ Ok (record { rounds = batch_rounds s inn e.first e.count; kind = s.meaning.number })
  pub marks : e.filled ≡ map mark_of (batch_ends s inn e.first e.count)
  pub image : e.out ≡ ends_put s.rows (batch_ends s inn e.first e.count) e.first out
  pub counts : Tallied t e.filled (batch_rounds s inn e.first e.count) e.tally

-- a run that is refused, or serves
abbrev pub RanBy : Setting → Image → Image → Tally → Event → Option RunRefusal → Type 0
RanBy s inn out t e (Some r) = Refused out t e r
RanBy s inn out t e None = Serves s inn out t e

-- a run over an in image, on an out image and a tally: the first condition that holds refuses it, and else it serves its batch
abbrev pub Ran : Setting → Image → Image → Tally → Event → Type 0
Ran s inn out t e = RanBy s inn out t e (refusal s.rows inn out t.served e.first e.count (length e.given))
