-- What one step does, of each kind of record: the word that it puts, the place that it goes to, or the ending that it stops with.
use Rattle.std.specs.Prelude.{ℕ, if◌then◌else◌, List, ℤ, Some, None, Ok, Err, Option, Result, ◌==◌}
use Rattle.std.specs.Int.{from_bool}
use Rattle.number.specs.declared.kind.Stop.{Stop}
use Rattle.number.specs.Meaning.{Meaning}
use Rattle.number.specs.Whole.{signed, word, whole_add, whole_subtract, whole_multiply, whole_divide, whole_remainder, whole_negate, whole_less, whole_equal}
use Rattle.transform.specs.Parts.{word_at}
use Rattle.transform.specs.declared.kind.RecordKind.{RecordKind}
use Rattle.transform.specs.declared.kind.RecordKind.TheVariants.{Literal, Copy, Add, Subtract, Multiply, Divide, Remainder, Negate, Less, Equal, Not, ToNumber, ToWhole, LookUp, Branch}
use Rattle.transform.specs.declared.step.Step.{Step}
use Rattle.engine.specs.declared.effect.Effect.{Effect}
use Rattle.engine.specs.declared.effect.Effect.TheVariants.{Put, Go}
use Rattle.engine.specs.declared.ending.Ending.{Ending}
use Rattle.engine.specs.declared.ending.Ending.TheVariants.{Stopped, OutsideTable}

-- an operation's word is put, and its stop is the pixel's ending
abbrev pub putting : Result ℕ Stop → Result Effect Ending
putting (Ok w) = Ok (Put w)
putting (Err s) = Err (Stopped s)

-- a whole number's word is put, and its stop is the pixel's ending
abbrev pub putting_whole : Result ℤ Stop → Result Effect Ending
putting_whole (Ok z) = Ok (Put (word z))
putting_whole (Err s) = Err (Stopped s)

-- a table word is admitted and put; outside the table the pixel stops
abbrev pub putting_entry : Meaning → Option ℕ → Result Effect Ending
putting_entry m (Some w) = Ok (Put (m.admit w))
putting_entry m None = Err OutsideTable

-- the table word, admitted; outside the table the pixel stops
abbrev pub entry_word : Meaning → Option ℕ → Result ℕ Ending
entry_word m (Some w) = Ok (m.admit w)
entry_word m None = Err OutsideTable

-- The effect of the step s, whose registers a and b hold these words, by its kind.
-- The seven operations on numbers and on whole numbers alike go by what register a holds.
abbrev pub effect_of : Meaning → List ℕ → Step → ℕ → ℕ → RecordKind → Result Effect Ending
effect_of m table s a b Literal = Ok (Put (if s.to_number then m.admit s.word else s.word))
effect_of m table s a b Copy = Ok (Put a)
effect_of m table s a b Add = putting (if s.a_number then m.add a b else Ok (whole_add a b))
effect_of m table s a b Subtract = putting (if s.a_number then m.subtract a b else Ok (whole_subtract a b))
effect_of m table s a b Multiply = putting (if s.a_number then m.multiply a b else Ok (whole_multiply a b))
effect_of m table s a b Divide = putting (if s.a_number then m.divide a b else whole_divide a b)
effect_of m table s a b Remainder = putting (whole_remainder a b)
effect_of m table s a b Negate = putting (if s.a_number then m.negate a else Ok (whole_negate a))
effect_of m table s a b Less = Ok (Put (from_bool (if s.a_number then m.less a b else whole_less a b)))
effect_of m table s a b Equal = Ok (Put (from_bool (if s.a_number then m.equal a b else whole_equal a b)))
effect_of m table s a b Not = Ok (Put (from_bool (a == 0)))
effect_of m table s a b ToNumber = putting (m.from_whole (signed a))
effect_of m table s a b ToWhole = putting_whole (m.to_whole a)
effect_of m table s a b LookUp = putting_entry m (word_at table a)
effect_of m table s a b Branch = Ok (Go (if a == 0 then s.other else s.next))
