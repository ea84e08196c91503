-- What a case's operation answers, by its kind.
use Rattle.std.specs.Prelude.{ℕ, ℤ, Some, None, Ok, Err, Option, Result}
use Rattle.number.specs.declared.kind.Stop.{Stop}
use Rattle.number.specs.Meaning.{Meaning}
use Rattle.number.specs.Whole.{signed, word, whole_add, whole_subtract, whole_multiply, whole_divide, whole_remainder, whole_negate, whole_less, whole_equal}
use Rattle.vectors.specs.declared.answer.Answer.{Answer}
use Rattle.vectors.specs.declared.answer.Answer.TheVariants as answer
use Rattle.vectors.specs.declared.answer.Operation.{Operation}
use Rattle.vectors.specs.declared.answer.Operation.TheVariants.{Admit, Add, Subtract, Multiply, Divide, Remainder, Negate, Less, Equal, FromWhole, ToWhole}

-- a word or a stop
abbrev pub of_word : Result ℕ Stop → Answer
of_word (Ok w) = answer.Word w
of_word (Err s) = answer.Stop s

-- a whole number's word or a stop
abbrev pub of_whole : Result ℤ Stop → Answer
of_whole (Ok z) = answer.Word (word z)
of_whole (Err s) = answer.Stop s

-- the operation on numbers of a kind; there is no remainder of numbers
abbrev pub on_numbers : Meaning → Operation → ℕ → ℕ → Option Answer
on_numbers m Admit a b = Some (answer.Word (m.admit a))
on_numbers m Add a b = Some (of_word (m.add a b))
on_numbers m Subtract a b = Some (of_word (m.subtract a b))
on_numbers m Multiply a b = Some (of_word (m.multiply a b))
on_numbers m Divide a b = Some (of_word (m.divide a b))
on_numbers m Remainder a b = None
on_numbers m Negate a b = Some (of_word (m.negate a))
on_numbers m Less a b = Some (answer.Flag (m.less a b))
on_numbers m Equal a b = Some (answer.Flag (m.equal a b))
on_numbers m FromWhole a b = Some (of_word (m.from_whole (signed a)))
on_numbers m ToWhole a b = Some (of_whole (m.to_whole a))

-- the operation on whole numbers, which are not admitted or converted
abbrev pub on_wholes : Operation → ℕ → ℕ → Option Answer
on_wholes Admit a b = None
on_wholes Add a b = Some (answer.Word (whole_add a b))
on_wholes Subtract a b = Some (answer.Word (whole_subtract a b))
on_wholes Multiply a b = Some (answer.Word (whole_multiply a b))
on_wholes Divide a b = Some (of_word (whole_divide a b))
on_wholes Remainder a b = Some (of_word (whole_remainder a b))
on_wholes Negate a b = Some (answer.Word (whole_negate a))
on_wholes Less a b = Some (answer.Flag (whole_less a b))
on_wholes Equal a b = Some (answer.Flag (whole_equal a b))
on_wholes FromWhole a b = None
on_wholes ToWhole a b = None
