-- The fifteen kinds of step.
use Rattle.std.specs.Prelude.{ℕ, Bool, ◌&&◌, ◌||◌, List, [], ◌∷◌, Some, None, Option, Result, ◌==◌, nat_eq, nat_le, slice_index_or}
use Rattle.std.specs.Option.{ok_or}
use Rattle.transform.specs.Parts.{flag, whole, number}
use Rattle.transform.specs.Tests.{◌implies◌}
use Rattle.transform.specs.declared.kind.Fields.{Fields}
use Rattle.transform.specs.declared.kind.Fields.TheVariants.{Word, One, Two, Fork}
use Rattle.transform.specs.declared.kind.RecordKind.{RecordKind}
use Rattle.transform.specs.declared.kind.RecordKind.TheVariants.{Literal, Copy, Add, Subtract, Multiply, Divide, Remainder, Negate, Less, Equal, Not, ToNumber, ToWhole, LookUp, Branch}
use Rattle.transform.specs.declared.kind.UnknownKind.{UnknownKind}

-- the kinds by their numbers, from 0
abbrev pub kinds : List (Option RecordKind)
kinds =
    None ∷ Some Literal ∷ Some Copy ∷ Some Add ∷ Some Subtract ∷ Some Multiply ∷ Some Divide ∷ Some Remainder ∷ Some Negate ∷
    Some Less ∷ Some Equal ∷ Some Not ∷ Some ToNumber ∷ Some ToWhole ∷ Some LookUp ∷ Some Branch ∷ []

-- the kind with the number, if there is one
abbrev pub kind_of : ℕ → Option RecordKind
kind_of n = slice_index_or kinds n None

-- the kind with the number, or the error that the number names none
abbrev pub kind_named : ℕ → Result RecordKind UnknownKind
kind_named n = ok_or (kind_of n) (record { 0 = n })

-- which fields the kind uses, besides next: to and word; to and a; to, a and b; or a, and b for the place of a record
abbrev pub fields_of : RecordKind → Fields
fields_of Literal = Word
fields_of Copy = One
fields_of Add = Two
fields_of Subtract = Two
fields_of Multiply = Two
fields_of Divide = Two
fields_of Remainder = Two
fields_of Negate = One
fields_of Less = Two
fields_of Equal = Two
fields_of Not = One
fields_of ToNumber = One
fields_of ToWhole = One
fields_of LookUp = One
fields_of Branch = Fork

-- a register that holds a whole number or a number
abbrev pub counts : ℕ → Bool
counts t = t == whole || t == number

-- the kind suits its word and registers that hold what to, a and b hold
abbrev pub suits : RecordKind → ℕ → ℕ → ℕ → ℕ → Bool
suits Literal to a b word = nat_eq to flag implies nat_le word 1
suits Copy to a b word = to == a
suits Add to a b word = counts to && a == to && b == to
suits Subtract to a b word = counts to && a == to && b == to
suits Multiply to a b word = counts to && a == to && b == to
suits Divide to a b word = counts to && a == to && b == to
suits Remainder to a b word = to == whole && a == whole && b == whole
suits Negate to a b word = counts to && a == to
suits Less to a b word = to == flag && counts a && b == a
suits Equal to a b word = to == flag && counts a && b == a
suits Not to a b word = to == flag && a == flag
suits ToNumber to a b word = to == number && a == whole
suits ToWhole to a b word = to == whole && a == number
suits LookUp to a b word = to == number && a == whole
suits Branch to a b word = a == flag
