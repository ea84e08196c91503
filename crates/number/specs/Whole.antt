-- Whole numbers: signed, of 32 bits, wrapping modulo 2 ^ 32.
use Rattle.std.specs.Prelude.{ℕ, zero, suc, Bool, ℤ, pos, negsuc, ◌+ℤ◌, ◌-ℤ◌, ◌*ℤ◌, neg_ℤ, Ok, Err, Result, ◌==◌, int_div, int_lt, int_rem}
use Rattle.std.proofs.Common.{to_z, of_z}
use Rattle.std.specs.Int.{int_wrap, w32}
use Rattle.number.specs.declared.kind.Stop.{Stop}
use Rattle.number.specs.declared.kind.Stop.TheVariants.{DivisionByZero}

-- the signed number that a word holds in two's complement
abbrev pub signed : ℕ → ℤ
signed w = to_z w32 w

-- the word that holds a signed number
abbrev pub word : ℤ → ℕ
word z = of_z w32 z

-- the signed number of 32 bits that is z modulo 2 ^ 32
abbrev pub wrap : ℤ → ℤ
wrap z = int_wrap w32 z

-- x, unless the divisor is zero
abbrev pub unless_zero : {A : Type 0} → ℤ → A → Result A Stop
unless_zero (pos zero) x = Err DivisionByZero
unless_zero (pos (suc n)) x = Ok x
unless_zero (negsuc n) x = Ok x

-- the sum of two whole numbers, wrapped
abbrev pub whole_add : ℕ → ℕ → ℕ
whole_add a b = word (wrap (signed a +ℤ signed b))

-- their difference, wrapped
abbrev pub whole_subtract : ℕ → ℕ → ℕ
whole_subtract a b = word (wrap (signed a -ℤ signed b))

-- their product, wrapped
abbrev pub whole_multiply : ℕ → ℕ → ℕ
whole_multiply a b = word (wrap (signed a *ℤ signed b))

-- the negative of a whole number, wrapped
abbrev pub whole_negate : ℕ → ℕ
whole_negate a = word (wrap (neg_ℤ (signed a)))

-- the quotient, wrapped; `int_div` drops the fraction toward zero
abbrev pub whole_divide : ℕ → ℕ → Result ℕ Stop
whole_divide a b = unless_zero (signed b) (word (wrap (int_div (signed a) (signed b))))

-- what a division leaves; `int_rem` has the sign of the dividend
abbrev pub whole_remainder : ℕ → ℕ → Result ℕ Stop
whole_remainder a b = unless_zero (signed b) (word (int_rem (signed a) (signed b)))

-- the first lies below the second
abbrev pub whole_less : ℕ → ℕ → Bool
whole_less a b = int_lt (signed a) (signed b)

-- the same number, which only one word holds
abbrev pub whole_equal : ℕ → ℕ → Bool
whole_equal a b = a == b
