-- The fixed kind: a word is a signed count of 65,536ths.
use Rattle.std.specs.Prelude.{ℕ, Bool, if◌then◌else◌, ◌&&◌, ℤ, pos, negsuc, ◌+ℤ◌, ◌-ℤ◌, ◌*ℤ◌, neg_ℤ, Ok, Err, Result, int_div, int_le, int_lt}
use Rattle.std.specs.Int.Signed.{shr_z}
use Rattle.std.specs.Int.{saturate_to_bits}
use Rattle.number.specs.declared.kind.Stop.{Stop}
use Rattle.number.specs.declared.kind.Stop.TheVariants.{OutOfRange}
use Rattle.number.specs.Meaning.{Meaning}
use Rattle.number.specs.Whole.{signed, word, unless_zero}

-- the word of the count nearest to z: -2 ^ 31 below the range, 2 ^ 31 - 1 above it
abbrev pub clipped : ℤ → ℕ
clipped z = word (saturate_to_bits 31 z)

-- the sum of the counts, clipped
abbrev pub fixed_add : ℕ → ℕ → Result ℕ Stop
fixed_add a b = Ok (clipped (signed a +ℤ signed b))

-- the difference of the counts, clipped
abbrev pub fixed_subtract : ℕ → ℕ → Result ℕ Stop
fixed_subtract a b = Ok (clipped (signed a -ℤ signed b))

-- the product of the counts by 65,536, the fraction dropped toward zero, clipped
abbrev pub fixed_multiply : ℕ → ℕ → Result ℕ Stop
fixed_multiply a b = Ok (clipped (int_div (signed a *ℤ signed b) (pos 65536)))

-- 65,536 times the first count by the second, the fraction dropped toward zero, clipped; a zero divisor stops
abbrev pub fixed_divide : ℕ → ℕ → Result ℕ Stop
fixed_divide a b = unless_zero (signed b) (clipped (int_div (signed a *ℤ pos 65536) (signed b)))

-- the negative of the count, clipped
abbrev pub fixed_negate : ℕ → Result ℕ Stop
fixed_negate a = Ok (clipped (neg_ℤ (signed a)))

-- the first count lies below the second
abbrev pub fixed_less : ℕ → ℕ → Bool
fixed_less a b = int_lt (signed a) (signed b)

-- neither count lies below the other
abbrev pub fixed_equal : ℕ → ℕ → Bool
fixed_equal a b = int_le (signed a) (signed b) && int_le (signed b) (signed a)

-- 65,536 times the whole number, from -32,768 to 32,767; any other is out of range
abbrev pub fixed_from_whole : ℤ → Result ℕ Stop
fixed_from_whole z = if int_le (negsuc 32767) z && int_le z (pos 32767) then Ok (word (z *ℤ pos 65536)) else Err OutOfRange

-- the count by 65,536, rounded down
abbrev pub fixed_to_whole : ℕ → Result ℤ Stop
fixed_to_whole a = Ok (shr_z (signed a) 65536)

-- the fixed kind, number 2; every word is admitted as itself
abbrev pub fixed : Meaning
fixed = record {
  number = 2;
  admit = λ w. w;
  add = fixed_add;
  subtract = fixed_subtract;
  multiply = fixed_multiply;
  divide = fixed_divide;
  negate = fixed_negate;
  less = fixed_less;
  equal = fixed_equal;
  from_whole = fixed_from_whole;
  to_whole = fixed_to_whole;
}
