-- The float kind: a word is a binary32 of IEEE 754. Its operations round once, to the nearest value, a tie to the even one.
use Rattle.std.specs.Prelude.{◌≡◌, ℕ, suc, ◌*◌, ◌/◌, ◌^◌, ◌<◌, Bool, true, false, if◌then◌else◌, ◌&&◌, ℤ, pos, negsuc, neg_ℤ, Ok, Err, Result, int_le, nat_le, nat_lt, unsigned_abs, Float}
use Rattle.std.specs.Float.Ieee as Ieee
use Rattle.std.specs.Float.{nan, inf, fin, binary32}
use Rattle.std.specs.Float.Ieee.{up, down}
use Rattle.number.specs.declared.kind.Stop.{Stop}
use Rattle.number.specs.declared.kind.Stop.TheVariants.{OutOfRange}
use Rattle.number.specs.Meaning.{Meaning}

-- the value that a word holds
abbrev pub value : ℕ → Float
value w = Ieee.of_bits binary32 w

-- the word that holds a value: 7FC00000h for a NaN
abbrev pub pattern : Float → ℕ
pattern x = Ieee.to_bits binary32 x

-- every NaN as 7FC00000h, any other word as itself
abbrev pub float_admit : ℕ → ℕ
float_admit w = if Ieee.is_nan (value w) then 0x7fc00000 else w

-- the sum, rounded once
abbrev pub float_add : ℕ → ℕ → Result ℕ Stop
float_add a b = Ok (pattern (Ieee.add binary32 (value a) (value b)))

-- the difference, rounded once
abbrev pub float_subtract : ℕ → ℕ → Result ℕ Stop
float_subtract a b = Ok (pattern (Ieee.sub binary32 (value a) (value b)))

-- the product, rounded once
abbrev pub float_multiply : ℕ → ℕ → Result ℕ Stop
float_multiply a b = Ok (pattern (Ieee.mul binary32 (value a) (value b)))

-- the quotient, rounded once; a zero divisor gives an infinity or a NaN
abbrev pub float_divide : ℕ → ℕ → Result ℕ Stop
float_divide a b = Ok (pattern (Ieee.div binary32 (value a) (value b)))

-- the other sign
abbrev pub float_negate : ℕ → Result ℕ Stop
float_negate a = Ok (pattern (Ieee.neg (value a)))

-- a whole number from -2 ^ 24 to 2 ^ 24 is that float; any other is out of range
abbrev pub float_from_whole : ℤ → Result ℕ Stop
float_from_whole z = if int_le (negsuc 16777215) z && int_le z (pos 16777216) then Ok (pattern (Ieee.of_int binary32 z)) else Err OutOfRange

-- x is the number z itself, and not one that it was rounded to
abbrev pub Exactly : Float → ℤ → Type 0
Exactly nan z = ⊥
Exactly (inf s) z = ⊥
Exactly (fin s m e) (pos n) = (s ≡ false) × (m * up e ≡ n * down e)
Exactly (fin s m e) (negsuc n) = (s ≡ true) × (m * up e ≡ suc n * down e)

-- what a conversion from z answers is z itself, or a stop for a z outside -2 ^ 24 to 2 ^ 24
abbrev pub ExactOr : Result ℕ Stop → ℤ → Type 0
ExactOr (Ok w) z = Exactly (value w) z
ExactOr (Err s) z = (s ≡ OutOfRange) × (2 ^ 24 < unsigned_abs z)

-- the whole number n with the sign s, if it is one of 32 bits
abbrev pub in_range : Bool → ℕ → Result ℤ Stop
in_range true n = if nat_le n (2 ^ 31) then Ok (neg_ℤ (pos n)) else Err OutOfRange
in_range false n = if nat_lt n (2 ^ 31) then Ok (pos n) else Err OutOfRange

-- the size without its fraction, with the sign; a NaN and an infinity are out of range
abbrev pub whole_part : Float → Result ℤ Stop
whole_part nan = Err OutOfRange
whole_part (inf s) = Err OutOfRange
whole_part (fin s m e) = in_range s (m * up e / down e)

-- the float that the word holds, without its fraction
abbrev pub float_to_whole : ℕ → Result ℤ Stop
float_to_whole a = whole_part (value a)

-- the float kind, number 1
abbrev pub float : Meaning
float = record {
  number = 1;
  admit = float_admit;
  add = float_add;
  subtract = float_subtract;
  multiply = float_multiply;
  divide = float_divide;
  negate = float_negate;
  less = λ a b. Ieee.lt (value a) (value b);
  equal = λ a b. Ieee.eq (value a) (value b);
  from_whole = float_from_whole;
  to_whole = float_to_whole;
}
