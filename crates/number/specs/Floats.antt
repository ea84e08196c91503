-- The laws of the float kind.
use Rattle.std.specs.Prelude.{◌≡◌, ℕ, ◌^◌, ◌<◌, true, false, T, ℤ, Ok, Float}
use Rattle.std.proofs.Common.{arith}
use borrow.Author.Differences.{ints}
use Rattle.std.specs.Float.{nan, inf, fin, binary32}
use Rattle.std.specs.Float.Ieee.{fits, is_nan, to_bits, of_int}
use Rattle.std.specs.Float.Ieee.Bits.{of_bits-to_bits, to_bits-lt, of_bits-fits}
use Rattle.std.specs.Float.Ieee.Fits.{add-fits, sub-fits, mul-fits, div-fits, neg-fits, of_int-fits}
use Rattle.number.specs.Meaning.{YieldsNumber, YieldsWhole, Lawful}
use Rattle.number.specs.Float.{float, value, pattern, float_admit, float_from_whole, whole_part}

-- admitting
admit_word : (w : ℕ) → w < 2 ^ 32 → float_admit w < 2 ^ 32
admit_word w h = grind arith

admit_again : (w : ℕ) → float_admit (float_admit w) ≡ float_admit w
admit_again w = grind arith

-- a value of the format is written as an admitted word
admitted : (x : Float) → T (fits binary32 x) → float_admit (pattern x) ≡ pattern x
unfolding is_nan to_bits
admitted nan h = grind arith
admitted (inf s) h = rw (of_bits-to_bits binary32 (inf s) h)
admitted (fin s m e) h = rw (of_bits-to_bits binary32 (fin s m e) h)

written : (x : Float) → T (fits binary32 x) → YieldsNumber float (Ok (pattern x))
written x h = (to_bits-lt binary32 x h, admitted x h)

-- what becomes whole is a number of 32 bits
part_whole : (x : Float) → YieldsWhole (whole_part x)
part_whole nan = tt
part_whole (inf s) = tt
part_whole (fin true m e) = grind (arith, ints)
part_whole (fin false m e) = grind (arith, ints)

from_yields : (z : ℤ) → YieldsNumber float (float_from_whole z)
from_yields z = grind (arith, written (of_int binary32 z) (of_int-fits binary32 z))

-- the laws
pub lawful : Lawful float
lawful = record {
  admit_word = admit_word;
  admit_again = λ w h. admit_again w;
  add_yields = λ a b h k. written _ (add-fits binary32 (value a) (value b));
  subtract_yields = λ a b h k. written _ (sub-fits binary32 (value a) (value b));
  multiply_yields = λ a b h k. written _ (mul-fits binary32 (value a) (value b));
  divide_yields = λ a b h k. written _ (div-fits binary32 (value a) (value b));
  negate_yields = λ a h. written _ (neg-fits binary32 (value a) (of_bits-fits binary32 a));
  from_whole_yields = from_yields;
  to_whole_yields = λ a h. part_whole (value a);
}
