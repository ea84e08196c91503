-- What the wrapping operations answer.
use Rattle.std.specs.Prelude.{◌≡◌, ℤ, FitsSigned, int_div}
use Rattle.std.proofs.Common.{to_z, of_z, rules}
use Rattle.std.specs.Int.{int_wrap, w32}
use Rattle.std.proofs.lemmas.Int.{to_z-of_z}

wrapped : (a b : ℤ) → FitsSigned w32 a → FitsSigned w32 b → to_z w32 (of_z w32 (int_div a b)) ≡ int_wrap w32 (int_div a b)
unfolding int_wrap
wrapped a b f g = search rules

-- what `wrapping_div` answers is the quotient, wrapped
pub wrapping_div_is : (a b : ℤ) → FitsSigned w32 a → FitsSigned w32 b
    → to_z w32 (of_z w32 (int_div (to_z w32 (of_z w32 a)) (to_z w32 (of_z w32 b)))) ≡ int_wrap w32 (int_div a b)
wrapping_div_is a b f g = rw (to_z-of_z w32 a f, to_z-of_z w32 b g) (wrapped a b f g)
