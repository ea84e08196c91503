-- Two tests that the rules are written with.
use Rattle.std.specs.Prelude.{ℕ, Bool, true, if◌then◌else◌, ◌&&◌, nat_le}

-- n is from low to high
abbrev pub within : ℕ → ℕ → ℕ → Bool
within low high n = nat_le low n && nat_le n high

infixr 10 ◌implies◌
-- where the first test holds, the second does
abbrev pub ◌implies◌ : Bool → Bool → Bool
a implies b = if a then b else true
