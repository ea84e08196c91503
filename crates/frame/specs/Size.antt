-- How many pixels and channels a frame has.
use Rattle.std.specs.Prelude.{ℕ, ◌/◌, min, Bool, if◌then◌else◌, ◌&&◌, nat_le, nat_lt}
use Rattle.frame.specs.declared.size.Size.{Size}

-- a frame has 1 to 8 channels
abbrev pub channels_ok : ℕ → Bool
channels_ok k = nat_le 1 k && nat_le k 8

-- a frame has at most this many pixels
abbrev pub most_pixels : ℕ
most_pixels = 16777216

-- n pixels of k channels: outside the limits no pixels and no channels
abbrev pub kept : ℕ → ℕ → Size
kept n k = if channels_ok k && nat_le n most_pixels then record { pixels = n; channels = k } else record { pixels = 0; channels = 0 }

-- as many whole pixels of k channels as so many samples make, within the limits
abbrev pub fitting : ℕ → ℕ → Size
fitting samples k = kept (min (samples / k) most_pixels) k

-- has a frame of this size such a sample?
abbrev pub has_sample : Size → ℕ → ℕ → Bool
has_sample z p c = nat_lt p z.pixels && nat_lt c z.channels
