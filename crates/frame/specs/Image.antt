-- What a frame means.
use Rattle.std.specs.Prelude.{ℕ, Bool, if◌then◌else◌, ◌&&◌, Some, None, Option, ◌==◌, nat_lt}

-- a pixel count, a channel count, and a word for each pixel and channel
pub record Image : Type 0 where
  pub pixels : ℕ
  pub channels : ℕ
  pub word : ℕ → ℕ → ℕ

-- is there such a sample?
abbrev pub inside : Image → ℕ → ℕ → Bool
inside m p c = nat_lt p m.pixels && nat_lt c m.channels

-- the word at a pixel and a channel, none outside
abbrev pub sample : Image → ℕ → ℕ → Option ℕ
sample m p c = if inside m p c then Some (m.word p c) else None

-- the image with one sample changed
abbrev pub with_word : Image → ℕ → ℕ → ℕ → Image
with_word m p c w = record {
  pixels = m.pixels;
  channels = m.channels;
  word = λ q d. if q == p && d == c then w else m.word q d;
}

-- what a put makes of an image: a put outside changes nothing
abbrev pub put_image : Image → ℕ → ℕ → ℕ → Image
put_image m p c w = if inside m p c then with_word m p c w else m

-- the image of so many pixels and channels that has f's words inside, and 0 outside
abbrev pub image_of : ℕ → ℕ → (ℕ → ℕ → ℕ) → Image
image_of n k f = record {
  pixels = n;
  channels = k;
  word = λ p c. if nat_lt p n && nat_lt c k then f p c else 0;
}

-- a frame of no pixels and no channels
abbrev pub empty_image : Image
empty_image = image_of 0 0 (λ _ _. 0)
