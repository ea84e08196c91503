-- Several words written into one pixel.
use Rattle.std.specs.Prelude.{◌≡◌, ℕ, Bool, true, false, if◌then◌else◌, List, map, fold, ◌≢◌, All}
use Rattle.std.specs.List.{list_all}
use Rattle.frame.specs.Image.{Image, inside, put_image}
use Rattle.frame.specs.Relabel.{has, distinct}
use Rattle.frame.specs.declared.pixel.Sample.{Sample}

-- does the image have a place in pixel p for each of the samples?
abbrev pub all_inside : Image → ℕ → List Sample → Bool
all_inside m p ss = list_all (λ s. inside m p s.channel) ss

-- the samples put into pixel p, one after another
abbrev pub put_samples : Image → ℕ → List Sample → Image
put_samples m p ss = fold (λ m s. put_image m p s.channel s.word) m ss

-- what writing the samples into pixel p makes of an image: one outside and nothing changes
abbrev pub write_image : Image → ℕ → List Sample → Image
write_image m p ss = if all_inside m p ss then put_samples m p ss else m

-- the channels that the samples name
abbrev pub channels_of : List Sample → List ℕ
channels_of ss = map (λ s. s.channel) ss

-- does pixel p hold each of the samples?
abbrev pub Holds : Image → ℕ → List Sample → Type 0
Holds m p ss = All (λ s. m.word p s.channel ≡ s.word) ss

-- what stands after samples were written into pixel p: they alone have changed
pub record Written (before : Image) (p : ℕ) (ss : List Sample) (after : Image) : Type 0 where
  -- as many pixels and channels as before
  pub same_pixels : after.pixels ≡ before.pixels
  pub same_channels : after.channels ≡ before.channels
  -- every other pixel is as it was
  pub elsewhere : (q d : ℕ) → (q ≢ p) → after.word q d ≡ before.word q d
  -- so is every channel of this pixel that no sample names
  pub others : (d : ℕ) → has d (channels_of ss) ≡ false → after.word p d ≡ before.word p d
  -- and if all lie inside and no channel is named twice, the pixel holds them
  pub holds : all_inside before p ss ≡ true → distinct (channels_of ss) ≡ true → Holds after p ss
