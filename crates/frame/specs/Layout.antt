-- How frames lie in memory.
use Rattle.std.specs.Prelude.{ℕ, ◌+◌, ◌*◌, ◌/◌, if◌then◌else◌, List, ◌++◌, length, take, drop, Some, None, Option, slice_index, slice_set}
use Rattle.std.specs.Int.{w32, to_be_bytes, from_be_bytes}
use Rattle.frame.specs.Image.{Image, image_of, inside}
use Rattle.frame.specs.Size.{kept, fitting, has_sample}
use Rattle.frame.specs.declared.size.Size.{Size}

-- the word of a pixel and a channel in words that lie channel after channel, n to a channel
abbrev pub plane_word : List ℕ → ℕ → ℕ → ℕ → ℕ
plane_word ws n p c = slice_index ws (c * n + p)

-- the pixels of this size in words that lie channel after channel
abbrev pub planes : Size → List ℕ → Image
planes z ws = image_of z.pixels z.channels (plane_word ws z.pixels)

-- the planar frame of k channels in these words
abbrev pub planar_image : List ℕ → ℕ → Image
planar_image ws k = planes (fitting (length ws) k) ws

-- the place of a sample among words that lie channel after channel, if there is such a sample
abbrev pub plane_place : Size → ℕ → ℕ → Option ℕ
plane_place z p c = if has_sample z p c then Some (c * z.pixels + p) else None

-- the words after a put: one inside changes the one word of its sample, one outside none
abbrev pub put_plane : Size → List ℕ → ℕ → ℕ → ℕ → List ℕ
put_plane z ws p c w = if inside (planes z ws) p c then slice_set ws (c * z.pixels + p) w else ws

-- the word in the four bytes from place i on, most significant first
abbrev pub be_word : List ℕ → ℕ → ℕ
be_word bs i = from_be_bytes w32 (drop i bs)

-- the bytes with the four from place i on made the word, most significant first
abbrev pub put_word : List ℕ → ℕ → ℕ → List ℕ
put_word bs i w = take (length bs) (take i bs ++ (to_be_bytes w32 w ++ drop (i + 4) bs))

-- the word of a pixel and a channel in bytes that lie pixel after pixel, four to a sample, k samples to a pixel
abbrev pub packed_word : List ℕ → ℕ → ℕ → ℕ → ℕ
packed_word bs k p c = be_word bs (4 * (p * k + c))

-- the pixels of this size in bytes that lie pixel after pixel
abbrev pub packed : Size → List ℕ → Image
packed z bs = image_of z.pixels z.channels (packed_word bs z.channels)

-- the byte frame of k channels in these bytes
abbrev pub packed_image : List ℕ → ℕ → Image
packed_image bs k = packed (fitting (length bs / 4) k) bs

-- the place of the bytes of a sample among bytes that lie pixel after pixel, if there is such a sample
abbrev pub packed_place : Size → ℕ → ℕ → Option ℕ
packed_place z p c = if has_sample z p c then Some (4 * (p * z.channels + c)) else None

-- the bytes after a put: one inside changes the four bytes of its sample, one outside none
abbrev pub put_packed : Size → List ℕ → ℕ → ℕ → ℕ → List ℕ
put_packed z bs p c w = if inside (packed z bs) p c then put_word bs (4 * (p * z.channels + c)) w else bs

-- pixels of this size that all have the same word in each channel
abbrev pub flat : Size → List ℕ → Image
flat z ws = image_of z.pixels z.channels (λ _ c. slice_index ws c)

-- the field of n pixels with one word per channel: outside the limits no pixels and no channels
abbrev pub field_image : List ℕ → ℕ → Image
field_image ws n = flat (kept n (length ws)) ws
