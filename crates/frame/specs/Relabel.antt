-- A frame whose channels are chosen from those of a frame below.
use Rattle.std.specs.Prelude.{ℕ, Bool, true, if◌then◌else◌, not, ◌&&◌, List, [], ◌∷◌, length, ◌==◌, nat_lt, slice_index}
use Rattle.std.specs.List.{list_any, list_all}
use Rattle.frame.specs.Image.{Image, image_of, inside, with_word, empty_image}
use Rattle.frame.specs.Size.{channels_ok}

-- does the list have x?
abbrev pub has : ℕ → List ℕ → Bool
has x ys = list_any (λ y. y == x) ys

-- has the list no repeats?
abbrev pub distinct : List ℕ → Bool
distinct [] = true
distinct (x ∷ xs) = not (has x xs) && distinct xs

-- are they all channels of a frame that has k?
abbrev pub all_below : ℕ → List ℕ → Bool
all_below k xs = list_all (λ x. nat_lt x k) xs

-- is it a list of 1 to 8 existing channels without repeats?
abbrev pub list_ok : ℕ → List ℕ → Bool
list_ok k m = channels_ok (length m) && (all_below k m && distinct m)

-- the labels that a frame keeps of a list, over a frame of k channels: none of a list outside the limits
abbrev pub kept_labels : ℕ → List ℕ → List ℕ
kept_labels k m = if list_ok k m then m else []

-- the image whose channel c is channel m(c) below: an empty list leaves no pixels
abbrev pub relabelled : List ℕ → Image → Image
relabelled m below = image_of (if nat_lt 0 (length m) then below.pixels else 0) (length m) (λ p c. below.word p (slice_index m c))

-- the relabelled frame over a frame: a list outside the limits makes one of no pixels and no channels
abbrev pub relabelled_image : List ℕ → Image → Image
relabelled_image m below = if list_ok below.channels m then relabelled m below else empty_image

-- the image below after a put: one inside changes channel m(c) of that pixel, one outside nothing
abbrev pub put_below : List ℕ → Image → ℕ → ℕ → ℕ → Image
put_below m below p c w = if inside (relabelled m below) p c then with_word below p (slice_index m c) w else below
