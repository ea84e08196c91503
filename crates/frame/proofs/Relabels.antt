-- The labels of a relabelled frame.
use Rattle.std.proofs.Common.{◌≡◌, ℕ, zero, suc, ◌<◌, true, List, [], ◌∷◌, length, get_or, Some, refl, arith}
use Rattle.std.proofs.lemmas.Grind.{common_steps}
use Rattle.std.proofs.lemmas.Option.{slice_get_within, get_or_from_slice_get}
use Rattle.std.specs.List.{slice_get}
use Rattle.frame.specs.Image.{Image, inside, sample, put_image}
use Rattle.frame.specs.Relabel.{distinct, all_below, relabelled, put_below}
use Rattle.frame.proofs.Images.{same_images}

-- a label that was found is that of a channel, and exists below
label_found : (k : ℕ) (m : List ℕ) (c l : ℕ) → all_below k m ≡ true → slice_get m c ≡ Some l → (c < length m) × (get_or m c 0 ≡ l) × (l < k)
label_found k m c l exist found =
    let within = slice_get_within m c l found in
    let is = get_or_from_slice_get m c l 0 found in
    (within, is, grind (arith, common_steps))

-- no label stands twice
labels_apart : (m : List ℕ) (c d : ℕ) → distinct m ≡ true → c < length m → d < length m → get_or m c 0 ≡ get_or m d 0 → c ≡ d
labels_apart [] c d h lc ld e = absurd (omega (arith, lc))
labels_apart (x ∷ m) zero zero h lc ld e = refl
labels_apart (x ∷ m) zero (suc d) h lc ld e = grind (arith, common_steps)
labels_apart (x ∷ m) (suc c) zero h lc ld e = grind (arith, common_steps)
labels_apart (x ∷ m) (suc c) (suc d) h lc ld e = let rest = labels_apart m c d in grind (arith, common_steps)

-- the answer of the frame below, asked for a label, is that of the relabelled frame, asked for its channel
pub sample_through : (m : List ℕ) (below : Image) (p c l : ℕ) → all_below below.channels m ≡ true → slice_get m c ≡ Some l
    → sample below p l ≡ sample (relabelled m below) p c
sample_through m below p c l exist found = let label = label_found below.channels m c l exist found in grind (arith, common_steps)

-- the frame below takes a label exactly where the relabelled frame takes its channel
pub inside_through : (m : List ℕ) (below : Image) (p c l : ℕ) → all_below below.channels m ≡ true → slice_get m c ≡ Some l
    → inside below p l ≡ inside (relabelled m below) p c
inside_through m below p c l exist found = let label = label_found below.channels m c l exist found in grind (arith, common_steps)

-- a put below, into a label, is a put into the relabelled frame
pub put_through : (m : List ℕ) (below : Image) (p c l w : ℕ) → all_below below.channels m ≡ true → distinct m ≡ true → slice_get m c ≡ Some l
    → relabelled m (put_image below p l w) ≡ put_image (relabelled m below) p c w
put_through m below p c l w exist apart found =
    let label = label_found below.channels m c l exist found in
    same_images (relabelled m (put_image below p l w)) (put_image (relabelled m below) p c w) (grind (arith, common_steps)) (grind (arith, common_steps))
    (λ q d. let only = labels_apart m d c apart in grind (arith, common_steps))

-- and changes that label's channel below and no other
pub below_after_put : (m : List ℕ) (below : Image) (p c l w : ℕ) → all_below below.channels m ≡ true → slice_get m c ≡ Some l
    → put_image below p l w ≡ put_below m below p c w
below_after_put m below p c l w exist found = let label = label_found below.channels m c l exist found in grind (arith, common_steps)

-- the lemmas on what goes through to the frame below
pub ruleset through = (sample_through, inside_through, put_through, below_after_put)
