-- The samples of a frame of some size lie in the memory that it was made over.
use Rattle.std.proofs.Common.{◌≡◌, ℕ, ◌+◌, ◌*◌, ◌/◌, ◌<◌, ◌≤◌, min, ◌&&◌, leb, arith}
use Rattle.std.proofs.Math.Nat.{div-mul-le_self}
use Rattle.std.proofs.lemmas.Nat.{mul-add-lt, mul-le}
use Rattle.std.proofs.lemmas.Bool.{cond_both}
use Rattle.frame.specs.Size.{channels_ok, most_pixels, fitting}
use Rattle.frame.specs.declared.size.Size.{Size}

-- no more samples than there are
fitting_fits : (samples k : ℕ) → (fitting samples k).pixels * (fitting samples k).channels ≤ samples
fitting_fits samples k =
    let n = min (samples / k) most_pixels in
    cond_both (channels_ok k && leb n most_pixels) (record { pixels = n; channels = k }) (record { pixels = 0; channels = 0 }) (λ (z : Size). z.pixels * z.channels ≤ samples)
    (λ _. let less : n ≤ samples / k = omega arith in omega (arith, mul-le n k (samples / k) k less (omega arith), div-mul-le_self samples k))
    (λ _. omega arith)

room : (z : Size) (samples : ℕ) → z ≡ fitting samples z.channels → z.pixels * z.channels ≤ samples
room z samples e = rw e (fitting_fits samples z.channels)

-- the place of a sample lies in the memory, where they lie pixel after pixel, four bytes each
pub row_place : (z : Size) (bytes p c : ℕ) → z ≡ fitting (bytes / 4) z.channels → p < z.pixels → c < z.channels → 4 * (p * z.channels + c) + 4 ≤ bytes
row_place z bytes p c e hp hc = omega (arith, mul-add-lt p z.channels c z.pixels hp hc, room z (bytes / 4) e)

-- and where they lie channel after channel, one word each
pub column_place : (z : Size) (words p c : ℕ) → z ≡ fitting words z.channels → p < z.pixels → c < z.channels → c * z.pixels + p < words
column_place z words p c e hp hc = omega (arith, mul-add-lt c z.pixels p z.channels hc hp, room z words e)
