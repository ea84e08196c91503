-- What a write into the memory of a frame makes of its image.
use Rattle.std.proofs.Common.{◌≡◌, ℕ, ◌+◌, ◌*◌, ◌^◌, ◌<◌, ◌≤◌, List, ◌++◌, length, get_or, set, take, drop, Some, ◌⊎◌, sym, ap, ◌∙◌, inl, inr, ⊎_elim, arith, refl}
use Rattle.std.specs.Int.{w32, to_be_bytes, from_be_bytes}
use Rattle.std.proofs.lemmas.List.{get_or-set_other, get_or-drop, get_or-take, get_or_append_left, get_or_past, length-take, length-take-le, length-append, length-drop, take_all, drop_at, drop-drop}
use Rattle.std.proofs.lemmas.Slice.{drop-put_mid}
use Rattle.std.proofs.lemmas.Grind.{get_or-set_at}
use Rattle.std.proofs.lemmas.Nat.{same_from_place, from_be_bytes-to_be_bytes_4}
use Rattle.std.proofs.lemmas.Bool.{cases_lt}
use Rattle.frame.specs.Image.{put_image}
use Rattle.frame.specs.Layout.{planes, plane_word, plane_place, packed, packed_word, packed_place, be_word, put_word}
use Rattle.frame.specs.declared.size.Size.{Size}
use Rattle.frame.proofs.Images.{one_changed, placed}

-- a word written at the place of a sample is a put
pub planes_after_put : (z : Size) (p c at w : ℕ) (ws : List ℕ) → Some at ≡ plane_place z p c → at < length ws
    → planes z (set ws at w) ≡ put_image (planes z ws) p c w
planes_after_put z p c at w ws found within =
    let n = z.pixels in
    let place = placed n z.channels p c (c * n + p) at found in
    one_changed n z.channels (plane_word ws n) (plane_word (set ws at w) n) p c w place.0 place.1
    (get_or-set_at ws at (c * n + p) w 0 (sym place.2) within)
    (λ q d hq hd ne. get_or-set_other ws at (d * n + q) w 0
    (λ e. let same = same_from_place d q c p n hq place.0 (e ∙ place.2) in ne same.1 same.0))

-- four bytes put in the place of four
abbrev four_put : List ℕ → ℕ → ℕ → List ℕ
four_put bs at w = take at bs ++ (to_be_bytes w32 w ++ drop (at + 4) bs)

-- where the four lie in the bytes, this is what a put makes of them
pub four_put_is : (bs : List ℕ) (at w : ℕ) → at + 4 ≤ length bs → four_put bs at w ≡ put_word bs at w
four_put_is bs at w within =
    let a = length-append (take at bs) (to_be_bytes w32 w ++ drop (at + 4) bs) in
    let b = length-append (to_be_bytes w32 w) (drop (at + 4) bs) in
    let c = length-take-le at bs (omega arith) in
    let d = length-drop (at + 4) bs in
    let e : length (to_be_bytes w32 w) ≡ 4 = refl in
    sym (take_all (length bs) (four_put bs at w) (omega arith))

-- the four bytes put are the word read
four_same : (bs : List ℕ) (at w : ℕ) → at + 4 ≤ length bs → w < 2 ^ 32 → be_word (four_put bs at w) at ≡ w
four_same bs at w within small =
    let front : length (take at bs) ≡ at = omega (arith, length-take-le at bs (omega arith)) in
    ap (from_be_bytes w32) (drop_at (take at bs) (to_be_bytes w32 w ++ drop (at + 4) bs) at front) ∙ from_be_bytes-to_be_bytes_4 w small

-- a word is made of its four bytes
same_word : (xs ys : List ℕ) → ((i : ℕ) → i < 4 → get_or xs i 0 ≡ get_or ys i 0) → from_be_bytes w32 xs ≡ from_be_bytes w32 ys
same_word xs ys same =
    let e0 = same 0 (omega arith) in
    let e1 = same 1 (omega arith) in
    let e2 = same 2 (omega arith) in
    let e3 = same 3 (omega arith) in
    omega arith

-- no other four bytes change
four_other : (bs : List ℕ) (at w j : ℕ) → at + 4 ≤ length bs → (j + 4 ≤ at) ⊎ (at + 4 ≤ j) → be_word (four_put bs at w) j ≡ be_word bs j
four_other bs at w j within apart = ⊎_elim
    (λ below. same_word _ _ (λ i h.
    let front : length (take at bs) ≡ at = omega (arith, length-take-le at bs (omega arith)) in
    get_or-drop j (four_put bs at w) i 0
    ∙ get_or_append_left (take at bs) (to_be_bytes w32 w ++ drop (at + 4) bs) 0 (j + i) (omega arith)
    ∙ get_or-take at bs (j + i) 0 (omega arith)
    ∙ sym (get_or-drop j bs i 0)))
    (λ above. ap (from_be_bytes w32) (ap (λ (rest : List ℕ). drop j (take at bs ++ (to_be_bytes w32 w ++ rest))) (sym (drop-drop 4 at bs)) ∙ drop-put_mid at 4 bs (to_be_bytes w32 w) j above (omega arith) refl))
    apart

-- the word written is the word read
pub word_same : (bs : List ℕ) (at w : ℕ) → at + 4 ≤ length bs → w < 2 ^ 32 → be_word (put_word bs at w) at ≡ w
word_same bs at w within small = ap (λ (ys : List ℕ). be_word ys at) (sym (four_put_is bs at w within)) ∙ four_same bs at w within small

-- past the end, the part of the bytes that is kept has the words that they have
cut_other : (bs rest : List ℕ) (at j : ℕ) → length bs < at + 4 → (j + 4 ≤ at) ⊎ (at + 4 ≤ j) → be_word (take (length bs) (take at bs ++ rest)) j ≡ be_word bs j
cut_other bs rest at j past apart = same_word _ _ (λ i h. get_or-drop j (take (length bs) (take at bs ++ rest)) i 0 ∙ cut (j + i) (⊎_elim (λ l. inl (omega arith)) (λ g. inr (omega arith)) apart) ∙ sym (get_or-drop j bs i 0))
  where
    all : List ℕ
    all = take at bs ++ rest

    beyond : (k : ℕ) → length bs ≤ k → get_or (take (length bs) all) k 0 ≡ get_or bs k 0
    beyond k le = get_or_past (take (length bs) all) k 0 (omega (arith, length-take (length bs) all)) ∙ sym (get_or_past bs k 0 le)

    front : (k : ℕ) → k < at → k < length bs → get_or (take (length bs) all) k 0 ≡ get_or bs k 0
    front k lt small =
        get_or-take (length bs) all k 0 small
        ∙ get_or_append_left (take at bs) rest 0 k (omega (arith, length-take at bs))
        ∙ get_or-take at bs k 0 lt

    cut : (k : ℕ) → (k < at) ⊎ (length bs ≤ k) → get_or (take (length bs) all) k 0 ≡ get_or bs k 0
    cut k case = ⊎_elim (λ lt. ⊎_elim (front k lt) (beyond k) (cases_lt k (length bs))) (beyond k) case

-- no other word changes
pub word_other : (bs : List ℕ) (at w j : ℕ) → (j + 4 ≤ at) ⊎ (at + 4 ≤ j) → be_word (put_word bs at w) j ≡ be_word bs j
word_other bs at w j apart = ⊎_elim
    (λ past. cut_other bs (to_be_bytes w32 w ++ drop (at + 4) bs) at j past apart)
    (λ within. ap (λ (ys : List ℕ). be_word ys j) (sym (four_put_is bs at w within)) ∙ four_other bs at w j within apart)
    (cases_lt (length bs) (at + 4))

-- four bytes written at the place of a sample are a put
pub packed_after_put : (z : Size) (p c at w : ℕ) (bs : List ℕ) → Some at ≡ packed_place z p c → at + 4 ≤ length bs → w < 2 ^ 32
    → packed z (put_word bs at w) ≡ put_image (packed z bs) p c w
packed_after_put z p c at w bs found within small =
    let k = z.channels in
    ap (packed z) (sym (four_put_is bs at w within)) ∙
    let place = placed z.pixels k p c (4 * (p * k + c)) at found in
    one_changed z.pixels k (packed_word bs k) (packed_word (four_put bs at w) k) p c w place.0 place.1
    (ap (be_word (four_put bs at w)) (sym place.2) ∙ four_same bs at w within small)
    (λ q d hq hd ne. four_other bs at w (4 * (q * k + d)) within
    (apart (q * k + d) (p * k + c) at place.2 (λ e. let same = same_from_place q d p c k hd place.1 e in ne same.0 same.1)))
  where
    apart : (j i at : ℕ) → at ≡ 4 * i → (j ≡ i → ⊥) → (4 * j + 4 ≤ at) ⊎ (at + 4 ≤ 4 * j)
    apart j i at e ne = ⊎_elim (λ l. inl (omega arith)) (λ g. let other : j ≡ i → ⊥ = ne in inr (omega arith)) (cases_lt j i)
