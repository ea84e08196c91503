-- What a put makes of an image.
use Rattle.std.proofs.Common.{◌≡◌, ℕ, ◌<◌, ◌&&◌, cond, ltb, Some, None, ap, ◌∙◌, arith}
use mathlib.Core.Path.{fun_ext}
use Rattle.std.proofs.lemmas.Grind.{common_steps}
use Rattle.frame.specs.Image.{Image, put_image, image_of}

-- two images are one where they have the same counts and the same words
pub same_images : (m n : Image) → m.pixels ≡ n.pixels → m.channels ≡ n.channels → ((p c : ℕ) → m.word p c ≡ n.word p c) → m ≡ n
same_images m n same_pixels same_channels same =
    let made : ℕ → ℕ → (ℕ → ℕ → ℕ) → Image = λ x k f. record { pixels = x; channels = k; word = f } in
    ap (λ (x : ℕ). made x m.channels m.word) same_pixels
    ∙ ap (λ (k : ℕ). made n.pixels k m.word) same_channels
    ∙ ap (λ (f : ℕ → ℕ → ℕ). made n.pixels n.channels f) (fun_ext (λ p. fun_ext (λ c. same p c)))

-- a place that was found is the place of a sample
pub placed : (n k p c x at : ℕ) → Some at ≡ cond (ltb p n && ltb c k) (Some x) None → (p < n) × (c < k) × (at ≡ x)
placed n k p c x at found = (grind (arith, common_steps), grind (arith, common_steps), grind (arith, common_steps))

-- one sample changes, and no other
pub one_changed : (n k : ℕ) (f g : ℕ → ℕ → ℕ) (p c w : ℕ) → p < n → c < k → g p c ≡ w
    → ((q d : ℕ) → q < n → d < k → (q ≡ p → d ≡ c → ⊥) → g q d ≡ f q d)
    → image_of n k g ≡ put_image (image_of n k f) p c w
one_changed n k f g p c w hp hc here rest =
    same_images (image_of n k g) (put_image (image_of n k f) p c w) (grind (arith, common_steps)) (grind (arith, common_steps))
    (λ q d. let rest_here = rest q d in grind (arith, common_steps))

-- a put keeps the counts
pub put_pixels : (m : Image) (p c w : ℕ) → (put_image m p c w).pixels ≡ m.pixels
put_pixels m p c w = grind (arith, common_steps)

pub put_channels : (m : Image) (p c w : ℕ) → (put_image m p c w).channels ≡ m.channels
put_channels m p c w = grind (arith, common_steps)

-- what a put leaves, said of each word
pub put_here : (m : Image) (p c w : ℕ) → p < m.pixels → c < m.channels → (put_image m p c w).word p c ≡ w
put_here m p c w hp hc = grind (arith, common_steps)

pub put_rest : (m : Image) (p c w q d : ℕ) → (q ≡ p → d ≡ c → ⊥) → (put_image m p c w).word q d ≡ m.word q d
put_rest m p c w q d other = grind (arith, common_steps)
