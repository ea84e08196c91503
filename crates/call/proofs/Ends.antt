-- The ends of runs, one by one: their marks and what is written of them.
use Rattle.std.proofs.Common.{◌≡◌, ℕ, ◌+◌, ◌<◌, List, [], ◌∷◌, ◌++◌, length, get_or, take, sym, ap, ◌∙◌, arith}
use Rattle.std.proofs.lemmas.List.{take_more, length-take-le}
use Rattle.frame.specs.Image.{Image}
use Rattle.transform.specs.declared.parts.Row.{Row}
use Rattle.engine.specs.declared.pixel.Pixel.{Pixel}
use Rattle.call.specs.Frames.{end_put, ends_put}

-- one end more is written after the others
ends_push : (rows : List Row) (xs : List Pixel) (x : Pixel) (p : ℕ) (m : Image) → ends_put rows (xs ++ x ∷ []) p m ≡ end_put rows x (p + length xs) (ends_put rows xs p m)
ends_push rows [] x p m = let e : p ≡ p + 0 = omega arith in ap (λ q. end_put rows x q m) e
ends_push rows (y ∷ xs) x p m =
    let e : p + 1 + length xs ≡ p + length (y ∷ xs) = omega arith in
    ends_push rows xs x (p + 1) (end_put rows y p m) ∙ ap (λ q. end_put rows x q (ends_put rows xs (p + 1) (end_put rows y p m))) e

-- one pixel more of a batch is written
pub ends_more : (rows : List Row) (xs : List Pixel) (i p : ℕ) (d : Pixel) (before now after : Image) → i < length xs → now ≡ ends_put rows (take i xs) p before → after ≡ end_put rows (get_or xs i d) (p + i) now
    → after ≡ ends_put rows (take (i + 1) xs) p before
ends_more rows xs i p d before now after l h e =
    let long : length (take i xs) ≡ i = length-take-le i xs (omega arith) in
    e ∙ ap (end_put rows (get_or xs i d) (p + i)) h
    ∙ ap (λ n. end_put rows (get_or xs i d) (p + n) (ends_put rows (take i xs) p before)) (sym long)
    ∙ sym (ends_push rows (take i xs) (get_or xs i d) p before)
    ∙ ap (λ ys. ends_put rows ys p before) (sym (take_more xs i d l))
