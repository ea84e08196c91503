-- Lists that are filled from their front.
use Rattle.std.proofs.Common.{◌≡◌, ℕ, ◌+◌, ◌<◌, List, [], ◌∷◌, ◌++◌, map, length, get_or, take, set, sym, refl, ap, ◌∙◌, add-one}
use Rattle.std.proofs.lemmas.List.{take_more, take_more_set, map_push}
use Rattle.engine.specs.Start.{listed}

-- nothing is listed at first
pub listed-none : (f : ℕ → ℕ) → [] ≡ listed f 0
unfolding listed
listed-none f = refl

-- one place more
pub listed_more : (f : ℕ → ℕ) (xs : List ℕ) (i y : ℕ) → i < length xs → y ≡ f i → take i xs ≡ listed f i → take (i + 1) (set xs i y) ≡ listed f (i + 1)
unfolding listed
listed_more f xs i y l e h = take_more_set xs i y l ∙ ap (λ z. take i xs ++ z ∷ []) e ∙ ap (λ zs. zs ++ f i ∷ []) h ∙ rw add-one refl

-- one place more of a list that is filled from another
pub filled_more : {X Y : Type 0} (f : X → Y) (xs : List X) (ys : List Y) (i : ℕ) (d : X) (y : Y) → i < length xs → i < length ys → y ≡ f (get_or xs i d) → take i ys ≡ map f (take i xs) → take (i + 1) (set ys i y) ≡ map f (take (i + 1) xs)
filled_more f xs ys i d y h k e inv =
    take_more_set ys i y k ∙ (λ j. inv j ++ e j ∷ []) ∙ sym (ap (map f) (take_more xs i d h) ∙ map_push f (take i xs) (get_or xs i d))
