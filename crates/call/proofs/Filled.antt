-- A list that is filled from its front by a function of the place.
use Rattle.std.proofs.Common.{◌≡◌, ℕ, ◌+◌, ◌<◌, ◌≤◌, List, [], ◌∷◌, ◌++◌, map, length, take, set, sym, ap, ◌∙◌}
use Rattle.std.specs.List.{range_with_len}
use Rattle.std.proofs.lemmas.List.FromFn.{map-range_with_len_more}
use Rattle.std.proofs.lemmas.List.{take_more_set, take_all}

module _ {A : Type 0} (f : ℕ → A) (a : ℕ) where
  -- one place more
  pub filled_more : (xs : List A) (i j : ℕ) (y : A) → i < length xs → a + i ≡ j → y ≡ f j → take i xs ≡ map f (range_with_len a i) → take (i + 1) (set xs i y) ≡ map f (range_with_len a (i + 1))
  filled_more xs i j y l q e h = take_more_set xs i y l ∙ ap (λ zs. zs ++ y ∷ []) h ∙ ap (λ z. map f (range_with_len a i) ++ z ∷ []) e ∙ sym (map-range_with_len_more f a i j q)

  -- all places
  pub filled_all : (xs : List A) (i n : ℕ) → length xs ≤ i → i ≡ n → take i xs ≡ map f (range_with_len a i) → xs ≡ map f (range_with_len a n)
  filled_all xs i n l e h = sym (take_all i xs l) ∙ h ∙ ap (λ k. map f (range_with_len a k)) e
