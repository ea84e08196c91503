-- A pixel's run depends on its input words on the channels of in rows, and on no others.
use Rattle.std.proofs.Common.{◌≡◌, ℕ, zero, suc, true, cond, List, [], ◌∷◌, ◌++◌, get_or, sym, refl, ap, ◌∙◌, ⊎_elim, arith}
use Rattle.std.proofs.lemmas.List.FromFn.{get_or-map-range_with_len}
use Rattle.std.proofs.lemmas.List.{get_or_past}
use Rattle.std.proofs.lemmas.Bool.{cases_Bool, cases_lt, cond-true, cond-false}
use Rattle.frame.specs.Image.{Image}
use Rattle.schedule.specs.Machine.{lone}
use Rattle.transform.specs.Parts.{row_at, is_in, is_number}
use Rattle.transform.specs.declared.parts.Row.{Row}
use Rattle.engine.specs.Pixels.{standing}
use Rattle.engine.specs.Start.{given_word, start_word, listed}
use Rattle.engine.specs.Runs.{Setting, machine, lone_run}
use Rattle.call.specs.Frames.{input_word, input_words}

-- the words are the same on the channels of in rows
abbrev pub SameInputs : List Row → List ℕ → List ℕ → Type 0
SameInputs rows xs ys = (i : ℕ) → is_in (row_at rows i) ≡ true → get_or xs (row_at rows i).channel 0 ≡ get_or ys (row_at rows i).channel 0

same_given : (uniforms xs ys : List ℕ) (row : Row) (i : ℕ) → (is_in row ≡ true → get_or xs row.channel 0 ≡ get_or ys row.channel 0) → given_word uniforms xs row i ≡ given_word uniforms ys row i
same_given uniforms xs ys row i h = ⊎_elim
    (λ t. cond-true _ _ _ t ∙ h t ∙ sym (cond-true _ _ _ t))
    (λ f. cond-false _ _ _ f ∙ sym (cond-false _ _ _ f))
    (cases_Bool (is_in row))

same_listed : (f g : ℕ → ℕ) (n : ℕ) → ((i : ℕ) → f i ≡ g i) → listed f n ≡ listed g n
unfolding listed
same_listed f g zero h = refl
same_listed f g (suc n) h = ap (λ xs. xs ++ f n ∷ []) (same_listed f g n h) ∙ ap (λ x. listed g n ++ x ∷ []) (h n)

-- so the runs are the same
pub same_runs : (s : Setting) (xs ys : List ℕ) → SameInputs s.rows xs ys → lone_run s xs ≡ lone_run s ys
same_runs s xs ys h =
    ap (λ registers. lone (machine s) (standing s.budget registers 1 0))
    (same_listed
    (λ i. start_word s.meaning s.uniforms xs (row_at s.rows i) i)
    (λ i. start_word s.meaning s.uniforms ys (row_at s.rows i) i)
    64
    (λ i. ap (λ w. cond (is_number (row_at s.rows i)) (s.meaning.admit w) w) (same_given s.uniforms xs ys (row_at s.rows i) i (h i))))

-- the word of a pixel on a channel, among its input words
input_at : (m n : Image) (p q c : ℕ) → input_word m p c ≡ input_word n q c → get_or (input_words m p) c 0 ≡ get_or (input_words n q) c 0
input_at m n p q c e = ⊎_elim
    (λ l. get_or-map-range_with_len (input_word m p) 0 8 c c 0 l (omega arith) ∙ e ∙ sym (get_or-map-range_with_len (input_word n q) 0 8 c c 0 l (omega arith)))
    (λ l. get_or_past (input_words m p) c 0 l ∙ sym (get_or_past (input_words n q) c 0 l))
    (cases_lt c 8)

-- pixels with the same words on the channels of in rows have the same run, in whatever images and places
pub same_pixels : (s : Setting) (m n : Image) (p q : ℕ) → ((i : ℕ) → is_in (row_at s.rows i) ≡ true → input_word m p (row_at s.rows i).channel ≡ input_word n q (row_at s.rows i).channel)
    → lone_run s (input_words m p) ≡ lone_run s (input_words n q)
same_pixels s m n p q h = same_runs s (input_words m p) (input_words n q) (λ i t. input_at m n p q (row_at s.rows i).channel (h i t))
