-- What a batch leaves in the out image, said of each word.
use Rattle.std.proofs.Common.{◌≡◌, ℕ, zero, suc, ◌+◌, ◌<◌, ◌≤◌, true, cond, ◌&&◌, eqb, List, [], ◌∷◌, length, get_or, sym, refl, ap, ◌∙◌, subst, ⊎_elim, arith}
use Rattle.std.proofs.lemmas.Bool.{cond-true, cond-false, cond_both, cases_Bool, cases_eq, eq-eqb, ne_eqb}
use Rattle.frame.specs.Image.{Image, put_image}
use Rattle.frame.proofs.Images.{put_pixels, put_channels, put_here, put_rest}
use Rattle.transform.specs.Parts.{row_at, is_out}
use Rattle.transform.specs.declared.parts.Row.{Row}
use Rattle.engine.specs.Batches.{resting}
use Rattle.engine.specs.declared.pixel.Pixel.{Pixel}
use Rattle.call.specs.Frames.{row_put, rows_put, is_done, end_put, ends_put}

-- images of one size
pub record SameSize (after before : Image) : Type 0 where
  pub same_pixels : after.pixels ≡ before.pixels
  pub same_channels : after.channels ≡ before.channels

row_size : (p : ℕ) (row : Row) (w : ℕ) (m : Image) → SameSize (row_put p row w m) m
row_size p row w m =
    cond_both (is_out row) (put_image m p row.channel w) m (λ i. SameSize i m)
    (λ _. record { same_pixels = put_pixels m p row.channel w; same_channels = put_channels m p row.channel w })
    (λ _. record { same_pixels = refl; same_channels = refl })

rows_size : (rows : List Row) (registers : List ℕ) (p n : ℕ) (m : Image) → SameSize (rows_put rows registers p n m) m
rows_size rows registers p zero m = record { same_pixels = refl; same_channels = refl }
rows_size rows registers p (suc n) m =
    let a = row_size p (row_at rows n) (get_or registers n 0) (rows_put rows registers p n m) in
    let b = rows_size rows registers p n m in
    record { same_pixels = a.same_pixels ∙ b.same_pixels; same_channels = a.same_channels ∙ b.same_channels }

end_size : (rows : List Row) (end : Pixel) (p : ℕ) (m : Image) → SameSize (end_put rows end p m) m
end_size rows end p m =
    cond_both (is_done end.ending) (rows_put rows end.registers p (length rows) m) m (λ i. SameSize i m)
    (λ _. rows_size rows end.registers p (length rows) m)
    (λ _. record { same_pixels = refl; same_channels = refl })

-- a batch keeps the size of the image
pub ends_size : (rows : List Row) (ends : List Pixel) (p : ℕ) (m : Image) → SameSize (ends_put rows ends p m) m
ends_size rows [] p m = record { same_pixels = refl; same_channels = refl }
ends_size rows (end ∷ ends) p m =
    let a = ends_size rows ends (p + 1) (end_put rows end p m) in
    let b = end_size rows end p m in
    record { same_pixels = a.same_pixels ∙ b.same_pixels; same_channels = a.same_channels ∙ b.same_channels }

row_elsewhere : (p : ℕ) (row : Row) (w : ℕ) (m : Image) (q d : ℕ) → (q ≡ p → ⊥) → (row_put p row w m).word q d ≡ m.word q d
row_elsewhere p row w m q d ne =
    cond_both (is_out row) (put_image m p row.channel w) m (λ i. i.word q d ≡ m.word q d) (λ _. put_rest m p row.channel w q d (λ e _. ne e)) (λ _. refl)

rows_elsewhere : (rows : List Row) (registers : List ℕ) (p n : ℕ) (m : Image) (q d : ℕ) → (q ≡ p → ⊥) → (rows_put rows registers p n m).word q d ≡ m.word q d
rows_elsewhere rows registers p zero m q d ne = refl
rows_elsewhere rows registers p (suc n) m q d ne =
    row_elsewhere p (row_at rows n) (get_or registers n 0) (rows_put rows registers p n m) q d ne ∙ rows_elsewhere rows registers p n m q d ne

-- the end of a run changes no other pixel
pub end_elsewhere : (rows : List Row) (end : Pixel) (p : ℕ) (m : Image) (q d : ℕ) → (q ≡ p → ⊥) → (end_put rows end p m).word q d ≡ m.word q d
end_elsewhere rows end p m q d ne =
    cond_both (is_done end.ending) (rows_put rows end.registers p (length rows) m) m (λ i. i.word q d ≡ m.word q d)
    (λ _. rows_elsewhere rows end.registers p (length rows) m q d ne)
    (λ _. refl)

-- a batch changes no pixel before its first
pub ends_before : (rows : List Row) (ends : List Pixel) (p : ℕ) (m : Image) (q d : ℕ) → q < p → (ends_put rows ends p m).word q d ≡ m.word q d
ends_before rows [] p m q d l = refl
ends_before rows (end ∷ ends) p m q d l =
    ends_before rows ends (p + 1) (end_put rows end p m) q d (omega arith) ∙ end_elsewhere rows end p m q d (λ e. absurd (omega arith))

-- nor one after its last
pub ends_after : (rows : List Row) (ends : List Pixel) (p : ℕ) (m : Image) (q d : ℕ) → p + length ends ≤ q → (ends_put rows ends p m).word q d ≡ m.word q d
ends_after rows [] p m q d l = refl
ends_after rows (end ∷ ends) p m q d l =
    ends_after rows ends (p + 1) (end_put rows end p m) q d (omega arith) ∙ end_elsewhere rows end p m q d (λ e. absurd (omega arith))

-- The word on channel d of a pixel whose run ended with these registers, where it was w before: the first n rows are written in their order.
abbrev pub out_word : List Row → List ℕ → ℕ → ℕ → ℕ → ℕ
out_word rows registers d w zero = w
out_word rows registers d w (suc n) = cond (is_out (row_at rows n) && eqb (row_at rows n).channel d) (get_or registers n 0) (out_word rows registers d w n)

-- the word that the end of a run leaves on channel d, where it was w before
abbrev pub end_word : List Row → Pixel → ℕ → ℕ → ℕ
end_word rows end d w = cond (is_done end.ending) (out_word rows end.registers d w (length rows)) w

-- the first n rows name no out channel that is not in the image
abbrev pub OutsInside : List Row → ℕ → ℕ → Type 0
OutsInside rows channels n = (i : ℕ) → i < n → is_out (row_at rows i) ≡ true → (row_at rows i).channel < channels

-- an out row's word is on its channel, and on no other
row_here : (p : ℕ) (row : Row) (w : ℕ) (m : Image) (d : ℕ) → p < m.pixels → (is_out row ≡ true → row.channel < m.channels) → (row_put p row w m).word p d ≡ cond (is_out row && eqb row.channel d) w (m.word p d)
row_here p row w m d lp lc = ⊎_elim
    (λ out.
    ap (λ i. i.word p d) (cond-true _ (put_image m p row.channel w) m out)
    ∙ ⊎_elim
    (λ e. subst (λ k. (put_image m p row.channel w).word p k ≡ w) e (put_here m p row.channel w lp (lc out)) ∙ sym (cond-true _ _ _ (ap (λ b. b && eqb row.channel d) out ∙ eq-eqb row.channel d e)))
    (λ ne. put_rest m p row.channel w p d (λ _ e. ne (sym e)) ∙ sym (cond-false _ _ _ (ap (λ b. b && eqb row.channel d) out ∙ ne_eqb row.channel d ne)))
    (cases_eq row.channel d))
    (λ no. ap (λ i. i.word p d) (cond-false _ (put_image m p row.channel w) m no) ∙ sym (cond-false _ _ _ (ap (λ b. b && eqb row.channel d) no)))
    (cases_Bool (is_out row))

rows_here : (rows : List Row) (registers : List ℕ) (p n : ℕ) (m : Image) (d : ℕ) → p < m.pixels → OutsInside rows m.channels n → (rows_put rows registers p n m).word p d ≡ out_word rows registers d (m.word p d) n
rows_here rows registers p zero m d lp inside = refl
rows_here rows registers p (suc n) m d lp inside =
    let size = rows_size rows registers p n m in
    let lp' : p < (rows_put rows registers p n m).pixels = omega (arith, size.same_pixels) in
    row_here p (row_at rows n) (get_or registers n 0) (rows_put rows registers p n m) d lp'
    (λ out. let l = inside n (omega arith) out in omega (arith, size.same_channels))
    ∙ ap (λ w. cond (is_out (row_at rows n) && eqb (row_at rows n).channel d) (get_or registers n 0) w) (rows_here rows registers p n m d lp (λ i l out. inside i (omega arith) out))

-- the end of a run leaves its out words in its pixel
pub end_here : (rows : List Row) (end : Pixel) (p : ℕ) (m : Image) (d : ℕ) → p < m.pixels → OutsInside rows m.channels (length rows) → (end_put rows end p m).word p d ≡ end_word rows end d (m.word p d)
end_here rows end p m d lp inside = ⊎_elim
    (λ t. ap (λ i. i.word p d) (cond-true _ (rows_put rows end.registers p (length rows) m) m t) ∙ rows_here rows end.registers p (length rows) m d lp inside ∙ sym (cond-true _ _ _ t))
    (λ f. ap (λ i. i.word p d) (cond-false _ (rows_put rows end.registers p (length rows) m) m f) ∙ sym (cond-false _ _ _ f))
    (cases_Bool (is_done end.ending))

-- so does each of a batch, whatever the others
pub ends_here : (rows : List Row) (ends : List Pixel) (p : ℕ) (m : Image) (i d : ℕ) → i < length ends → p + length ends ≤ m.pixels → OutsInside rows m.channels (length rows)
    → (ends_put rows ends p m).word (p + i) d ≡ end_word rows (get_or ends i resting) d (m.word (p + i) d)
ends_here rows [] p m i d l room inside = absurd (omega arith)
ends_here rows (end ∷ ends) p m zero d l room inside =
    let e : p + 0 ≡ p = omega arith in
    subst (λ q. (ends_put rows (end ∷ ends) p m).word q d ≡ end_word rows end d (m.word q d)) (sym e)
    (ends_before rows ends (p + 1) (end_put rows end p m) p d (omega arith) ∙ end_here rows end p m d (omega arith) inside)
ends_here rows (end ∷ ends) p m (suc i) d l room inside =
    let size = end_size rows end p m in
    let e : p + 1 + i ≡ p + suc i = omega arith in
    let room' : p + 1 + length ends ≤ (end_put rows end p m).pixels = omega (arith, size.same_pixels) in
    let inside' : OutsInside rows (end_put rows end p m).channels (length rows) = λ j lj out. let k = inside j lj out in omega (arith, size.same_channels) in
    subst (λ q. (ends_put rows (end ∷ ends) p m).word q d ≡ end_word rows (get_or ends i resting) d (m.word q d)) e
    (ends_here rows ends (p + 1) (end_put rows end p m) i d (omega arith) room' inside'
    ∙ ap (end_word rows (get_or ends i resting) d) (end_elsewhere rows end p m (p + 1 + i) d (λ x. absurd (omega arith))))
