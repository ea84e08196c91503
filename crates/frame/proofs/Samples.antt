-- What writing several samples leaves, said of each word.
use Rattle.std.proofs.Common.{◌≡◌, ℕ, Bool, false, ◌&&◌, List, [], ◌∷◌, ltb, arith, sym, refl, ap, ◌∙◌, subst}
use Rattle.std.proofs.lemmas.List.Elements.{All-nil, All-cons}
use Rattle.std.proofs.lemmas.Bool.{both_ways}
use Rattle.std.specs.List.{list_all}
use Rattle.std.proofs.lemmas.Grind.{common_steps}
use Rattle.frame.specs.Image.{Image, put_image}
use Rattle.frame.specs.Pixel.{all_inside, put_samples, Written}
use Rattle.frame.specs.declared.pixel.Sample.{Sample}
use Rattle.frame.proofs.Images.{put_pixels, put_channels, put_rest}

-- a put keeps the counts, so it keeps what lies inside
all_inside_kept : (ss : List Sample) (m : Image) (p c w q : ℕ) → all_inside (put_image m p c w) q ss ≡ all_inside m q ss
all_inside_kept ss m p c w q =
    let inside_at : ℕ → ℕ → Bool = λ n k. list_all (λ (s : Sample). ltb q n && ltb s.channel k) ss in
    ap (λ (n : ℕ). inside_at n (put_image m p c w).channels) (put_pixels m p c w) ∙ ap (inside_at m.pixels) (put_channels m p c w)

-- the samples are written one after another, and nothing else changes
samples_written : (ss : List Sample) (m : Image) (p : ℕ) → Written m p ss (put_samples m p ss)
samples_written [] m p = record {
  same_pixels = refl;
  same_channels = refl;
  elsewhere = λ q d ne. refl;
  others = λ d h. refl;
  holds = λ i h. All-nil (λ (s : Sample). m.word p s.channel ≡ s.word);
}
samples_written (s ∷ ss) m p =
    let next = put_image m p s.channel s.word in
    let rest = samples_written ss next p in
    record {
      same_pixels = rest.same_pixels ∙ put_pixels m p s.channel s.word;
      same_channels = rest.same_channels ∙ put_channels m p s.channel s.word;
      elsewhere = λ q d other. rest.elsewhere q d other ∙ put_rest m p s.channel s.word q d (λ e _. other e);
      others = λ d unnamed. let kept = rest.others d in grind (arith, common_steps);
      holds = λ i h.
          All-cons (λ (t : Sample). (put_samples next p ss).word p t.channel ≡ t.word) s ss
          (let kept = rest.others s.channel in grind (arith, common_steps))
          (rest.holds (all_inside_kept ss m p s.channel s.word p ∙ (grind (arith, common_steps))) (grind (arith, common_steps)));
    }

-- samples that all lie inside are written
pub all_written : (ss : List Sample) (m after : Image) (p : ℕ) → after ≡ put_samples m p ss → Written m p ss after
all_written ss m after p put = subst (λ (i : Image). Written m p ss i) (sym put) (samples_written ss m p)

-- where one lies outside, nothing changes
pub none_written : (ss : List Sample) (m : Image) (p : ℕ) → all_inside m p ss ≡ false → Written m p ss m
none_written ss m p out = record {
  same_pixels = refl;
  same_channels = refl;
  elsewhere = λ q d ne. refl;
  others = λ d h. refl;
  holds = λ i h. absurd (both_ways _ out i);
}
