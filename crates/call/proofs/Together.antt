-- What pixels that run together leave, where all of them fit into a batch.
use Rattle.std.proofs.Common.{◌≡◌, ℕ, ◌*◌, ◌≤◌, List, map, length, take, drop, ap, ◌∙◌, mul-le-mul_left, arith}
use Rattle.std.proofs.lemmas.List.{take_all, take-append-le, length-map}
use Rattle.std.proofs.lemmas.List.FromFn.{length-map-range_with_len}
use Rattle.frame.specs.Image.{Image}
use Rattle.schedule.specs.Rounds.{rounds, total}
use Rattle.schedule.proofs.Rounds.{rounds_in-le}
use Rattle.engine.specs.declared.pixel.Pixel.{Pixel}
use Rattle.engine.specs.Runs.{Setting, machine, start_of, lone_run}
use Rattle.engine.specs.Batches.{ran_together, rounds_of}
use Rattle.engine.proofs.Batches.{total_left}
use Rattle.call.specs.Frames.{input_words}
use Rattle.call.specs.Events.{batch_words, batch_ends, batch_rounds}

-- as many ends as pixels
pub ends_long : (s : Setting) (inn : Image) (first n : ℕ) → length (batch_ends s inn first n) ≡ n
ends_long s inn first n = length-map (batch_words inn first n) (lone_run s) ∙ length-map-range_with_len (input_words inn) first n

-- the words given are those of the n pixels from first on
module _ (s : Setting) (inn : Image) (first n : ℕ) (few : n ≤ 64) (words : List (List ℕ)) (given : words ≡ batch_words inn first n) where
  long : length (batch_words inn first n) ≡ n
  long = length-map-range_with_len (input_words inn) first n

  all_count : take 64 words ≡ batch_words inn first n
  all_count = let e = long in ap (take 64) given ∙ take_all 64 (batch_words inn first n) (omega arith)

  ends_are : map (lone_run s) (take 64 words) ≡ batch_ends s inn first n
  ends_are = ap (map (lone_run s)) all_count

  long_ends : length (map (lone_run s) (take 64 words)) ≡ n
  long_ends = ap length ends_are ∙ ends_long s inn first n

  -- the first pixels are the ends of the runs by themselves
  pub together_ends : (before pixels : List Pixel) → pixels ≡ ran_together s words before → take n pixels ≡ batch_ends s inn first n
  together_ends before pixels h =
      let ends = map (lone_run s) (take 64 words) in
      let e = long_ends in
      ap (take n) h ∙ take-append-le n ends (drop (length words) before) (omega arith) ∙ take_all n ends (omega arith) ∙ ends_are

  -- the rounds are those of the batch
  pub together_rounds : rounds_of s words ≡ batch_rounds s inn first n
  together_rounds = ap (λ ws. rounds (machine s) (map (start_of s) ws)) all_count

  -- there are no more rounds than pixels times the largest budget
  pub together_few : s.budget ≤ 65535 → batch_rounds s inn first n ≤ 65535 * n
  together_few most =
      let starts = map (start_of s) (batch_words inn first n) in
      let a = rounds_in-le (machine s) (total (machine s).left starts) starts in
      let b = total_left s starts in
      let c : length starts ≡ n = length-map (batch_words inn first n) (start_of s) ∙ long in
      let d : n * s.budget ≤ n * 65535 = mul-le-mul_left n most in
      let e : length starts * s.budget ≡ n * s.budget = ap (λ k. k * s.budget) c in
      omega arith
