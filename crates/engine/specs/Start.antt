-- A pixel at its start.
use Rattle.std.specs.Prelude.{ℕ, zero, suc, if◌then◌else◌, List, [], ◌∷◌, ◌++◌, slice_index, slice_index_or}
use Rattle.number.specs.Meaning.{Meaning}
use Rattle.transform.specs.Parts.{row_at, is_number, is_in, is_uniform}
use Rattle.transform.specs.declared.parts.Row.{Row}
use Rattle.engine.specs.declared.pixel.Pixel.{Pixel}
use Rattle.engine.specs.Pixels.{standing}

-- the word that is given to the register of row i: an in row has its channel's input word, a uniform its set word or else its default, any other its start word
abbrev pub given_word : List ℕ → List ℕ → Row → ℕ → ℕ
given_word uniforms inputs row i = if is_in row then slice_index inputs row.channel else if is_uniform row then slice_index_or uniforms i row.word else row.word

-- that word, admitted where the register holds a number
abbrev pub start_word : Meaning → List ℕ → List ℕ → Row → ℕ → ℕ
start_word m uniforms inputs row i = if is_number row then m.admit (given_word uniforms inputs row i) else given_word uniforms inputs row i

-- f 0 to f (n - 1)
unfoldable pub listed : (ℕ → ℕ) → ℕ → List ℕ
listed f zero = []
listed f (suc n) = listed f n ++ f n ∷ []

-- the 64 registers at the start; those that no row describes hold 0
abbrev pub start_registers : Meaning → List Row → List ℕ → List ℕ → List ℕ
start_registers m rows uniforms inputs = listed (λ i. start_word m uniforms inputs (row_at rows i) i) 64

-- the pixel at place 1 with no step taken
abbrev pub started : Meaning → List Row → ℕ → List ℕ → List ℕ → Pixel
started m rows budget uniforms inputs = standing budget (start_registers m rows uniforms inputs) 1 0
