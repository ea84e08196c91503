-- How a call is set up.
use Rattle.std.specs.Prelude.{ℕ, if◌then◌else◌, ◌&&◌, List, map, is_ok, Ok, Err, Result, nat_lt, slice_set}
use Rattle.std.specs.List.{range_with_len}
use Rattle.number.specs.Meaning.{Meaning}
use Rattle.transform.specs.Parts.{row_at, most_rows, is_flag, is_uniform}
use Rattle.transform.specs.declared.parts.Row.{Row}
use Rattle.engine.specs.Runs.{Setting, setting_of}
use Rattle.call.specs.declared.setup.Setup.{Setup}
use Rattle.call.specs.declared.refusal.SetRefusal.{SetRefusal}
use Rattle.call.specs.declared.refusal.SetRefusal.TheVariants.{NoUniform, FlagWord}

-- the word of each row, which a uniform has until it is set
abbrev pub defaults : List Row → List ℕ
defaults rows = map (λ i. (row_at rows i).word) (range_with_len 0 most_rows)

-- what set answers: the row is a uniform, and a flag's word is 0 or 1
abbrev pub set_answer : List Row → ℕ → ℕ → Result (Unit {0}) SetRefusal
set_answer rows i w =
    if is_uniform (row_at rows i)
    then (if is_flag (row_at rows i) && nat_lt 1 w then Err FlagWord else Ok tt)
    else Err NoUniform

-- the call with another word for the uniform in row i
abbrev pub with_uniform_word : Setup → ℕ → ℕ → Setup
with_uniform_word s i w = record { transform = s.transform; budget = s.budget; uniforms = slice_set s.uniforms i w }

-- the call after set: refused, it is as before
abbrev pub after_set : Setup → ℕ → ℕ → Setup
after_set s i w = if is_ok (set_answer s.transform.rows.now i w) then with_uniform_word s i w else s

-- what decides a pixel besides its input words, with a number kind
abbrev pub setting_with : Meaning → Setup → Setting
setting_with m s = setting_of m s.transform s.budget s.uniforms
