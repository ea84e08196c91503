-- The numbers by which refusals are reported.
use Rattle.std.specs.Prelude.{ℕ, List, codes}
use Rattle.call.specs.declared.refusal.SetRefusal.{SetRefusal}
use Rattle.call.specs.declared.refusal.SetRefusal.TheVariants.{NoUniform, FlagWord}
use Rattle.call.specs.declared.refusal.RunRefusal.{RunRefusal}
use Rattle.call.specs.declared.refusal.RunRefusal.TheVariants.{Count, PixelCounts, PastEnd, Channel, Marks, Served}

-- the refusals of set
abbrev pub set_number : SetRefusal → ℕ
set_number NoUniform = 15
set_number FlagWord = 16

-- the refusals of run
abbrev pub run_number : RunRefusal → ℕ
run_number Count = 17
run_number PixelCounts = 18
run_number PastEnd = 19
run_number Channel = 20
run_number Marks = 21
run_number Served = 22

-- what a refusal of set says
abbrev pub set_text : SetRefusal → List ℕ
set_text NoUniform = codes "the row does not exist or is not a uniform"
set_text FlagWord = codes "the uniform is a flag and the word is above 1"

-- what a refusal of run says
abbrev pub run_text : RunRefusal → List ℕ
run_text Count = codes "count is 0 or above 64"
run_text PixelCounts = codes "the pixel counts of the two frames differ"
run_text PastEnd = codes "the batch passes the last pixel"
run_text Channel = codes "the channel of an in row is not in the in frame, or that of an out row not in the out frame"
run_text Marks = codes "the list of marks does not have exactly count marks"
run_text Served = codes "the call would pass 16,777,216 served pixels, repeats counted"
