use Rattle.std.proofs.Common.{◌≡◌, map, take}
use Rattle.std.specs.List.{range_with_len}
use Rattle.call.specs.Frames.{input_words}
use Rattle.call.proofs.inputs.fill_words.Given as goal

abbrev pub invariant-loop-i : goal.invariant-loop-i
invariant-loop-i g l = take l.i l.entries ≡ map (input_words (g.I.Readable.image l.input)) (range_with_len l.first l.i)
