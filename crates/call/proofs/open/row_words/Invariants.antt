use Rattle.std.proofs.Common.{◌≡◌, map, length, take}
use Rattle.std.specs.List.{range_with_len}
use Rattle.transform.specs.Parts.{row_at}
use Rattle.call.proofs.open.row_words.Given as goal

abbrev pub invariant-loop-i : goal.invariant-loop-i
invariant-loop-i l =
    (length l.word-items ≡ 64) ×
    (take l.i l.word-items ≡ map (λ i. (row_at l.transform.rows.now i).word) (range_with_len 0 l.i))
