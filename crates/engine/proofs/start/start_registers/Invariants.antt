use Rattle.std.proofs.Common.{◌≡◌, length, take}
use Rattle.transform.specs.Parts.{row_at}
use Rattle.engine.specs.Start.{listed, start_word}
use Rattle.engine.proofs.start.start_registers.Given as goal

abbrev pub invariant-loop-i : goal.invariant-loop-i
invariant-loop-i g l =
    (length l.register-items ≡ 64) ×
    (take l.i l.register-items ≡ listed (λ i. start_word g.K.NumberKind.meaning l.settings.uniforms.now l.inputs (row_at l.settings.transform.rows.now i) i) l.i)
