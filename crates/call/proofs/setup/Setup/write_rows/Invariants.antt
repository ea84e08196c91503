use Rattle.std.proofs.Common.{◌≡◌}
use Rattle.call.specs.Frames.{rows_put}
use Rattle.call.proofs.setup.Setup.write_rows.Given as goal

abbrev pub invariant-loop-i : goal.invariant-loop-i
invariant-loop-i g l =
    g.O.Readable.image l.output ≡ rows_put l.self.transform.rows.now l.registers l.pixel l.i (g.O.Readable.image l.initial.output)
