use Rattle.std.proofs.Common.{◌≡◌, take}
use Rattle.call.specs.Frames.{ends_put}
use Rattle.call.proofs.setup.Setup.write_ends.Given as goal

abbrev pub invariant-loop-i : goal.invariant-loop-i
invariant-loop-i g l =
    g.O.Readable.image l.output ≡ ends_put l.self.transform.rows.now (take l.i l.ends) l.first (g.O.Readable.image l.initial.output)
