use Rattle.std.proofs.Common.{arith}
use Rattle.call.proofs.Ends.{ends_more}
use Rattle.call.proofs.setup.Setup.write_ends.Goals as goal

pub loop-i-preserved : goal.loop-i-preserved
loop-i-preserved g c =
    ends_more c.args.self.now.transform.rows.now c.args.ends.now c.loop-i.i c.args.first _ _ (g.O.Readable.image c.loop-i.output) _
    (omega arith) c.loop-i.invariant c.write_end.ensures
