use Rattle.std.proofs.Common.{sym}
use Rattle.frame.proofs.Samples.{all_written, none_written}
use Rattle.frame.proofs.pixel.write_pixel.Goals as goal

pub returns-then-not-all_inside-clause-written : goal.returns-then-not-all_inside-clause-written
returns-then-not-all_inside-clause-written g c = none_written c.args.samples.now _ c.args.pixel (sym c.if-not-all_inside.ensures)

pub returns-clause-written : goal.returns-clause-written
returns-clause-written g c = all_written c.args.samples.now _ _ c.args.pixel c.put_samples.ensures
