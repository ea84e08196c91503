use Rattle.std.proofs.Common.{length}
use Rattle.frame.proofs.labels.+no_repeats.Given as goal

abbrev pub decreases-no_repeats : goal.decreases-no_repeats
decreases-no_repeats l = length l.labels.now
