use Rattle.std.proofs.Common.{◌≡◌, take}
use Rattle.frame.specs.Pixel.{put_samples}
use Rattle.frame.proofs.pixel.put_samples.Given as goal

abbrev pub invariant-loop-sample : goal.invariant-loop-sample
invariant-loop-sample g l =
    g.F.Readable.image l.frame ≡ put_samples (g.F.Readable.image l.initial.frame) l.pixel (take l.sample-index l.samples)
