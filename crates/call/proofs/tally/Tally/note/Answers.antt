use Rattle.std.proofs.Common.{arith}
use Rattle.call.proofs.Counts.{tallied}
use Rattle.call.proofs.tally.Tally.note.Goals as goal

pub add-requires : goal.add-requires
add-requires c =
    let k = c.count_endings.ensures in
    record {
      served = omega (arith, k.served, c.requires.room);
      rounds = omega (arith, k.rounds, c.requires.sound.0, c.requires.sound.2, c.ranges.rounds);
    }

pub returns : goal.returns
returns c =
    let both = tallied c.args.self.now c.count_endings.new.self c.add.new.self c.args.marks.now c.args.rounds c.requires.sound c.count_endings.ensures c.add.ensures c.requires.room c.requires.few in
    record { tallied = both.0; sound = both.1 }
