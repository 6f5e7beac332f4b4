use Rattle.std.proofs.Common.{refl}
use Rattle.r10_packet_rules.proofs.TrackSoFar.{stands_faulty}
use Rattle.r10_packet_rules.proofs.file.ForeignTrack.take.Goals as goal

pub returns-in-Err-clause-faulty : goal.returns-in-Err-clause-faulty
returns-in-Err-clause-faulty c = λ before so_far some.
    stands_faulty c.args.self.now before c.args.bytes.now c.args.self.now.offset c.in-Err.fault refl c.in-Err.ensures.fault so_far some

pub returns-clause-taken : goal.returns-clause-taken
returns-clause-taken c = λ before so_far. c.add.ensures before c.args.bytes.now so_far c.in-Ok.ensures.found
