use Rattle.std.proofs.Common.{rules, refl}
use Rattle.r10_packet_rules.proofs.TrackSoFar.{stands_more}
use Rattle.r10_packet_rules.proofs.file.ForeignTrack.add.Goals as goal

pub returns : goal.returns
returns c = λ before bytes so_far first. stands_more c.args.self.now _ before bytes c.args.packet.now first refl (search rules) so_far
