use Rattle.r10_judge.proofs.Next.{next_packet}
use Rattle.r10_judge.proofs.laws.next_packet.Goals as goal

pub returns : goal.returns
returns c = λ packets all rest strict whole same some. let next = next_packet packets all rest strict whole same some in (next.packet, next.more, next.may, next.rest_is)
