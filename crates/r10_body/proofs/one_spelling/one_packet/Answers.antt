use Rattle.std.proofs.Common.{ap}
use Rattle.r10_body.specs.Packets.{packet_bytes}
use Rattle.r10_body.proofs.Injective as injective_laws
use Rattle.r10_body.proofs.Lists.{same_behind}
use Rattle.r10_body.proofs.one_spelling.one_packet.Goals as goal

pub returns-clause-but_for_the_number : goal.returns-clause-but_for_the_number
returns-clause-but_for_the_number c = λ p q x y fp fq same.
    let one = injective_laws.one_packet p q x y fp fq same in
    (one.0, one.1, same_behind (packet_bytes p) (packet_bytes q) x y (injective_laws.same_bytes p q one.0 one.1) same)

pub returns-clause-untold : goal.returns-clause-untold
returns-clause-untold c = λ p q x y fp fq a b same.
    let one = injective_laws.one_plain p q x y fp fq a b same in
    (one, same_behind (packet_bytes p) (packet_bytes q) x y (ap packet_bytes one) same)
