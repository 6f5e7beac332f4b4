-- The first recording up to its root, which is missing, is no strict file.
use Rattle.std.proofs.Common.{◌≡◌, List, [], ◌∷◌, ◌++◌, take, refl, sym, subst, ◌∙◌, arith}
use Rattle.r10_packet.specs.Header.{header_bytes}
use Rattle.r10_body.proofs.Recording.{setup-first, time-second, uart-third, node-fourth}
use Rattle.r10_body.specs.Files.{IsStrict}
use Rattle.r10_body.specs.Packets.{Packet, packet_bytes, file_bytes}
use Rattle.r10_body.specs.Rules.{IsFile}
use Rattle.r10_body.specs.Vectors.{a_node_packet, data_packets, a_recording}
use Rattle.r10_body.proofs.Injective.{one_file}

abbrev with_node : List Packet
with_node = data_packets ++ a_node_packet ∷ []

cut : take 212 (file_bytes a_recording) ≡ file_bytes with_node
unfolding packet_bytes header_bytes
cut = refl

pub without-root : IsStrict (take 212 (file_bytes a_recording)) → ⊥
without-root (text, entries, closed, (packets, bytes, says)) =
    let same : packets ≡ with_node = one_file [] packets with_node says.file.each (setup-first, (time-second, (uart-third, (node-fourth, tt)))) (sym bytes ∙ cut) in
    let whole : IsFile with_node = subst (λ (ps : List Packet). IsFile ps) same says.file in
    omega (arith, whole.index refl)
