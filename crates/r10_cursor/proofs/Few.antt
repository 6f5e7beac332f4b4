-- A file has fewer entries than bytes.
use Rattle.std.proofs.Common.{◌≡◌, ℕ, ◌*◌, ◌≤◌, List, [], ◌∷◌, length, refl, arith}
use Rattle.std.specs.List.{sum_by}
use Rattle.std.proofs.lemmas.List.{length-append}
use Rattle.std.proofs.lemmas.List.Sums.{sum_by-cons}
use Rattle.r10_body.proofs.Lone.{packet-length}
use Rattle.r10_body.proofs.Sentences.{rest_length}
use Rattle.r10_body.specs.Content.{messages_of}
use Rattle.r10_body.specs.declared.entry.Timed.{Timed}
use Rattle.r10_body.specs.declared.gap.Gap.{Gap}
use Rattle.r10_body.specs.declared.gap.Gap.TheVariants.{Whole}
use Rattle.r10_body.specs.Packets.{Packet, packet_bytes, packet_entries, file_bytes, file_entries, with_gaps}
use Rattle.r10_packet_rules.specs.Tally.{timed_cost}
use Rattle.r10_packet_rules.proofs.Tallies.{content_cheap}

timed_length : (channel : ℕ) (gap : Gap) (ms : List Timed) → length (with_gaps channel gap ms) ≡ length ms
timed_length channel gap [] = refl
timed_length channel gap (m ∷ ms) = omega (arith, timed_length channel Whole ms)

messages_few : (ms : List Timed) → 104 * length ms ≤ sum_by timed_cost ms
messages_few [] = omega arith
messages_few (m ∷ ms) = omega (arith, messages_few ms, sum_by-cons timed_cost m ms)

packet_few : (p : Packet) → length (packet_entries p) ≤ length (packet_bytes p)
packet_few p = omega (
  arith,
  timed_length p.channel p.gap (messages_of p.counter p.content),
  messages_few (messages_of p.counter p.content),
  content_cheap p.counter p.content,
  rest_length p,
  packet-length p,
)

-- a file has no more entries than bytes
pub entries_few : (ps : List Packet) → length (file_entries ps) ≤ length (file_bytes ps)
entries_few [] = omega arith
entries_few (p ∷ ps) = omega (arith, packet_few p, entries_few ps, length-append (packet_entries p) (file_entries ps), length-append (packet_bytes p) (file_bytes ps))
