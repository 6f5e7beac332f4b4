-- Packets that break rule 8, each at fault at its own place.
use Rattle.std.proofs.Common.{ℕ, ◌≤◌, true, false, List, [], ◌∷◌, ◌++◌, length, lit<, lit≤, refl, sym, ap, ◌∙◌, arith}
use Rattle.std.specs.Prelude.{IfSome}
use Rattle.r10_packet.specs.Header.{header_bytes}
use Rattle.r10_indexbody.specs.Index.{FitsRootBody}
use Rattle.r10_indexbody.specs.Vectors.{a_root_entry}
use Rattle.r10_indexbody.specs.declared.entry.RootEntry.{RootEntry}
use Rattle.r10_body.proofs.Lenient.{strict-lenient}
use Rattle.r10_body.proofs.Recording.{setup-first, time-second, uart-third, node-fourth}
use Rattle.r10_body.specs.Content.{FitsContent, root, uart}
use Rattle.r10_body.specs.Faults.{IsAtFault, KeepsHeader, KeepsFiller, ReadsPacket, BreaksRule, first_packet, rule, IsFollowedByFlagged}
use Rattle.r10_body.specs.Faults as broken_rules
use Rattle.r10_body.specs.Foreign.{IsForeignPacket}
use Rattle.r10_body.specs.Packets.{Packet, packet_bytes, file_bytes}
use Rattle.r10_body.specs.Rules.{EachFollows, KeepsStart, KeepsChannels, KeepsSequence, KeepsCounts, KeepsIndex, last_report}
use Rattle.r10_body.specs.Vectors.{uart_packet, a_node_packet, a_root_packet, data_packets}
use Rattle.r10_body.specs.declared.fault.FileFault.TheVariants.{Rule}
use Rattle.r10_body.proofs.Injective.{one_packet}
use Rattle.r10_body.proofs.Retold.{IsRetold, retold_start, retold_channels, retold_sequence, retold_counts}
use Rattle.std.proofs.lemmas.Bool.{false≢true}

-- what stands first is one packet, whatever number is reported
the_packet : (p q : Packet) (bytes : List ℕ) → ReadsPacket bytes p → ReadsPacket bytes q → IsRetold p q
the_packet p q bytes rp rq = one_packet p q [] [] rp.0 rq.0 (ap (λ (b : List ℕ). b ++ []) (sym rp.2 ∙ rq.2))

-- a packet that keeps the rules below 8
pub record KeepsBelow (before : List Packet) (p : Packet) : Type 0 where
  pub start : KeepsStart before p
  pub channels : KeepsChannels before p
  pub sequence : KeepsSequence before p
  pub counts : KeepsCounts before p

least_eight : (before : List Packet) (p : Packet) (bytes : List ℕ) → KeepsHeader bytes → KeepsFiller bytes → ReadsPacket bytes p → KeepsBelow before p → (m : ℕ) → BreaksRule before bytes true m → 8 ≤ m
least_eight before p bytes header filler reads keeps m (broken_rules.version breaks) = absurd (breaks header)
least_eight before p bytes header filler reads keeps m (broken_rules.filler is breaks) = absurd (breaks filler)
least_eight before p bytes header filler reads keeps m (broken_rules.body breaks) = absurd (breaks (p, reads))
least_eight before p bytes header filler reads keeps m (broken_rules.start q here breaks) = absurd (breaks (retold_start before p q (the_packet p q bytes reads here) keeps.start))
least_eight before p bytes header filler reads keeps m (broken_rules.channels q here breaks) = absurd (breaks (retold_channels before p q (the_packet p q bytes reads here) keeps.channels))
least_eight before p bytes header filler reads keeps m (broken_rules.sequence q here breaks) = absurd (breaks (retold_sequence before p q (the_packet p q bytes reads here) keeps.sequence))
least_eight before p bytes header filler reads keeps m (broken_rules.counts q here breaks) = absurd (breaks (retold_counts before p q (the_packet p q bytes reads here) keeps.counts))
least_eight before p bytes header filler reads keeps m (broken_rules.index q here breaks) = lit≤ tt
least_eight before p bytes header filler reads keeps m (broken_rules.unclosed q here is unclosed) = lit≤ tt
least_eight before p bytes header filler reads keeps m (broken_rules.counters q here breaks) = lit≤ tt
least_eight before p bytes header filler reads keeps m (broken_rules.events q here breaks) = lit≤ tt
least_eight before p bytes header filler reads keeps m (broken_rules.reports q loss here is breaks) = lit≤ tt

fault_8 : (before : List Packet) (p : Packet) → EachFollows [] before → IsForeignPacket (first_packet (packet_bytes p)) → KeepsHeader (packet_bytes p) → KeepsFiller (packet_bytes p) → ReadsPacket (packet_bytes p) p
    → KeepsBelow before p → ¬ KeepsIndex before p → IfSome (last_report before) (λ loss. IsFollowedByFlagged loss (packet_bytes p)) → IsAtFault (file_bytes before ++ packet_bytes p) true (length (file_bytes before)) (Rule 8)
fault_8 before p each foreign header filler reads keeps breaks reported = record {
  packets = before;
  rest = packet_bytes p;
  bytes_are = refl;
  offset_is = refl;
  strict = each;
  unclosed = λ e. absurd (false≢true (sym e));
  answered = reported;
  wrong = rule foreign (broken_rules.index p reads breaks) (least_eight before p (packet_bytes p) header filler reads keeps);
}

abbrev with_node : List Packet
with_node = data_packets ++ a_node_packet ∷ []

-- a root that names itself where the node stands
abbrev pub misplaced : Packet
misplaced = record a_root_packet { content = root (a_root_entry 124 ∷ a_root_entry 124 ∷ []) }

not_itself : KeepsIndex with_node misplaced → ⊥
unfolding packet_bytes header_bytes
not_itself (ends, entries) = omega (arith, ap last_offset entries)
  where
    last_offset : List RootEntry → ℕ
    last_offset (a ∷ b ∷ rest) = b.offset
    last_offset rest = 0

pub root-misplaced : IsAtFault (file_bytes with_node ++ packet_bytes misplaced) true 212 (Rule 8)
unfolding packet_bytes header_bytes
root-misplaced =
    let fields : FitsRootBody (a_root_entry 124 ∷ a_root_entry 124 ∷ []) = record { some = lit< tt; counted = lit< tt; fields = (record { counter = lit< tt; offset = lit< tt }, (record { counter = lit< tt; offset = lit< tt }, tt)) } in
    fault_8 with_node misplaced (setup-first, (time-second, (uart-third, (node-fourth, tt))))
    (record { framed = refl; whole = refl; checked = λ _. refl; body = λ _. strict-lenient 3 1000 _ [] (root (a_root_entry 124 ∷ a_root_entry 124 ∷ []), record { type_is = refl; fits = fields; body_is = refl }, refl) })
    (refl, refl, lit≤ tt) refl
    (record { channel = lit< tt; sequence = lit< tt; gap = tt; check = lit< tt; counter = lit< tt; content = fields; short = lit≤ tt }, λ _. refl, refl)
    (record {
      start = ((λ e. absurd (false≢true e), λ e. absurd (omega arith)), λ e. absurd (omega arith));
      channels = ((λ _. refl, λ _. refl), λ lt. absurd (omega arith), λ _. refl);
      sequence = refl;
      counts = (tt, tt, tt);
    })
    not_itself tt

-- a packet of data after an index packet
abbrev pub too_late : Packet
too_late = record uart_packet { sequence = 1; counter = 1010; content = uart (record { count = 1010; message = record { parity = false; sub = 0; bytes = [] } } ∷ []) }

not_data : KeepsIndex with_node too_late → ⊥
not_data keeps = omega (arith, keeps)

pub data-too-late : IsAtFault (file_bytes with_node ++ packet_bytes too_late) true 212 (Rule 8)
unfolding packet_bytes header_bytes
data-too-late =
    let fields : FitsContent 1010 too_late.content = (lit< tt, (record { count = lit< tt; sub = lit< tt; bytes = lit< tt }, tt)) in
    fault_8 with_node too_late (setup-first, (time-second, (uart-third, (node-fourth, tt))))
    (record { framed = refl; whole = refl; checked = λ _. refl; body = λ _. strict-lenient 0x50 1010 _ _ (too_late.content, record { type_is = refl; fits = fields; body_is = refl }, refl) })
    (refl, refl, lit≤ tt) refl
    (record { channel = lit< tt; sequence = lit< tt; gap = tt; check = lit< tt; counter = lit< tt; content = fields; short = lit≤ tt }, λ _. refl, refl)
    (record {
      start = ((λ e. absurd (false≢true e), λ e. absurd (omega arith)), λ e. absurd (omega arith));
      channels = ((λ e. absurd (false≢true e), λ e. absurd (omega arith)), λ _. (λ e. absurd (omega arith), (λ e. absurd (omega arith), (λ _. refl, (λ e. absurd (omega arith), tt)))), λ e. absurd (false≢true e));
      sequence = refl;
      counts = ((refl, tt), (lit≤ tt, (lit≤ tt, (lit≤ tt, tt))), (lit≤ tt, tt));
    })
    not_data tt
