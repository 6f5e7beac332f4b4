-- Each rule of a file: a packet that keeps it and one that breaks it, after the first recording's packets.
use Rattle.std.specs.Prelude.{◌≡◌, ℕ, true, false, List, [], ◌∷◌, ◌++◌, length, map, take, drop, replicate, Some, None, refl}
use Rattle.std.specs.List.{sum_by}
use Rattle.std.proofs.Common.{inl, lit<, lit≤, arith, sym, ap, ◌≤◌}
use Rattle.r10_indexbody.specs.Vectors.{a_node_entry, a_root_entry}
use Rattle.r10_indexbody.specs.declared.entry.RootEntry.{RootEntry}
use Rattle.r10_uart.specs.declared.entry.UartEntry.{UartEntry}
use Rattle.r10_body.specs.Content.{event, uart, node, root, report}
use Rattle.r10_packet.specs.Header.{header_bytes}
use Rattle.r10_body.specs.Packets.{Packet, packet_bytes, file_bytes, file_entries}
use Rattle.r10_body.specs.Rules.{KeepsChecksums, KeepsStart, KeepsChannels, KeepsSequence, KeepsCounts, KeepsIndex, KeepsCounters, KeepsEvents, KeepsReports, MayFollow, IsFile, node_entries, has_whole_index}
use Rattle.r10_body.specs.Faults.{IsAtFault, KeepsHeader, KeepsFiller, ReadsPacket, BreaksRule, first_packet, rule, no_time, no_index}
use Rattle.r10_body.specs.Faults as broken_rules
use Rattle.r10_body.specs.Foreign.{IsForeignPacket}
use Rattle.r10_body.specs.declared.fault.FileFault.TheVariants.{Rule}
use Rattle.r10_body.specs.Gaps.{told_lost}
use Rattle.r10_body.specs.declared.entry.Entry.{Entry}
use Rattle.r10_body.specs.declared.gap.Gap.{Gap}
use Rattle.r10_body.specs.declared.gap.Gap.TheVariants.{Whole, Lost, Unknown}
use Rattle.r10_body.specs.Vectors.{a_setup_packet, a_time_packet, uart_packet, a_node_packet, a_root_packet, a_report_packet, data_packets, a_recording}
use Rattle.r10_body.proofs.Recording.{setup-first, time-second, uart-third, node-fourth}
use Rattle.std.proofs.lemmas.Bool.{false≢true}

abbrev pub text_at : ℕ → UartEntry
text_at count = record { count = count; message = record { parity = false; sub = 0; bytes = [] } }

-- a packet of two messages on channel 5
abbrev pub next_packet : ℕ → ℕ → ℕ → Packet
next_packet sequence first last = record uart_packet { sequence = sequence; counter = first; content = uart (text_at first ∷ text_at last ∷ []) }

-- an event on channel 2
abbrev pub event_packet : ℕ → ℕ → ℕ → Packet
event_packet sequence number occurrence = record { channel = 2; sequence = sequence; gap = Whole; check = 0; counter = 1010; content = event (record { count = 1010; number = number; occurrence = occurrence }) }

-- rule 3: no data checksum on a time packet or an event
pub time-with-checksum : KeepsChecksums (record a_time_packet { check = 1 }) → ⊥
time-with-checksum keeps = omega (arith, keeps refl)

pub event-with-checksum : KeepsChecksums (record (event_packet 0 3 0) { check = 1 }) → ⊥
event-with-checksum keeps = omega (arith, keeps refl)

-- rule 4: one setup packet, and a time packet second
pub second-setup : KeepsStart data_packets a_setup_packet → ⊥
second-setup ((only-first, first), second) = omega (arith, only-first refl)

pub no-setup : KeepsStart [] a_time_packet → ⊥
no-setup ((only-first, first), second) = false≢true (first refl)

pub no-time-second : KeepsStart (a_setup_packet ∷ []) uart_packet → ⊥
no-time-second (start, second) = false≢true (second refl)

-- rule 5: channels
pub data-on-channel-0 : KeepsChannels data_packets (record uart_packet { channel = 0 }) → ⊥
data-on-channel-0 ((there, back), one-type, flags) = false≢true (back refl)

pub index-on-channel-5 : KeepsChannels data_packets (record a_node_packet { channel = 5 }) → ⊥
index-on-channel-5 ((there, back), one-type, flags) = omega (arith, there refl)

pub setup-on-channel-5 : KeepsChannels [] (record a_setup_packet { channel = 5 }) → ⊥
setup-on-channel-5 ((there, back), one-type, flags) = omega (arith, there refl)

pub another-type : KeepsChannels data_packets (record uart_packet { channel = 1 }) → ⊥
another-type (place, one-type, flags) = omega (arith, (one-type (lit< tt)).1.0 refl)

pub flagged-time : KeepsChannels (a_setup_packet ∷ []) (record a_time_packet { gap = Unknown }) → ⊥
flagged-time (place, one-type, flags) = let is : Unknown ≡ Whole = flags refl in cc

pub flagged-event : KeepsChannels data_packets (record (event_packet 0 3 0) { gap = Unknown }) → ⊥
flagged-event (place, one-type, flags) = let is : Unknown ≡ Whole = flags refl in cc

-- rule 6: sequence numbers
pub numbered : KeepsSequence data_packets (next_packet 1 1010 1010)
numbered = refl

pub not-numbered : KeepsSequence data_packets (next_packet 0 1010 1010) → ⊥
not-numbered keeps = omega (arith, keeps)

-- rule 7: counts
pub counted : KeepsCounts data_packets (next_packet 1 1010 1001010)
counted = ((refl, tt), (lit≤ tt, (lit≤ tt, (lit≤ tt, (lit≤ tt, tt)))), (lit≤ tt, (lit≤ tt, tt)))

pub too-far : KeepsCounts data_packets (next_packet 1 1010 1001011) → ⊥
too-far (first, rise, (near, (far, end))) = omega (arith, far)

pub falls-back : KeepsCounts data_packets (next_packet 1 1009 1010) → ⊥
falls-back (first, (a, (b, (c, d))), near) = omega (arith, c)

pub other-counter : KeepsCounts data_packets (record (next_packet 1 1010 1010) { counter = 1009 }) → ⊥
other-counter ((first, end), rise, near) = omega (arith, first)

-- rule 8: the index
pub data-behind-node : KeepsIndex (data_packets ++ a_node_packet ∷ []) (next_packet 1 1010 1010) → ⊥
data-behind-node keeps = omega (arith, keeps)

pub node-behind-root : KeepsIndex a_recording a_node_packet → ⊥
node-behind-root (place, entries) = omega (arith, ap length entries)

pub root-without-node : KeepsIndex data_packets a_root_packet → ⊥
root-without-node ((some, ends), entries) = omega (arith, some)

-- a node without the last packet, and one without the setup packet
pub entry-left-out : KeepsIndex data_packets (record a_node_packet { content = node (a_node_entry 0x01 0 0 ∷ a_node_entry 0x11 1 32 ∷ []) }) → ⊥
entry-left-out (place, entries) = omega (arith, ap length entries)

pub setup-left-out : KeepsIndex data_packets (record a_node_packet { content = node (a_node_entry 0x11 1 32 ∷ a_node_entry 0x50 5 68 ∷ []) }) → ⊥
setup-left-out (place, entries) = omega (arith, ap length entries)

-- a node of 99 entries where there are 101 packets
abbrev many : List Packet
many = a_setup_packet ∷ a_time_packet ∷ replicate 99 uart_packet

pub ninety-nine : KeepsIndex many (record a_node_packet { content = node (take 99 (node_entries 0 many)) }) → ⊥
ninety-nine (place, entries) = omega (arith, ap length entries)

-- a root that doesn't name itself, and one that names itself where the node stands
pub root-not-named : KeepsIndex (data_packets ++ a_node_packet ∷ []) (record a_root_packet { content = root (a_root_entry 124 ∷ []) }) → ⊥
root-not-named (ends, entries) = omega (arith, ap length entries)

pub root-names-another : KeepsIndex (data_packets ++ a_node_packet ∷ []) (record a_root_packet { content = root (a_root_entry 124 ∷ a_root_entry 124 ∷ []) }) → ⊥
unfolding packet_bytes header_bytes
root-names-another (ends, entries) = omega (arith, ap (sum_by (λ (e : RootEntry). e.offset)) entries)

-- of a hundred times after the setup the first group has a node of a hundred packets, and so has the second one node
abbrev times : List Packet
times = a_setup_packet ∷ replicate 100 a_time_packet

abbrev first_group : List Packet
first_group = record a_node_packet { content = node (take 100 (node_entries 0 times)) } ∷ record a_root_packet { content = root (a_root_entry 3632 ∷ a_root_entry 5660 ∷ []) } ∷ []

abbrev second_node : Packet
second_node = record a_node_packet { sequence = 3; content = node (drop 100 (node_entries 0 times)) }

abbrev second_root : RootEntry → Packet
second_root link = record a_root_packet { sequence = 4; content = root (a_root_entry 5720 ∷ link ∷ []) }

pub first-group : KeepsIndex (times ++ take 1 first_group) (record a_root_packet { content = root (a_root_entry 3632 ∷ a_root_entry 5660 ∷ []) })
unfolding packet_bytes header_bytes
first-group = ((lit< tt, inl refl), refl)

pub next-group : KeepsIndex (times ++ first_group) second_node
unfolding packet_bytes header_bytes
next-group = (λ some. lit< tt, refl)

pub linked-root : KeepsIndex (times ++ first_group ++ second_node ∷ []) (second_root (a_root_entry 5660))
unfolding packet_bytes header_bytes
linked-root = ((lit< tt, inl refl), refl)

-- not itself, though it would be right in the first group
pub unlinked-root : KeepsIndex (times ++ first_group ++ second_node ∷ []) (second_root (a_root_entry 5768)) → ⊥
unfolding packet_bytes header_bytes
unlinked-root (ends, entries) = omega (arith, ap (sum_by (λ (e : RootEntry). e.offset)) entries)

-- nor may the file end with the first group
pub group-missing : has_whole_index (times ++ first_group) ≡ false
group-missing = refl

pub whole-chain : has_whole_index (times ++ first_group ++ second_node ∷ second_root (a_root_entry 5660) ∷ []) ≡ true
whole-chain = refl

pub chain-length : length (file_bytes (times ++ first_group ++ second_node ∷ second_root (a_root_entry 5660) ∷ [])) ≡ 5828
unfolding packet_bytes header_bytes
chain-length = refl

-- rule 9: the counter of the setup packet and of the index
pub setup-counter : KeepsCounters (record a_setup_packet { counter = 999 } ∷ []) a_time_packet → ⊥
setup-counter (first, last) = omega (arith, (first refl).0)

pub node-counter : KeepsCounters data_packets (record a_node_packet { counter = 1010 }) → ⊥
node-counter (first, last) = omega (arith, last refl)

-- rule 10: how many events of its number came before
pub first-event : KeepsEvents data_packets (event_packet 0 3 0)
first-event = refl

pub not-first-event : KeepsEvents data_packets (event_packet 0 3 1) → ⊥
not-first-event keeps = omega (arith, keeps)

pub second-event : KeepsEvents (data_packets ++ event_packet 0 3 0 ∷ []) (event_packet 1 3 1)
second-event = refl

pub other-event : KeepsEvents (data_packets ++ event_packet 0 3 0 ∷ []) (event_packet 1 4 0)
other-event = refl

-- a file that ends after its setup packet
pub no-time-at-all : IsAtFault (file_bytes (a_setup_packet ∷ [])) false 32 (Rule 4)
unfolding packet_bytes header_bytes
no-time-at-all = record { packets = a_setup_packet ∷ []; rest = []; bytes_are = refl; offset_is = refl; strict = (setup-first, tt); unclosed = λ _. refl; answered = tt; wrong = no_time refl refl }

-- a file whose directory entry is closed has an index, and the root too
pub index-missing : IsAtFault (file_bytes data_packets) true 124 (Rule 8)
unfolding packet_bytes header_bytes
index-missing = record { packets = data_packets; rest = []; bytes_are = refl; offset_is = refl; strict = (setup-first, (time-second, (uart-third, tt))); unclosed = λ _. refl; answered = tt; wrong = no_index refl (lit≤ tt) refl refl }

pub root-missing : IsAtFault (take 212 (file_bytes a_recording)) true 212 (Rule 8)
unfolding packet_bytes header_bytes
root-missing = record {
  packets = data_packets ++ a_node_packet ∷ [];
  rest = [];
  bytes_are = refl;
  offset_is = refl;
  strict = (setup-first, (time-second, (uart-third, (node-fourth, tt))));
  unclosed = λ is. absurd (false≢true (sym is));
  answered = tt;
  wrong = no_index refl (lit≤ tt) refl refl;
}

-- a file that begins with its time packet: everything about the packet is right but its place
pub time-reads : ReadsPacket (packet_bytes a_time_packet) a_time_packet
unfolding packet_bytes header_bytes
time-reads = (time-second.fits, time-second.checksums, refl)

pub time-is : IsForeignPacket (first_packet (packet_bytes a_time_packet))
unfolding packet_bytes header_bytes
time-is = record { framed = refl; whole = refl; checked = λ _. refl; body = λ _. record { setup = λ e. absurd (omega (arith, e)); event = λ e. absurd (omega (arith, e)); index = λ e. absurd (omega (arith, e)); time = λ _. refl; bus = λ e. absurd (omega (arith, e)); discrete = λ e. absurd (omega (arith, e)); message = λ e. absurd (omega (arith, e)); arinc = λ e. absurd (omega (arith, e)); uart = λ e. absurd (omega (arith, e)) } }

pub time-header : KeepsHeader (packet_bytes a_time_packet)
unfolding packet_bytes header_bytes
time-header = (refl, refl, lit≤ tt)

pub time-filler : KeepsFiller (packet_bytes a_time_packet)
unfolding packet_bytes header_bytes
time-filler = refl

least-four : (m : ℕ) → BreaksRule [] (packet_bytes a_time_packet) false m → 4 ≤ m
least-four m (broken_rules.version breaks) = absurd (breaks time-header)
least-four m (broken_rules.filler is breaks) = absurd (breaks time-filler)
least-four m (broken_rules.body breaks) = absurd (breaks (a_time_packet, time-reads))
least-four m (broken_rules.start p reads breaks) = lit≤ tt
least-four m (broken_rules.channels p reads breaks) = lit≤ tt
least-four m (broken_rules.sequence p reads breaks) = lit≤ tt
least-four m (broken_rules.counts p reads breaks) = lit≤ tt
least-four m (broken_rules.index p reads breaks) = lit≤ tt
least-four m (broken_rules.unclosed p reads index unclosed) = lit≤ tt
least-four m (broken_rules.counters p reads breaks) = lit≤ tt
least-four m (broken_rules.events p reads breaks) = lit≤ tt
least-four m (broken_rules.reports p loss reads is breaks) = lit≤ tt

pub begins-with-time : IsAtFault (packet_bytes a_time_packet) false 0 (Rule 4)
begins-with-time = record { packets = []; rest = packet_bytes a_time_packet; bytes_are = refl; offset_is = refl; strict = tt; unclosed = λ _. refl; answered = tt; wrong = rule time-is (broken_rules.start a_time_packet time-reads no-setup) least-four }

-- rule 11: of a report and the packet after it

abbrev reporting : List Packet
reporting = data_packets ++ a_report_packet ∷ []

abbrev lossy_packet : Gap → Packet
lossy_packet gap = record uart_packet { sequence = 1; gap = gap; counter = 1010; content = uart (text_at 1010 ∷ []) }

pub told-loss : KeepsReports reporting (lossy_packet (Lost 1))
told-loss = ((refl, refl), tt)

pub other-loss : KeepsReports reporting (lossy_packet (Lost 2)) → ⊥
other-loss keeps = omega (arith, ap told_lost keeps.0.1)

pub unknown-behind-report : KeepsReports reporting (lossy_packet Unknown) → ⊥
unknown-behind-report keeps = omega (arith, ap told_lost keeps.0.1)

pub no-loss-behind-report : KeepsReports reporting (lossy_packet Whole) → ⊥
no-loss-behind-report keeps = omega (arith, ap told_lost keeps.0.1)

pub other-channel : KeepsReports reporting (record (lossy_packet (Lost 1)) { channel = 6 }) → ⊥
other-channel keeps = omega (arith, keeps.0.0)

-- without a report it isn't known how many were lost
pub unknown-loss : KeepsReports data_packets (lossy_packet Unknown)
unknown-loss = (refl, tt)

pub untold-loss : KeepsReports data_packets (lossy_packet (Lost 1)) → ⊥
untold-loss keeps = omega (arith, keeps.0)

pub none-lost : KeepsReports data_packets (record a_report_packet { content = report (record { channel = 5; reserved = 0; lost = 0 }) }) → ⊥
none-lost keeps = omega (arith, keeps.1.1)

pub reserved-field : KeepsReports data_packets (record a_report_packet { content = report (record { channel = 5; reserved = 1; lost = 1 }) }) → ⊥
reserved-field keeps = omega (arith, keeps.1.0)

-- a file doesn't end with a report
pub unanswered : IsFile reporting → ⊥
unanswered file = let none : Some (record { channel = 5; reserved = 0; lost = 1 }) ≡ None = file.reports in cc

pub report-fourth : MayFollow data_packets a_report_packet
unfolding packet_bytes header_bytes
report-fourth = record {
  fits = record { channel = lit< tt; sequence = lit< tt; gap = tt; check = lit< tt; counter = lit< tt; content = record { channel = lit< tt; reserved = lit< tt; lost = lit< tt }; short = lit≤ tt };
  checksums = λ _. refl;
  start = ((λ e. absurd (false≢true e), λ e. absurd (omega arith)), λ e. absurd (omega arith));
  channels = ((λ _. refl, λ _. refl), λ lt. absurd (omega arith), λ _. refl);
  sequence = refl;
  counts = (tt, tt, tt);
  index = refl;
  counters = (λ e. absurd (omega arith), λ _. refl);
  events = tt;
  reports = (refl, (refl, lit< tt));
}

-- the entries of a lossy packet after its report
pub lossy-entries : map (λ (e : Entry). e.gap) (file_entries (reporting ++ lossy_packet (Lost 1) ∷ [])) ≡ Whole ∷ Whole ∷ Whole ∷ Lost 1 ∷ []
lossy-entries = refl
