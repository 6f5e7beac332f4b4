-- A file with its index after it.
use Rattle.std.proofs.Common.{◌≡◌, ℕ, ◌+◌, ◌^◌, ◌<◌, ◌≤◌, false, true, List, ◌++◌, length, map, filter, refl, sym, ap, ◌∙◌, arith, length-append}
use Rattle.std.proofs.lemmas.List.{take-append-le}
use Rattle.std.proofs.lemmas.List.Concat.{flat_map-append}
use Rattle.r10_indexbody.specs.declared.entry.NodeEntry.{NodeEntry}
use Rattle.r10_body.specs.Files.{PacketsSay, on_channel}
use Rattle.r10_body.specs.Packets.{Packet, file_bytes, file_entries, packet_bytes}
use Rattle.r10_body.specs.Rules.{is_data, last_time, node_entries}
use Rattle.r10_body.specs.Sequence.{next_sequence}
use Rattle.r10_packetout.proofs.Closing.{index_says}
use Rattle.r10_body.proofs.Indexes.{entries_length, not_whole}
use Rattle.r10_index.proofs.FileWithIndex.{all_data, index_closes}
use Rattle.r10_index.proofs.Leaving.{one_by_one}
use Rattle.r10_index.specs.Written.{IsGroup, index_behind, index_of, index_size}
use Rattle.r10_judge.specs.Judged.{TracksStrictFile}
use Rattle.r10_body.proofs.Lengths.{file_covered}
use Rattle.r10_body.proofs.OneMeaning.{one_list}
use Rattle.r10_seal.specs.Sealing.{IsUnsealed, cost_of_packets, sealed_bytes}
use Rattle.r10_file_rules.specs.declared.tracks.Tracks.{Tracks}

-- what is judged strict and open
pub kept_unsealed : (tracks : Tracks) (bytes : List ℕ) (kept : TracksStrictFile false tracks bytes) → IsUnsealed bytes kept.text kept.packets
kept_unsealed tracks bytes kept = record {
  bytes_are = kept.bytes_are;
  say = record { file = kept.say.file; setup_is = kept.say.setup_is; entries_are = λ channel. refl; closed_is = kept.say.closed_is };
}

-- the same bytes are the same packets
pub one_unsealed : (bytes text other : List ℕ) (packets others : List Packet) → IsUnsealed bytes text packets → IsUnsealed bytes other others → packets ≡ others
one_unsealed bytes text other packets others one two = one_list packets others one.say.file.each two.say.file.each (sym one.bytes_are ∙ two.bytes_are)

-- what nodes say of the packets
pub all_named : (bytes text : List ℕ) (packets : List Packet) → IsUnsealed bytes text packets → node_entries 0 (filter is_data packets) ≡ node_entries 0 packets
all_named bytes text packets is = ap (node_entries 0) (all_data packets (is.say.file.index (not_whole packets is.say.closed_is)))

pub named_count : (bytes text : List ℕ) (packets : List Packet) → IsUnsealed bytes text packets → length (node_entries 0 (filter is_data packets)) ≡ length packets
named_count bytes text packets is = ap (λ (es : List NodeEntry). length es) (all_named bytes text packets is) ∙ entries_length 0 packets

-- ---- with the index

pub behind_bytes : (nodes : ℕ) (packets : List Packet) (counter number end : ℕ) (entries : List NodeEntry) → counter ≡ last_time 0 packets → number ≡ next_sequence 0 packets → end ≡ length (file_bytes packets)
    → entries ≡ node_entries 0 packets → file_bytes packets ++ file_bytes (index_behind nodes counter number end entries) ≡ sealed_bytes nodes packets
behind_bytes nodes packets counter number end entries last first long named =
    ap (λ (n : ℕ). file_bytes packets ++ file_bytes (index_behind nodes n number end entries)) last
    ∙ ap (λ (n : ℕ). file_bytes packets ++ file_bytes (index_behind nodes (last_time 0 packets) n end entries)) first
    ∙ ap (λ (n : ℕ). file_bytes packets ++ file_bytes (index_behind nodes (last_time 0 packets) (next_sequence 0 packets) n entries)) long
    ∙ ap (λ (es : List NodeEntry). file_bytes packets ++ file_bytes (index_behind nodes (last_time 0 packets) (next_sequence 0 packets) (length (file_bytes packets)) es)) named
    ∙ sym (flat_map-append packet_bytes packets (index_of nodes packets))

sealed_both : (nodes : ℕ) (packets : List Packet) → length (sealed_bytes nodes packets) ≡ length (file_bytes packets) + length (file_bytes (index_of nodes packets))
sealed_both nodes packets =
    ap (λ (b : List ℕ). length b) (flat_map-append packet_bytes packets (index_of nodes packets)) ∙ length-append (file_bytes packets) (file_bytes (index_of nodes packets))

pub sealed_longer : (nodes : ℕ) (packets : List Packet) → length (file_bytes packets) ≤ length (sealed_bytes nodes packets)
sealed_longer nodes packets = omega (arith, sealed_both nodes packets)

-- in groups of one node an index is as long as it may be
pub ones_length : (packets : List Packet) → length (sealed_bytes 1 packets) ≡ length (file_bytes packets) + index_size (length packets)
ones_length packets =
    sealed_both 1 packets ∙ ap (λ n. length (file_bytes packets) + n) (one_by_one (last_time 0 packets) (next_sequence 0 packets) (length (file_bytes packets)) (node_entries 0 packets) ∙ ap index_size (entries_length 0 packets))

-- the file with its index says the same, and is closed
pub sealed_say : (nodes : ℕ) (bytes text : List ℕ) (packets : List Packet) → IsUnsealed bytes text packets → IsGroup nodes → length (file_bytes packets) < 2 ^ 63
    → PacketsSay (packets ++ index_of nodes packets) text (file_entries packets) true
sealed_say nodes bytes text packets is group short =
    let whole = index_closes nodes packets group is.say.file is.say.closed_is short in
    let two : 2 ≤ length packets = is.say.file.start in
    record {
      file = whole.0;
      setup_is = ap (λ (ps : List Packet). map (λ (q : Packet). q.content) ps) (take-append-le 1 packets (index_of nodes packets) (omega (arith, two))) ∙ is.say.setup_is;
      entries_are = λ channel. ap (on_channel channel) (index_says nodes packets);
      closed_is = whole.1;
    }

-- and is no longer than it costs
pub sealed_within : (nodes : ℕ) (bytes text : List ℕ) (packets : List Packet) → IsUnsealed bytes text packets → IsGroup nodes → length (file_bytes packets) < 2 ^ 63 → length (sealed_bytes nodes packets) ≤ cost_of_packets text packets
sealed_within nodes bytes text packets is group short =
    file_covered (sealed_bytes nodes packets) text (file_entries packets) true (packets ++ index_of nodes packets, refl, sealed_say nodes bytes text packets is group short)
