-- The first fault of a file.
use Rattle.std.specs.Prelude.{◌≡◌, ℕ, ◌<◌, ◌≤◌, ◌⊎◌, Bool, true, false, IsTrue, List, [], ◌++◌, length, count_by, take, drop}
use Rattle.std.specs.Prelude.{slice_range, Some, None, IfSome, bit_and}
use Rattle.std.specs.List.{AllByRecursion, concat}
use Rattle.r10_packet.specs.Framing.{framing_fault, header_at, body_at, has_data_checksum}
use Rattle.r10_packet.specs.Header.{checksum_bits}
use Rattle.r10_packet.specs.Limits.{longest_packet}
use Rattle.r10_packet.specs.Packet.{with_trailer, least_filler}
use Rattle.r10_packet.specs.declared.fault.PacketFault.TheVariants as packet_faults
use Rattle.r10_body.specs.Packets.{Packet, FitsPacket, packet_bytes, file_bytes}
use Rattle.r10_body.specs.Rules.{KeepsChecksums, KeepsStart, KeepsChannels, KeepsSequence, KeepsCounts, KeepsIndex, KeepsCounters}
use Rattle.r10_body.specs.Rules.{KeepsEvents, EachFollows, IsSoundReport, is_index, last_report, has_whole_index}
use Rattle.r10_body.specs.Content.{report}
use Rattle.r10_indexbody.specs.declared.loss.LossBody.{LossBody}
use Rattle.r10_count.specs.Bytes.{bit_of}
use Rattle.r10_body.specs.Foreign.{opaque_at, IsForeignBody, IsForeignPacket}
use Rattle.r10_body.specs.declared.fault.FileFault.{FileFault}
use Rattle.r10_body.specs.declared.fault.FileFault.TheVariants.{Truncated, Sync, HeaderSum, Length, DataSum, Body, Rule}

-- ---- faults of any file

-- the packet that stands first has this fault of framing, data checksum or body
abbrev pub HasFault : List ℕ → FileFault → Type 0
HasFault bytes Truncated = framing_fault bytes ≡ Some packet_faults.Truncated
HasFault bytes Sync = framing_fault bytes ≡ Some packet_faults.Sync
HasFault bytes HeaderSum = framing_fault bytes ≡ Some packet_faults.HeaderSum
HasFault bytes Length = framing_fault bytes ≡ Some packet_faults.Length
HasFault bytes DataSum = (framing_fault bytes ≡ None) × (opaque_at bytes ≡ false) × (has_data_checksum bytes ≡ false)
HasFault bytes Body =
    (framing_fault bytes ≡ None) × (opaque_at bytes ≡ false) × (has_data_checksum bytes ≡ true)
    × ¬ IsForeignBody (header_at bytes).data_type (body_at bytes)
HasFault bytes (Rule n) = ⊥

-- a file of any recorder is at fault at an offset: what stands before are packets, and what stands there is none
abbrev pub IsFaulty : List ℕ → ℕ → FileFault → Type 0
IsFaulty bytes offset fault =
    (packets : List (List ℕ)) × (rest : List ℕ) × (bytes ≡ concat packets ++ rest) × (offset ≡ length (concat packets))
    × AllByRecursion IsForeignPacket packets × ((0 < length rest) ⊎ (length packets ≡ 0)) × HasFault rest fault

-- ---- faults of a file that should be strict

-- the bytes of the packet that stands first
abbrev pub first_packet : List ℕ → List ℕ
first_packet bytes = take (header_at bytes).packet_len bytes

-- rule 1: this version and these flags, and not too long
abbrev pub KeepsHeader : List ℕ → Type 0
KeepsHeader bytes = let h = header_at bytes in (h.version ≡ 8) × (bit_and h.flags 0xEC ≡ 0) × (h.packet_len ≤ longest_packet)

-- rule 2: the least filler, of zeros
abbrev pub KeepsFiller : List ℕ → Type 0
KeepsFiller bytes =
    let h = header_at bytes in
    let bits = checksum_bits h.flags in
    slice_range bytes 24 h.packet_len ≡ with_trailer bits (body_at bytes) (least_filler bits (body_at bytes))

-- the packet that stands first is this one of the recorder's, whatever number is reported of what was lost before it
abbrev pub ReadsPacket : List ℕ → Packet → Type 0
ReadsPacket bytes p = FitsPacket p × KeepsChecksums p × (first_packet bytes ≡ packet_bytes p)

-- a flagged packet of the report's channel comes next
abbrev pub IsFollowedByFlagged : LossBody → List ℕ → Type 0
IsFollowedByFlagged loss bytes = (framing_fault bytes ≡ None) × ((header_at bytes).channel ≡ loss.channel)
    × (bit_of 4 (header_at bytes).flags ≡ true)

-- where a report stands last, it is answered by what comes next
abbrev pub IsReportAnswered : List Packet → List ℕ → Type 0
IsReportAnswered packets rest = IfSome (last_report packets) (λ loss. IsFollowedByFlagged loss rest)

-- what stands first breaks a rule, after these packets of a file whose directory entry is closed or not
pub data BreaksRule (before : List Packet) (bytes : List ℕ) (closed : Bool) : ℕ → Type 0 where
  version : ¬ KeepsHeader bytes → BreaksRule before bytes closed 1
  filler : opaque_at bytes ≡ false → ¬ KeepsFiller bytes → BreaksRule before bytes closed 2
  body : ¬ ((p : Packet) × ReadsPacket bytes p) → BreaksRule before bytes closed 3
  start : (p : Packet) → ReadsPacket bytes p → ¬ KeepsStart before p → BreaksRule before bytes closed 4
  channels : (p : Packet) → ReadsPacket bytes p → ¬ KeepsChannels before p → BreaksRule before bytes closed 5
  sequence : (p : Packet) → ReadsPacket bytes p → ¬ KeepsSequence before p → BreaksRule before bytes closed 6
  counts : (p : Packet) → ReadsPacket bytes p → ¬ KeepsCounts before p → BreaksRule before bytes closed 7
  index : (p : Packet) → ReadsPacket bytes p → ¬ KeepsIndex before p → BreaksRule before bytes closed 8
  unclosed : (p : Packet) → ReadsPacket bytes p → IsTrue (is_index p) → closed ≡ false → BreaksRule before bytes closed 8
  counters : (p : Packet) → ReadsPacket bytes p → ¬ KeepsCounters before p → BreaksRule before bytes closed 9
  events : (p : Packet) → ReadsPacket bytes p → ¬ KeepsEvents before p → BreaksRule before bytes closed 10
  -- the report itself is at fault where no flagged packet of its channel comes next
  reports : (p : Packet) (loss : LossBody) → ReadsPacket bytes p → p.content ≡ report loss
      → ¬ (IsSoundReport loss × IsFollowedByFlagged loss (drop (header_at bytes).packet_len bytes))
      → BreaksRule before bytes closed 11

-- what is wrong after these packets, where no fault of framing, data checksum or body comes before a rule, and of rules the
-- least is named
pub data IsWrongHere (before : List Packet) (rest : List ℕ) (closed : Bool) : FileFault → Type 0 where
  packet : {fault : FileFault} → (0 < length rest) ⊎ (length before ≡ 0) → HasFault rest fault
      → IsWrongHere before rest closed fault
  rule : {n : ℕ} → IsForeignPacket (first_packet rest) → BreaksRule before rest closed n
      → ((m : ℕ) → BreaksRule before rest closed m → n ≤ m) → IsWrongHere before rest closed (Rule n)
  no_time : length rest ≡ 0 → length before ≡ 1 → IsWrongHere before rest closed (Rule 4)
  -- nodes or a root are missing
  no_index : length rest ≡ 0 → 2 ≤ length before → closed ≡ true → has_whole_index before ≡ false
      → IsWrongHere before rest closed (Rule 8)

-- a file that should be strict, with a closed directory entry or an unclosed one, is at fault first at an offset: what stands
-- before are packets that follow each other, without an index where the entry is unclosed
pub record IsAtFault (bytes : List ℕ) (closed : Bool) (offset : ℕ) (fault : FileFault) : Type 0 where
  pub packets : List Packet
  pub rest : List ℕ
  pub bytes_are : bytes ≡ file_bytes packets ++ rest
  pub offset_is : offset ≡ length (file_bytes packets)
  pub strict : EachFollows [] packets
  pub answered : IsReportAnswered packets rest
  pub unclosed : closed ≡ false → count_by is_index packets ≡ 0
  pub wrong : IsWrongHere packets rest closed fault
