-- What a judge says of a whole file under its directory entry.
use Rattle.std.proofs.Common.{◌≡◌, ◌↔◌, ℕ, ◌<◌, ◌≤◌, Bool, true, List, [], ◌∷◌, ◌++◌, length, Option, Some, None, is_some, ◌⊎◌, inl, inr, slice_range, bit_and, refl, sym, ap, ◌∙◌, subst, arith}
use Rattle.std.proofs.lemmas.List.{append-nil, length-append}
use Rattle.r10_packet.specs.Framing.{header_at, body_at}
use Rattle.r10_packet.specs.Header.{checksum_bits}
use Rattle.r10_packet.specs.Packet.{with_trailer, least_filler}
use Rattle.r10_packet.specs.declared.header.Header.{Header}
use Rattle.r10_body.proofs.Lone.{packet-length}
use Rattle.r10_body.specs.Foreign.{IsForeignPacket}
use Rattle.r10_body.specs.Packets.{Packet, packet_bytes, file_bytes, file_entries}
use Rattle.r10_indexbody.specs.declared.loss.LossBody.{LossBody}
use Rattle.r10_body.specs.Rules.{EndsReports, last_report}
use Rattle.r10_body.specs.Faults.{HasFault, IsFollowedByFlagged, IsReportAnswered, KeepsHeader, KeepsFiller, ReadsPacket, BreaksRule, IsWrongHere, IsAtFault, first_packet}
use Rattle.r10_body.specs.Faults as broken_rules
use Rattle.r10_body.specs.declared.fault.FileFault.{FileFault}
use Rattle.r10_body.specs.declared.fault.FileFault.TheVariants.{Rule}
use Rattle.r10_packet_rules.proofs.Fronts.{range_front, stays}
use Rattle.r10_packet_rules.proofs.OneWayApart.{first_again, packet_long}
use Rattle.r10_packet_rules.proofs.Written.{packet_foreign}
use Rattle.r10_packet_rules.specs.declared.file.FirstFault.{FirstFault}
use Rattle.r10_file_rules.specs.declared.tracks.Tracks.{Tracks}
use Rattle.r10_judge.specs.Judged.{KeepRules, KeepsRulesSoFar, BreaksAt, SaysClosed, MayMiss, unanswered_at}
use Rattle.r10_judge.proofs.Answering.{no_report, quiet_at_end, report_answered_on}
use Rattle.r10_judge.proofs.Judging.{begins, broken_here, least_here, pending, pending_breaks, pending_bytes, pending_keep, pending_least, pending_place, pending_quiet, whole_first}

-- ---- what stands after a packet changes no rule of it

abbrev IsFilled : Header → List ℕ → List ℕ → Type 0
IsFilled h body bytes = slice_range bytes 24 h.packet_len ≡ with_trailer (checksum_bits h.flags) body (least_filler (checksum_bits h.flags) body)

same_filler : (packet more : List ℕ) → IsForeignPacket packet → KeepsFiller (packet ++ more) ↔ KeepsFiller packet
same_filler packet more foreign =
    let s = stays packet more foreign.framed in
    let h = header_at packet in
    let body = body_at packet in
    let range : slice_range (packet ++ more) 24 h.packet_len ≡ slice_range packet 24 h.packet_len = range_front packet more 24 h.packet_len (packet_long packet foreign) (omega (arith, foreign.whole)) in (
      (λ k. sym range ∙ subst (λ (b : List ℕ). IsFilled h b (packet ++ more)) s.body_is (subst (λ (g : Header). IsFilled g (body_at (packet ++ more)) (packet ++ more)) s.header k)),
      (λ k. subst (λ (g : Header). IsFilled g (body_at (packet ++ more)) (packet ++ more)) (sym s.header) (subst (λ (b : List ℕ). IsFilled h b (packet ++ more)) (sym s.body_is) (range ∙ k))),
    )

same_header : (packet more : List ℕ) → IsForeignPacket packet → header_at (packet ++ more) ≡ header_at packet
same_header packet more foreign = (stays packet more foreign.framed).header

abbrev IsOwn : Header → Type 0
IsOwn h = (h.version ≡ 8) × (bit_and h.flags 0xEC ≡ 0) × (h.packet_len ≤ 524288)

reads_more : (packet more : List ℕ) (p : Packet) → IsForeignPacket packet → ReadsPacket packet p → ReadsPacket (packet ++ more) p
reads_more packet more p foreign reads = (reads.0, reads.1, first_again packet more foreign ∙ sym (whole_first packet foreign) ∙ reads.2)

reads_less : (packet more : List ℕ) (p : Packet) → IsForeignPacket packet → ReadsPacket (packet ++ more) p → ReadsPacket packet p
reads_less packet more p foreign reads = (reads.0, reads.1, whole_first packet foreign ∙ sym (first_again packet more foreign) ∙ reads.2)

pub breaks_more : (before : List Packet) (packet more : List ℕ) (closed : Bool) (n : ℕ) → IsForeignPacket packet → n ≤ 10 → BreaksRule before packet closed n → BreaksRule before (packet ++ more) closed n
breaks_more before packet more closed n foreign early (broken_rules.version b) = broken_rules.version (λ k. b (subst IsOwn (same_header packet more foreign) k))
breaks_more before packet more closed n foreign early (broken_rules.filler is b) = broken_rules.filler ((stays packet more foreign.framed).opaque ∙ is) (λ k. b ((same_filler packet more foreign).0 k))
breaks_more before packet more closed n foreign early (broken_rules.body b) = broken_rules.body (λ (p, reads). b (p, reads_less packet more p foreign reads))
breaks_more before packet more closed n foreign early (broken_rules.start p reads b) = broken_rules.start p (reads_more packet more p foreign reads) b
breaks_more before packet more closed n foreign early (broken_rules.channels p reads b) = broken_rules.channels p (reads_more packet more p foreign reads) b
breaks_more before packet more closed n foreign early (broken_rules.sequence p reads b) = broken_rules.sequence p (reads_more packet more p foreign reads) b
breaks_more before packet more closed n foreign early (broken_rules.counts p reads b) = broken_rules.counts p (reads_more packet more p foreign reads) b
breaks_more before packet more closed n foreign early (broken_rules.index p reads b) = broken_rules.index p (reads_more packet more p foreign reads) b
breaks_more before packet more closed n foreign early (broken_rules.unclosed p reads i o) = broken_rules.unclosed p (reads_more packet more p foreign reads) i o
breaks_more before packet more closed n foreign early (broken_rules.counters p reads b) = broken_rules.counters p (reads_more packet more p foreign reads) b
breaks_more before packet more closed n foreign early (broken_rules.events p reads b) = broken_rules.events p (reads_more packet more p foreign reads) b
breaks_more before packet more closed n foreign early (broken_rules.reports p loss reads is b) = absurd (omega (arith, early))

pub breaks_less : (before : List Packet) (packet more : List ℕ) (closed : Bool) (n : ℕ) → IsForeignPacket packet → BreaksRule before (packet ++ more) closed n → (n ≡ 11) ⊎ BreaksRule before packet closed n
breaks_less before packet more closed n foreign (broken_rules.version b) = inr (broken_rules.version (λ k. b (subst IsOwn (sym (same_header packet more foreign)) k)))
breaks_less before packet more closed n foreign (broken_rules.filler is b) = inr (broken_rules.filler (sym (stays packet more foreign.framed).opaque ∙ is) (λ k. b ((same_filler packet more foreign).1 k)))
breaks_less before packet more closed n foreign (broken_rules.body b) = inr (broken_rules.body (λ (p, reads). b (p, reads_more packet more p foreign reads)))
breaks_less before packet more closed n foreign (broken_rules.start p reads b) = inr (broken_rules.start p (reads_less packet more p foreign reads) b)
breaks_less before packet more closed n foreign (broken_rules.channels p reads b) = inr (broken_rules.channels p (reads_less packet more p foreign reads) b)
breaks_less before packet more closed n foreign (broken_rules.sequence p reads b) = inr (broken_rules.sequence p (reads_less packet more p foreign reads) b)
breaks_less before packet more closed n foreign (broken_rules.counts p reads b) = inr (broken_rules.counts p (reads_less packet more p foreign reads) b)
breaks_less before packet more closed n foreign (broken_rules.index p reads b) = inr (broken_rules.index p (reads_less packet more p foreign reads) b)
breaks_less before packet more closed n foreign (broken_rules.unclosed p reads i o) = inr (broken_rules.unclosed p (reads_less packet more p foreign reads) i o)
breaks_less before packet more closed n foreign (broken_rules.counters p reads b) = inr (broken_rules.counters p (reads_less packet more p foreign reads) b)
breaks_less before packet more closed n foreign (broken_rules.events p reads b) = inr (broken_rules.events p (reads_less packet more p foreign reads) b)
breaks_less before packet more closed n foreign (broken_rules.reports p loss reads is b) = inl refl

-- ---- the end

-- a packet breaks a rule
pub broken_at_fault : (closed : Bool) (at : FirstFault) (bytes : List ℕ) → BreaksAt closed at bytes → IsAtFault bytes closed at.offset at.fault
broken_at_fault closed at bytes b = subst (λ (f : FirstFault). IsAtFault bytes closed f.offset f.fault) (sym b.at_is) (record {
  packets = b.packets;
  rest = b.packet ++ b.more;
  bytes_are = b.bytes_are;
  offset_is = refl;
  strict = b.keep.strict;
  answered = (report_answered_on b.packets b.packet b.more b.foreign).0 b.answered;
  unclosed = b.keep.unclosed;
  wrong = broken_rules.rule (subst IsForeignPacket (sym (first_again b.packet b.more b.foreign)) b.foreign) (broken_here closed at bytes b) (least_here closed at bytes b);
})

-- what stands after packets that keep the rules has another fault
pub fault_at_fault : (closed : Bool) (tracks : Tracks) (before rest : List ℕ) (fault : FileFault) (goes : KeepsRulesSoFar closed tracks before) → (0 < length rest) ⊎ (length before ≡ 0) → HasFault rest fault
    → IsReportAnswered goes.packets rest → IsAtFault (before ++ rest) closed (length before) fault
fault_at_fault closed tracks before rest fault goes some has answered = record {
  packets = goes.packets;
  rest = rest;
  bytes_are = ap (λ (l : List ℕ). l ++ rest) goes.bytes_are;
  offset_is = ap length goes.bytes_are;
  strict = goes.keep.strict;
  answered = answered;
  unclosed = goes.keep.unclosed;
  wrong = broken_rules.packet (elim some [ inl more ↦ inl more | inr none ↦ inr (no_packets goes.packets (sym (ap length goes.bytes_are) ∙ none)) ]) has;
}
  where
    no_packets : (packets : List Packet) → length (file_bytes packets) ≡ 0 → length packets ≡ 0
    no_packets [] none = refl
    no_packets (p ∷ ps) none = absurd (omega (arith, none, packet-length p, length-append (packet_bytes p) (file_bytes ps)))

-- the report that stands last is not answered
pub report_at_fault : (closed : Bool) (packets : List Packet) (rest : List ℕ) → KeepRules closed packets → (IsReportAnswered packets rest → ⊥)
    → IsAtFault (file_bytes packets ++ rest) closed (unanswered_at packets).offset (Rule 11)
report_at_fault closed packets rest keep none =
    let w = pending packets rest keep.strict none in
    let whole = packet_foreign w.packet w.may.fits in
    let front = pending_keep closed packets rest w keep in
    record {
      packets = w.front;
      rest = packet_bytes w.packet ++ rest;
      bytes_are = pending_bytes (file_bytes packets) packets rest w refl;
      offset_is = pending_place packets rest w;
      strict = front.strict;
      answered = pending_quiet packets rest w (λ loss. IsFollowedByFlagged loss (packet_bytes w.packet ++ rest));
      unclosed = front.unclosed;
      wrong = broken_rules.rule (subst IsForeignPacket (sym (first_again (packet_bytes w.packet) rest whole)) whole) (pending_breaks closed packets rest w) (pending_least closed packets rest w);
    }

pub unanswered_at_fault : (closed : Bool) (tracks : Tracks) (before rest : List ℕ) (goes : KeepsRulesSoFar closed tracks before) → (IsReportAnswered goes.packets rest → ⊥)
    → IsAtFault (before ++ rest) closed (unanswered_at goes.packets).offset (Rule 11)
unanswered_at_fault closed tracks before rest goes none =
    subst (λ (l : List ℕ). IsAtFault (l ++ rest) closed (unanswered_at goes.packets).offset (Rule 11)) (sym goes.bytes_are) (report_at_fault closed goes.packets rest goes.keep none)

-- at the end of a file too
pub unanswered_at_end : (closed : Bool) (tracks : Tracks) (bytes : List ℕ) (goes : KeepsRulesSoFar closed tracks bytes) → is_some (last_report goes.packets) ≡ true → IsAtFault bytes closed (unanswered_at goes.packets).offset (Rule 11)
unanswered_at_end closed tracks bytes goes some =
    subst (λ (l : List ℕ). IsAtFault l closed (unanswered_at goes.packets).offset (Rule 11)) (append-nil bytes)
    (unanswered_at_fault closed tracks bytes [] goes (λ answered. is_none (last_report goes.packets) some (quiet_at_end (last_report goes.packets) answered)))
  where
    is_none : (o : Option LossBody) → is_some o ≡ true → o ≡ None → ⊥
    is_none None is none = cc
    is_none (Some loss) is none = cc

-- something is missing
pub missing_at_fault : (closed : Bool) (tracks : Tracks) (bytes : List ℕ) (fault : FileFault) (goes : KeepsRulesSoFar closed tracks bytes) → EndsReports goes.packets → MayMiss closed goes.packets (Some fault) → IsAtFault bytes closed (length bytes) fault
missing_at_fault closed tracks bytes fault goes quiet missing = record {
  packets = goes.packets;
  rest = [];
  bytes_are = goes.bytes_are ∙ sym (append-nil (file_bytes goes.packets));
  offset_is = ap length goes.bytes_are;
  strict = goes.keep.strict;
  answered = no_report (last_report goes.packets) (λ loss. IsFollowedByFlagged loss []) quiet;
  unclosed = goes.keep.unclosed;
  wrong = missing;
}

-- nothing is missing
pub nothing_missing : (closed : Bool) (tracks : Tracks) (bytes : List ℕ) (goes : KeepsRulesSoFar closed tracks bytes) → EndsReports goes.packets → MayMiss closed goes.packets None → SaysClosed bytes closed
nothing_missing closed tracks bytes goes quiet (some, same, ends) =
    let reported = begins goes.packets goes.keep.strict (omega (arith, some)) in
    (reported.0, file_entries goes.packets, (goes.packets, goes.bytes_are, record { file = record { each = goes.keep.strict; start = some; index = ends; reports = quiet }; setup_is = reported.1; entries_are = λ channel. refl; closed_is = same }))
