-- Reports, and what answers them.
use Rattle.std.proofs.Common.{◌≡◌, ◌↔◌, ℕ, ◌+◌, ◌/◌, ◌%◌, ◌<◌, ◌^◌, Bool, true, false, List, [], ◌∷◌, ◌++◌, drop, Option, Some, None, IfSome, refl, sym, ap, ◌∙◌, subst, arith, append_assoc}
use Rattle.std.proofs.lemmas.Bool.{eq-eqb}
use Rattle.std.proofs.lemmas.List.{append_cancel_left}
use Rattle.r10_count.specs.Bytes.{bit_of, flag_at}
use Rattle.r10_indexbody.specs.declared.loss.LossBody.{LossBody}
use Rattle.r10_packet.specs.Framing.{framing_fault, header_at}
use Rattle.r10_packet.specs.declared.fault.PacketFault.{PacketFault}
use Rattle.r10_packet.specs.declared.fault.PacketFault.TheVariants as packet_faults
use Rattle.r10_packet.specs.declared.header.Header.{Header}
use Rattle.r10_body.specs.Faults.{HasFault, IsFollowedByFlagged, IsReportAnswered, ReadsPacket}
use Rattle.r10_body.specs.declared.fault.FileFault.{FileFault}
use Rattle.r10_body.specs.declared.fault.FileFault.TheVariants.{Truncated, Sync, HeaderSum, Length, DataSum, Body, Rule}
use Rattle.r10_body.specs.Foreign.{IsForeignPacket}
use Rattle.r10_body.specs.Gaps.{gap_of_flag, is_gap}
use Rattle.r10_body.specs.Packets.{Packet, FitsPacket, flagged, packet_bytes, file_bytes}
use Rattle.r10_body.specs.Rules.{EachFollows, IsGapTold, KeepsChecksums, MayFollow, last_report, report_from, report_of}
use Rattle.r10_body.specs.declared.gap.Gap.TheVariants.{Lost}
use Rattle.r10_body.proofs.Gaps.{flag_told, flag_sound, none_told}
use Rattle.r10_body.proofs.Injective.{same_bytes}
use Rattle.r10_body.proofs.Lengths.{last_with}
use Rattle.r10_body.proofs.Reporting.{ends_with, report_fits}
use Rattle.r10_body.proofs.Retold.{IsRetold, retold_checksums, retold_fits}
use Rattle.r10_packet_rules.proofs.Fronts.{first_joined, stays}
use Rattle.r10_packet_rules.proofs.Spelled.{framed}
use Rattle.r10_packet_rules.proofs.OneWayApart.{first_again}
use Rattle.r10_packet_rules.proofs.Written.{packet_foreign}

-- ---- what a header says

pub own_flag : (b : Bool) (check : ℕ) → check < 4 → bit_of 4 (flag_at 4 b + check) ≡ b
own_flag true check lt = let one : (flag_at 4 true + check) / 2 ^ 4 % 2 ≡ 1 = omega arith in eq-eqb ((flag_at 4 true + check) / 2 ^ 4 % 2) 1 one
own_flag false check lt = let none : (flag_at 4 false + check) / 2 ^ 4 % 2 ≡ 0 = omega arith in rw none refl

-- the header of a packet that is read tells its channel and its flag
pub record IsSeen (bytes : List ℕ) (p : Packet) : Type 0 where
  pub sound : framing_fault bytes ≡ None
  pub channel : (header_at bytes).channel ≡ p.channel
  pub flag : bit_of 4 (header_at bytes).flags ≡ flagged p

pub seen : (bytes : List ℕ) (p : Packet) → ReadsPacket bytes p → IsSeen bytes p
seen bytes p reads =
    let is = framed bytes p reads in
    record { sound = is.sound; channel = ap (λ (h : Header). h.channel) is.header; flag = ap (λ (h : Header). bit_of 4 h.flags) is.header ∙ own_flag (flagged p) p.check reads.0.check }

-- what stands after the packet that stands first
pub reads_behind : (packet more : List ℕ) → IsForeignPacket packet → drop (header_at (packet ++ more)).packet_len (packet ++ more) ≡ more
reads_behind packet more foreign =
    let bytes : List ℕ = packet ++ more in
    append_cancel_left packet (drop (header_at bytes).packet_len bytes) more
    (ap (λ (l : List ℕ). l ++ drop (header_at bytes).packet_len bytes) (sym (first_again packet more foreign)) ∙ first_joined bytes)

-- a packet's bytes, whatever stands after them, are read as that packet
pub reads_first : (p : Packet) (rest : List ℕ) → FitsPacket p × KeepsChecksums p → ReadsPacket (packet_bytes p ++ rest) p
reads_first p rest (fits, sums) = (fits, sums, first_again (packet_bytes p) rest (packet_foreign p fits))

-- ---- answers

-- what is framed answers a report whatever stands after it, or not
answered_framed : (loss : LossBody) (bytes more : List ℕ) → framing_fault bytes ≡ None → IsFollowedByFlagged loss bytes ↔ IsFollowedByFlagged loss (bytes ++ more)
answered_framed loss bytes more sound =
    let s = stays bytes more sound in (
      λ is. (s.framed, ap (λ (h : Header). h.channel) s.header ∙ is.1, ap (λ (h : Header). bit_of 4 h.flags) s.header ∙ is.2),
      λ is. (sound, ap (λ (h : Header). h.channel) (sym s.header) ∙ is.1, ap (λ (h : Header). bit_of 4 h.flags) (sym s.header) ∙ is.2),
    )

pub answered_on : (loss : LossBody) (packet more : List ℕ) → IsForeignPacket packet → IsFollowedByFlagged loss packet ↔ IsFollowedByFlagged loss (packet ++ more)
answered_on loss packet more foreign = answered_framed loss packet more foreign.framed

-- what isn't framed answers none
no_answer : (loss : LossBody) (bytes : List ℕ) (fault : PacketFault) → framing_fault bytes ≡ Some fault → IsFollowedByFlagged loss bytes → ⊥
no_answer loss bytes fault is answered = (let no : Some fault ≡ None = sym is ∙ answered.0 in cc)

neither : (loss : LossBody) (bytes more : List ℕ) (f g : PacketFault) → framing_fault bytes ≡ Some f → framing_fault (bytes ++ more) ≡ Some g → IsFollowedByFlagged loss bytes ↔ IsFollowedByFlagged loss (bytes ++ more)
neither loss bytes more f g here there = (λ is. absurd (no_answer loss bytes f here is), λ is. absurd (no_answer loss (bytes ++ more) g there is))

-- what has a fault, and has it whatever stands after it
faulty_answer : (loss : LossBody) (bytes more : List ℕ) (fault : FileFault) → HasFault bytes fault → HasFault (bytes ++ more) fault → IsFollowedByFlagged loss bytes ↔ IsFollowedByFlagged loss (bytes ++ more)
faulty_answer loss bytes more Truncated here there = neither loss bytes more packet_faults.Truncated packet_faults.Truncated here there
faulty_answer loss bytes more Sync here there = neither loss bytes more packet_faults.Sync packet_faults.Sync here there
faulty_answer loss bytes more HeaderSum here there = neither loss bytes more packet_faults.HeaderSum packet_faults.HeaderSum here there
faulty_answer loss bytes more Length here there = neither loss bytes more packet_faults.Length packet_faults.Length here there
faulty_answer loss bytes more DataSum here there = answered_framed loss bytes more here.0
faulty_answer loss bytes more Body here there = answered_framed loss bytes more here.0
faulty_answer loss bytes more (Rule n) here there = absurd here

faulty_by : (o : Option LossBody) (bytes more : List ℕ) (fault : FileFault) → HasFault bytes fault → HasFault (bytes ++ more) fault → IfSome o (λ loss. IsFollowedByFlagged loss bytes) ↔ IfSome o (λ loss. IsFollowedByFlagged loss (bytes ++ more))
faulty_by None bytes more fault here there = (λ _. tt, λ _. tt)
faulty_by (Some loss) bytes more fault here there = faulty_answer loss bytes more fault here there

pub report_answered_faulty : (packets : List Packet) (bytes more : List ℕ) (fault : FileFault) → HasFault bytes fault → HasFault (bytes ++ more) fault → IsReportAnswered packets bytes ↔ IsReportAnswered packets (bytes ++ more)
report_answered_faulty packets bytes more fault here there = faulty_by (last_report packets) bytes more fault here there

by_report : (o : Option LossBody) (packet more : List ℕ) → IsForeignPacket packet → IfSome o (λ loss. IsFollowedByFlagged loss packet) ↔ IfSome o (λ loss. IsFollowedByFlagged loss (packet ++ more))
by_report None packet more foreign = (λ _. tt, λ _. tt)
by_report (Some loss) packet more foreign = answered_on loss packet more foreign

pub report_answered_on : (packets : List Packet) (packet more : List ℕ) → IsForeignPacket packet → IsReportAnswered packets packet ↔ IsReportAnswered packets (packet ++ more)
report_answered_on packets packet more foreign = by_report (last_report packets) packet more foreign

-- the packet that follows a report answers it
told_answers : (loss : LossBody) (bytes : List ℕ) (p : Packet) → ReadsPacket bytes p → IsGapTold (Some loss) p → IsFollowedByFlagged loss bytes
told_answers loss bytes p reads reported =
    let s = seen bytes p reads in
    (s.sound, s.channel ∙ reported.0, s.flag ∙ ap is_gap reported.1)

by_told : (o : Option LossBody) (bytes : List ℕ) (p : Packet) → ReadsPacket bytes p → IsGapTold o p → IfSome o (λ loss. IsFollowedByFlagged loss bytes)
by_told None bytes p reads reported = tt
by_told (Some loss) bytes p reads reported = told_answers loss bytes p reads reported

pub follower_answers : (before : List Packet) (bytes : List ℕ) (p : Packet) → ReadsPacket bytes p → MayFollow before p → IsReportAnswered before bytes
follower_answers before bytes p reads may = by_told (last_report before) bytes p reads may.reports.0

-- where a packet stands among others that follow it, what it reports is answered
pub answered_behind : (before more : List Packet) (p : Packet) (rest : List ℕ) → EachFollows (before ++ p ∷ []) more → IfSome (report_from (report_of p) more) (λ loss. IsFollowedByFlagged loss rest)
    → IfSome (report_of p) (λ loss. IsFollowedByFlagged loss (file_bytes more ++ rest))
answered_behind before [] p rest each last = last
answered_behind before (q ∷ qs) p rest each last =
    let bytes : List ℕ = packet_bytes q ++ (file_bytes qs ++ rest) in
    let joined : (packet_bytes q ++ file_bytes qs) ++ rest ≡ bytes = append_assoc (packet_bytes q) (file_bytes qs) rest in
    let answers : IsReportAnswered (before ++ p ∷ []) bytes = follower_answers (before ++ p ∷ []) bytes q (reads_first q (file_bytes qs ++ rest) (each.0.fits, each.0.checksums)) each.0 in
    subst (λ (l : List ℕ). IfSome (report_of p) (λ loss. IsFollowedByFlagged loss l)) (sym joined)
    (subst (λ (o : Option LossBody). IfSome o (λ loss. IsFollowedByFlagged loss bytes)) (last_with None before p) answers)

-- nothing answers no report
nothing_there : (loss : LossBody) → IsFollowedByFlagged loss [] → ⊥
nothing_there loss is = absurd (let none = is.0 in cc)

pub quiet_at_end : (o : Option LossBody) → IfSome o (λ loss. IsFollowedByFlagged loss []) → o ≡ None
quiet_at_end None answered = refl
quiet_at_end (Some loss) answered = absurd (nothing_there loss answered)

pub no_report : (o : Option LossBody) (P : LossBody → Type 0) → o ≡ None → IfSome o P
no_report None P none = tt
no_report (Some loss) P none = absurd (let no : Some loss ≡ None = none in cc)

-- ---- the packet as it is reported

-- a packet that is read is one with the gap that the report before it tells
pub record IsToldAs (before : List Packet) (p q : Packet) : Type 0 where
  pub retold : IsRetold p q
  pub fits : FitsPacket q
  pub reported : IsGapTold (last_report before) q

told_by : (o : Option LossBody) (before : List Packet) (bytes : List ℕ) (p : Packet) → o ≡ last_report before → EachFollows [] before → ReadsPacket bytes p → IfSome o (λ loss. IsFollowedByFlagged loss bytes)
    → (q : Packet) × IsRetold p q × FitsPacket q × IsGapTold o q
told_by None before bytes p is each reads answered =
    let q : Packet = record p { gap = gap_of_flag (flagged p) } in
    let same : IsRetold p q = (refl, sym (flag_told (flagged p))) in
    (q, same, retold_fits p q same (flag_sound (flagged p)) reads.0, none_told (flagged p))
told_by (Some loss) before bytes p is each reads answered =
    let ends = ends_with [] before loss each (sym is) in
    let q : Packet = record p { gap = Lost loss.lost } in
    let s = seen bytes p reads in
    let same : IsRetold p q = (refl, sym s.flag ∙ answered.2) in
    let sound = report_fits ends.front ends.packet loss ends.reports ends.may in
    (q, same, retold_fits p q same sound reads.0, (sym s.channel ∙ answered.1, refl))

pub told_packet : (before : List Packet) (bytes : List ℕ) (p : Packet) → EachFollows [] before → ReadsPacket bytes p → IsReportAnswered before bytes → (q : Packet) × IsToldAs before p q
told_packet before bytes p each reads answered =
    let found = told_by (last_report before) before bytes p refl each reads answered in
    (found.0, record { retold = found.1; fits = found.2; reported = found.3 })

-- it is read from the same bytes
pub reads_retold : (bytes : List ℕ) (p q : Packet) → IsRetold p q → FitsPacket q → ReadsPacket bytes p → ReadsPacket bytes q
reads_retold bytes p q same fits reads = (fits, retold_checksums p q same reads.1, reads.2 ∙ same_bytes p q same.0 same.1)
