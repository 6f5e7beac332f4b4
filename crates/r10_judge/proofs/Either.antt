-- Under its directory entry a file is at fault, or it is strict with that closing: it can't be neither.
use Rattle.std.proofs.Common.{◌≡◌, ℕ, zero, suc, ◌<◌, ◌≤◌, inl, inr, Bool, true, false, List, [], ◌∷◌, ◌++◌, length, Option, Some, None, IfSome, refl, subst, sym, ap, ◌∙◌, arith, append_assoc, true≢false}
use Rattle.std.proofs.lemmas.Bool.{cases_lt}
use Rattle.std.proofs.lemmas.List.{append-nil, length-append}
use Rattle.r10_indexbody.specs.declared.loss.LossBody.{LossBody}
use Rattle.r10_packet.specs.Framing.{has_data_checksum, framing_fault}
use Rattle.r10_packet.specs.declared.fault.PacketFault.{PacketFault}
use Rattle.r10_body.proofs.Lone.{packet-length}
use Rattle.r10_body.specs.Foreign.{opaque_at, IsForeignPacket}
use Rattle.r10_body.specs.Packets.{Packet, packet_bytes, file_bytes, file_entries}
use Rattle.r10_body.specs.Rules.{EachFollows, MayFollow, EndsIndex, EndsReports, IsGapTold, IsSoundReport, has_whole_index, is_index, is_closed_file, last_report, report_of}
use Rattle.r10_body.specs.Faults.{HasFault, IsFollowedByFlagged, IsReportAnswered, ReadsPacket, BreaksRule, IsWrongHere, IsAtFault, first_packet}
use Rattle.r10_body.specs.Faults as broken_rules
use Rattle.r10_body.specs.declared.fault.FileFault.{FileFault}
use Rattle.r10_body.specs.declared.fault.FileFault.TheVariants.{Truncated, DataSum, Body, Rule}
use Rattle.r10_packet_rules.specs.Tracks.{named}
use Rattle.r10_packet_rules.proofs.Faults.{framing_is}
use Rattle.r10_packet_rules.proofs.Fronts.{first_joined, is_foreign}
use Rattle.r10_body.proofs.Indexes.{counted, counted_no, not_closed, whole_closed}
use Rattle.r10_body.proofs.Lengths.{last_with}
use Rattle.r10_body.proofs.Reporting.{report_is}
use Rattle.r10_body.proofs.Rules.{follows_more, bytes_more}
use Rattle.r10_judge.specs.Judged.{KeepRules, SaysClosed}
use Rattle.r10_judge.proofs.Answering.{quiet_at_end, reads_retold, told_packet}
use Rattle.r10_judge.proofs.Judging.{begins, behind}

-- ---- what stands after packets that keep the rules

-- nothing is wrong there
abbrev NothingWrong : Bool → List Packet → List ℕ → Type 0
NothingWrong closed before rest = (fault : FileFault) → IsWrongHere before rest closed fault → ⊥

-- where no rule is the least that is broken, none is broken
at_least : (m k : ℕ) → (k < m → ⊥) → m ≤ k
at_least m k none = elim (cases_lt k m) [ inl lower ↦ absurd (none lower) | inr upper ↦ upper ]

none_below : (before : List Packet) (rest : List ℕ) (closed : Bool) (n m : ℕ) → IsForeignPacket (first_packet rest) → NothingWrong closed before rest → m < n → BreaksRule before rest closed m → ⊥
none_below before rest closed zero m foreign right less breaks = omega (arith, less)
none_below before rest closed (suc n) m foreign right less breaks = elim (cases_lt m n) [
  | inl under ↦ none_below before rest closed n m foreign right under breaks
  | inr over ↦ right (Rule m) (broken_rules.rule foreign breaks (λ k other. at_least m k (λ lower. none_below before rest closed n k foreign right (omega (arith, lower, less)) other)))
]

no_rule : (before : List Packet) (rest : List ℕ) (closed : Bool) (m : ℕ) → IsForeignPacket (first_packet rest) → NothingWrong closed before rest → BreaksRule before rest closed m → ⊥
no_rule before rest closed m foreign right breaks = none_below before rest closed (suc m) m foreign right (omega arith) breaks

-- a packet of any recorder stands first there
framed : (before : List Packet) (rest : List ℕ) (closed : Bool) → 0 < length rest → NothingWrong closed before rest → framing_fault rest ≡ None
framed before rest closed some right = by (framing_fault rest) refl where
  by : (o : Option PacketFault) → framing_fault rest ≡ o → framing_fault rest ≡ None
  by None is = is
  by (Some fault) is = absurd (right (named fault) (broken_rules.packet (inl some) (framing_is rest fault is)))

first_foreign : (before : List Packet) (rest : List ℕ) (closed : Bool) → 0 < length rest → NothingWrong closed before rest → (IsForeignPacket (first_packet rest) → ⊥) → ⊥
first_foreign before rest closed some right none = by (opaque_at rest) (has_data_checksum rest) refl refl where
  sound : framing_fault rest ≡ None
  sound = framed before rest closed some right

  by : (opaque sum : Bool) → opaque_at rest ≡ opaque → has_data_checksum rest ≡ sum → ⊥
  by true sum is reported = none (is_foreign rest sound (λ clear. absurd (true≢false (sym is ∙ clear))))
  by false false is reported = right DataSum (broken_rules.packet (inl some) (sound, is, reported))
  by false true is reported = right Body (broken_rules.packet (inl some) (sound, is, reported, λ body. none (is_foreign rest sound (λ _. (reported, body)))))

-- ---- packet by packet

-- this packet may come next, also where the directory entry is unclosed
abbrev MayStand : Bool → List Packet → Packet → Type 0
MayStand closed before p = MayFollow before p × (closed ≡ false → is_index p ≡ false)

not_here : (before : List Packet) (rest : List ℕ) (closed : Bool) (p : Packet) → ReadsPacket rest p → ((m : ℕ) → BreaksRule before rest closed m → ⊥) → closed ≡ false → is_index p ≡ false
not_here before rest closed p reads right open_file = by (is_index p) refl where
  by : (b : Bool) → is_index p ≡ b → is_index p ≡ false
  by false is = is
  by true is = absurd (right 8 (broken_rules.unclosed p reads is open_file))

-- what it reports is answered
abbrev Answers : Packet → List ℕ → Type 0
Answers p rest = IfSome (report_of p) (λ loss. IsFollowedByFlagged loss (behind rest))

may_stand : (before : List Packet) (rest : List ℕ) (closed : Bool) (p : Packet) → ReadsPacket rest p → IsGapTold (last_report before) p → ((m : ℕ) → BreaksRule before rest closed m → ⊥) → (MayStand closed before p → Answers p rest → ⊥) → ⊥
may_stand before rest closed p reads reported right none =
    right 4 (broken_rules.start p reads (λ start. right 5 (broken_rules.channels p reads (λ channels. right 6 (broken_rules.sequence p reads (λ sequence. right 7 (broken_rules.counts p reads (λ counts.
    right 8 (broken_rules.index p reads (λ index. right 9 (broken_rules.counters p reads (λ counters. right 10 (broken_rules.events p reads (λ events. on_reports (report_of p) refl (λ sound answered.
    none (record { fits = reads.0; checksums = reads.1; start = start; channels = channels; sequence = sequence; counts = counts; index = index; counters = counters; events = events; reports = (reported, sound) }, not_here before rest closed p reads right)
    answered)))))))))))))))
  where
    on_reports : (o : Option LossBody) → report_of p ≡ o → (IfSome o IsSoundReport → IfSome o (λ loss. IsFollowedByFlagged loss (behind rest)) → ⊥) → ⊥
    on_reports None e go = go tt tt
    on_reports (Some loss) e go = right 11 (broken_rules.reports p loss reads (report_is p loss e) (λ both. go both.0 both.1))

same_bytes : (bytes : List ℕ) (before : List Packet) (rest : List ℕ) (p : Packet) → ReadsPacket rest p → bytes ≡ file_bytes before ++ rest → bytes ≡ file_bytes (before ++ p ∷ []) ++ behind rest
same_bytes bytes before rest p reads is =
    is ∙ ap (λ (t : List ℕ). file_bytes before ++ t) (sym (first_joined rest) ∙ ap (λ (t : List ℕ). t ++ behind rest) reads.2)
    ∙ sym (append_assoc (file_bytes before) (packet_bytes p) (behind rest)) ∙ ap (λ (t : List ℕ). t ++ behind rest) (sym (bytes_more before p))

shorter : (rest : List ℕ) (p : Packet) (n : ℕ) → ReadsPacket rest p → length rest ≤ suc n → length (behind rest) ≤ n
shorter rest p n reads le =
    omega (arith, le, ap (λ (t : List ℕ). length t) (first_joined rest), length-append (first_packet rest) (behind rest), ap (λ (t : List ℕ). length t) reads.2, packet-length p)

keep_more : (closed : Bool) (before : List Packet) (p : Packet) → KeepRules closed before → MayStand closed before p → KeepRules closed (before ++ p ∷ [])
keep_more closed before p keep may = record {
  strict = follows_more [] before p keep.strict may.0;
  unclosed = λ open_file. omega (arith, counted is_index before p, keep.unclosed open_file, counted_no is_index p (may.1 open_file));
}

-- ---- at the end

says : (bytes : List ℕ) (packets : List Packet) (closed : Bool) → KeepRules closed packets → bytes ≡ file_bytes packets → 2 ≤ length packets → is_closed_file packets ≡ closed → EndsIndex packets → EndsReports packets → SaysClosed bytes closed
says bytes packets closed keep is two same ends quiet =
    let reported = begins packets keep.strict (omega (arith, two)) in
    (reported.0, file_entries packets, (packets, is, record { file = record { each = keep.strict; start = two; index = ends; reports = quiet }; setup_is = reported.1; entries_are = λ channel. refl; closed_is = same }))

whole : (bytes : List ℕ) (packets : List Packet) (closed : Bool) → KeepRules closed packets → bytes ≡ file_bytes packets → EndsReports packets → 2 ≤ length packets → NothingWrong closed packets [] → (SaysClosed bytes closed → ⊥) → ⊥
whole bytes packets false keep is quiet two right none = none (says bytes packets false keep is two (not_closed packets (keep.unclosed refl)) (λ _. keep.unclosed refl) quiet)
whole bytes packets true keep is quiet two right none = by (has_whole_index packets) refl where
  by : (b : Bool) → has_whole_index packets ≡ b → ⊥
  by true shut = none (says bytes packets true keep is two (whole_closed packets shut) (λ open_end. absurd (true≢false (sym shut ∙ open_end))) quiet)
  by false open_end = right (Rule 8) (broken_rules.no_index refl two refl open_end)

ended : (bytes : List ℕ) (packets : List Packet) (closed : Bool) → KeepRules closed packets → bytes ≡ file_bytes packets → EndsReports packets → NothingWrong closed packets [] → (SaysClosed bytes closed → ⊥) → ⊥
ended bytes packets closed keep is quiet right none = elim (cases_lt (length packets) 2) [
  | inr two ↦ whole bytes packets closed keep is quiet two right none
  | inl few ↦
      elim (cases_lt (length packets) 1) [
        | inl empty ↦ right Truncated (broken_rules.packet (inr (omega (arith, empty))) refl)
        | inr one ↦ right (Rule 4) (broken_rules.no_time refl (omega (arith, few, one)))
      ]
]

-- ---- all of it

none_wrong : (bytes : List ℕ) (closed : Bool) (before : List Packet) (rest : List ℕ) → ((offset : ℕ) (fault : FileFault) → IsAtFault bytes closed offset fault → ⊥) → KeepRules closed before → IsReportAnswered before rest
    → bytes ≡ file_bytes before ++ rest → NothingWrong closed before rest
none_wrong bytes closed before rest right keep answered is =
    λ fault wrong. right (length (file_bytes before)) fault (record { packets = before; rest = rest; bytes_are = is; offset_is = refl; strict = keep.strict; answered = answered; unclosed = keep.unclosed; wrong = wrong })

-- a packet of any recorder that stands first there is this recorder's, and may stand there
may_come : (before : List Packet) (rest : List ℕ) (closed : Bool) → EachFollows [] before → IsReportAnswered before rest → IsForeignPacket (first_packet rest) → NothingWrong closed before rest
    → ((p : Packet) → ReadsPacket rest p → MayStand closed before p → Answers p rest → ⊥) → ⊥
may_come before rest closed each answered foreign right none =
    no_rule before rest closed 3 foreign right (broken_rules.body (λ (p, reads).
    let reported = told_packet before rest p each reads answered in
    let own = reads_retold rest p reported.0 reported.1.retold reported.1.fits reads in
    may_stand before rest closed reported.0 own reported.1.reported (λ m. no_rule before rest closed m foreign right) (none reported.0 own)))

walk : (bytes : List ℕ) (closed : Bool) (n : ℕ) (before : List Packet) (rest : List ℕ) → ((offset : ℕ) (fault : FileFault) → IsAtFault bytes closed offset fault → ⊥) → (SaysClosed bytes closed → ⊥)
    → KeepRules closed before → IsReportAnswered before rest → bytes ≡ file_bytes before ++ rest → length rest ≤ n → ⊥
walk bytes closed n before [] right none keep answered is le =
    ended bytes before closed keep (is ∙ append-nil (file_bytes before)) (quiet_at_end (last_report before) answered) (none_wrong bytes closed before [] right keep answered is) none
walk bytes closed zero before (x ∷ xs) right none keep answered is le = omega (arith, le)
walk bytes closed (suc n) before (x ∷ xs) right none keep answered is le =
    let rest : List ℕ = x ∷ xs in
    let sound : NothingWrong closed before rest = none_wrong bytes closed before rest right keep answered is in
    first_foreign before rest closed (omega arith) sound (λ foreign. may_come before rest closed keep.strict answered foreign sound (λ p reads may answers.
    walk bytes closed n (before ++ p ∷ []) (behind rest) right none (keep_more closed before p keep may)
    (subst (λ (o : Option LossBody). IfSome o (λ loss. IsFollowedByFlagged loss (behind rest))) (sym (last_with None before p)) answers)
    (same_bytes bytes before rest p reads is) (shorter rest p n reads le)))

pub either : (bytes : List ℕ) (closed : Bool) → ((offset : ℕ) (fault : FileFault) → IsAtFault bytes closed offset fault → ⊥) → (SaysClosed bytes closed → ⊥) → ⊥
either bytes closed right none = walk bytes closed (length bytes) [] bytes right none (record { strict = tt; unclosed = λ _. refl }) tt refl (omega arith)
