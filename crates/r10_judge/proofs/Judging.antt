-- What a judge knows after one packet more, and at the end of a file.
use Rattle.std.proofs.Common.{◌≡◌, ◌↔◌, ℕ, ◌+◌, ◌-◌, ◌<◌, ◌≤◌, Bool, true, false, IsTrue, ◌==◌, List, [], ◌∷◌, ◌++◌, length, take, drop, map, Option, IfSome, Some, None, ◌⊎◌, inl, inr, min, not, is_some, true≢false, refl, sym, ap, ◌∙◌, subst, arith, append_assoc, lit≤}
use Rattle.std.proofs.Math.Seq.{take-length}
use Rattle.std.proofs.lemmas.Bool.{cases_lt}
use Rattle.std.proofs.lemmas.List.{append-nil, length-append}
use Rattle.r10_indexbody.specs.declared.loss.LossBody.{LossBody}
use Rattle.r10_packet.specs.Framing.{header_at}
use Rattle.r10_body.specs.Content.{Content, setup, report, type_of}
use Rattle.r10_body.specs.Files.{IsStrict}
use Rattle.r10_body.specs.Foreign.{IsForeignPacket}
use Rattle.r10_body.specs.Packets.{Packet, FitsPacket, packet_bytes, file_bytes, file_entries}
use Rattle.r10_body.specs.Rules.{EachFollows, IsSoundReport, MayFollow, IsFile, KeepsChecksums, is_index, is_closed_file, last_report, report_from, report_of}
use Rattle.r10_body.specs.Faults.{IsFollowedByFlagged, IsReportAnswered, ReadsPacket, BreaksRule, first_packet}
use Rattle.r10_body.specs.Faults as broken_rules
use Rattle.r10_body.specs.declared.fault.FileFault.TheVariants.{Rule}
use Rattle.std.specs.Prelude.{count_by}
use Rattle.r10_packet_rules.specs.declared.file.FirstFault.{FirstFault}
use Rattle.r10_packet_rules.proofs.OneWayApart.{packet_long}
use Rattle.r10_packet_rules.proofs.Written.{packet_foreign}
use Rattle.r10_body.proofs.OneMeaning.{one_list}
use Rattle.r10_body.proofs.Reporting.{ends_with, is_report, quiet_before, report_is, report_long, reports_it}
use Rattle.r10_body.proofs.Retold.{IsRetold, retold_start, retold_channels, retold_sequence, retold_counts, retold_index, retold_counters, retold_events}
use Rattle.r10_body.proofs.Rules.{follows_more, bytes_more}
use Rattle.r10_body.proofs.Indexes.{counted, counted_no}
use Rattle.r10_packet_rules.proofs.Spelled.{framed}
use Rattle.r10_file_rules.proofs.Joins.{of_bytes, retold}
use Rattle.r10_file_rules.specs.Broken.{Breaks}
use Rattle.r10_file_rules.specs.Broken as broken_later
use Rattle.r10_file_rules.specs.Tracks.{IsTracked}
use Rattle.r10_file_rules.specs.declared.tracks.Tracks.{Tracks}
use Rattle.r10_judge.specs.Judged.{KeepRules, KeepsRulesSoFar, BreaksAt, StandsAt, BreaksIn, BreaksRuleOfFileFirst, broken_rule, in_open_file, least_of_index, stopped_at, unanswered_at}
use Rattle.r10_judge.proofs.Answering.{answered_behind, answered_on, no_report, reads_behind, reads_first}
use Rattle.r10_judge.proofs.Next.{next_packet}

-- ---- one packet

-- a broken rule of a packet is one of its bytes, and the other way round but for what stands after a report
pub to_bytes : (closed : Bool) (before : List Packet) (bytes : List ℕ) (p : Packet) (n : ℕ) → ReadsPacket bytes p → BreaksIn closed before p n → BreaksRule before bytes closed n
to_bytes closed before bytes p n reads (broken_rule b) = of_bytes before bytes closed p n reads b
to_bytes closed before bytes p n reads (in_open_file index open_file) = broken_rules.unclosed p reads index open_file

pub from_bytes : (closed : Bool) (before : List Packet) (bytes : List ℕ) (p : Packet) (n : ℕ) → ReadsPacket bytes p → BreaksRule before bytes closed n → (n ≡ 11) ⊎ BreaksIn closed before p n
from_bytes closed before bytes p n reads (broken_rules.version breaks) = absurd (breaks (framed bytes p reads).keeps)
from_bytes closed before bytes p n reads (broken_rules.filler is breaks) = absurd (breaks (framed bytes p reads).filler)
from_bytes closed before bytes p n reads (broken_rules.body breaks) = absurd (breaks (p, reads))
from_bytes closed before bytes p n reads (broken_rules.start q read b) = inr (broken_rule (broken_later.start (λ k. b (retold_start before p q (retold bytes p q reads read) k))))
from_bytes closed before bytes p n reads (broken_rules.channels q read b) = inr (broken_rule (broken_later.channels (λ k. b (retold_channels before p q (retold bytes p q reads read) k))))
from_bytes closed before bytes p n reads (broken_rules.sequence q read b) = inr (broken_rule (broken_later.sequence (λ k. b (retold_sequence before p q (retold bytes p q reads read) k))))
from_bytes closed before bytes p n reads (broken_rules.counts q read b) = inr (broken_rule (broken_later.counts (λ k. b (retold_counts before p q (retold bytes p q reads read) k))))
from_bytes closed before bytes p n reads (broken_rules.index q read b) = inr (broken_rule (broken_later.index (λ k. b (retold_index before p q (retold bytes p q reads read) k))))
from_bytes closed before bytes p n reads (broken_rules.unclosed q read index open_file) =
    inr (in_open_file (subst (λ (x : Packet). IsTrue (is_index x)) (sym (retold bytes p q reads read).0) index) open_file)
from_bytes closed before bytes p n reads (broken_rules.counters q read b) = inr (broken_rule (broken_later.counters (λ k. b (retold_counters before p q (retold bytes p q reads read) k))))
from_bytes closed before bytes p n reads (broken_rules.events q read b) = inr (broken_rule (broken_later.events (λ k. b (retold_events before p q (retold bytes p q reads read) k))))
from_bytes closed before bytes p n reads (broken_rules.reports q loss read is b) = inl refl

-- no rule has a greater number
pub eleven : (closed : Bool) (before : List Packet) (p : Packet) (n : ℕ) → BreaksIn closed before p n → n ≤ 11
eleven closed before p n (broken_rule (broken_later.start b)) = lit≤ tt
eleven closed before p n (broken_rule (broken_later.channels b)) = lit≤ tt
eleven closed before p n (broken_rule (broken_later.sequence b)) = lit≤ tt
eleven closed before p n (broken_rule (broken_later.counts b)) = lit≤ tt
eleven closed before p n (broken_rule (broken_later.index b)) = lit≤ tt
eleven closed before p n (broken_rule (broken_later.counters b)) = lit≤ tt
eleven closed before p n (broken_rule (broken_later.events b)) = lit≤ tt
eleven closed before p n (broken_rule (broken_later.reports b)) = lit≤ tt
eleven closed before p n (in_open_file index open_file) = lit≤ tt

-- what may follow breaks none of the rules from 4 on
pub may_break_none : (before : List Packet) (p : Packet) (n : ℕ) → MayFollow before p → Breaks before p n → ⊥
may_break_none before p n may (broken_later.start b) = b may.start
may_break_none before p n may (broken_later.channels b) = b may.channels
may_break_none before p n may (broken_later.sequence b) = b may.sequence
may_break_none before p n may (broken_later.counts b) = b may.counts
may_break_none before p n may (broken_later.index b) = b may.index
may_break_none before p n may (broken_later.counters b) = b may.counters
may_break_none before p n may (broken_later.events b) = b may.events
may_break_none before p n may (broken_later.reports b) = b may.reports.1

pub breaks_none : (closed : Bool) (before : List Packet) (p : Packet) (n : ℕ) → MayFollow before p → (closed ≡ false → is_index p ≡ false) → BreaksIn closed before p n → ⊥
breaks_none closed before p n may unclosed (broken_rule b) = may_break_none before p n may b
breaks_none closed before p n may unclosed (in_open_file index open_file) = true≢false (sym index ∙ unclosed open_file)

-- of its bytes, whatever stands after them, no rule below that of reports
pub least_eleven : (closed : Bool) (before : List Packet) (bytes : List ℕ) (p : Packet) (n : ℕ) → ReadsPacket bytes p → MayFollow before p → (closed ≡ false → is_index p ≡ false) → BreaksRule before bytes closed n → 11 ≤ n
least_eleven closed before bytes p n reads may unclosed breaks = elim (from_bytes closed before bytes p n reads breaks) [
  | inl is ↦ omega (arith, is)
  | inr b ↦ absurd (breaks_none closed before p n may unclosed b)
]

-- what stands after it
abbrev pub behind : List ℕ → List ℕ
behind bytes = drop (header_at bytes).packet_len bytes

reported : (p q : Packet) (loss : LossBody) → IsRetold p q → q.content ≡ report loss → report_of p ≡ Some loss
reported p q loss same is = reports_it p loss (ap (λ (x : Packet). x.content) same.0 ∙ is)

-- and none at all where what it reports is answered
pub keeps_all : (closed : Bool) (before : List Packet) (bytes : List ℕ) (p : Packet) (n : ℕ) → ReadsPacket bytes p → MayFollow before p → (closed ≡ false → is_index p ≡ false)
    → IfSome (report_of p) (λ loss. IsFollowedByFlagged loss (behind bytes)) → BreaksRule before bytes closed n → ⊥
keeps_all closed before bytes p n reads may unclosed answered (broken_rules.version b) = b (framed bytes p reads).keeps
keeps_all closed before bytes p n reads may unclosed answered (broken_rules.filler is b) = b (framed bytes p reads).filler
keeps_all closed before bytes p n reads may unclosed answered (broken_rules.body b) = b (p, reads)
keeps_all closed before bytes p n reads may unclosed answered (broken_rules.start q read b) = b (retold_start before p q (retold bytes p q reads read) may.start)
keeps_all closed before bytes p n reads may unclosed answered (broken_rules.channels q read b) = b (retold_channels before p q (retold bytes p q reads read) may.channels)
keeps_all closed before bytes p n reads may unclosed answered (broken_rules.sequence q read b) = b (retold_sequence before p q (retold bytes p q reads read) may.sequence)
keeps_all closed before bytes p n reads may unclosed answered (broken_rules.counts q read b) = b (retold_counts before p q (retold bytes p q reads read) may.counts)
keeps_all closed before bytes p n reads may unclosed answered (broken_rules.index q read b) = b (retold_index before p q (retold bytes p q reads read) may.index)
keeps_all closed before bytes p n reads may unclosed answered (broken_rules.unclosed q read index open_file) =
    true≢false (sym (subst (λ (x : Packet). IsTrue (is_index x)) (sym (retold bytes p q reads read).0) index) ∙ unclosed open_file)
keeps_all closed before bytes p n reads may unclosed answered (broken_rules.counters q read b) = b (retold_counters before p q (retold bytes p q reads read) may.counters)
keeps_all closed before bytes p n reads may unclosed answered (broken_rules.events q read b) = b (retold_events before p q (retold bytes p q reads read) may.events)
keeps_all closed before bytes p n reads may unclosed answered (broken_rules.reports q loss read is b) =
    let e : report_of p ≡ Some loss = reported p q loss (retold bytes p q reads read) is in
    b (subst (λ (o : Option LossBody). IfSome o IsSoundReport) e may.reports.1, subst (λ (o : Option LossBody). IfSome o (λ l. IsFollowedByFlagged l (behind bytes))) e answered)

-- where an index packet may stand, or it is none
pub first_elsewhere : (closed : Bool) (before : List Packet) (p : Packet) (o : Option ℕ) → (IsTrue (is_index p) → closed ≡ false → ⊥) → (closed ≡ false → is_index p ≡ false) → broken_later.BreaksLaterRuleFirst before p o → BreaksRuleOfFileFirst closed before p o
first_elsewhere closed before p None none apart first = (first, apart)
first_elsewhere closed before p (Some n) none apart first = (broken_rule first.0, least)
  where
    least : (m : ℕ) → BreaksIn closed before p m → n ≤ m
    least m (broken_rule b) = first.1 m b
    least m (in_open_file index open_file) = absurd (none index open_file)

-- an index packet of an unclosed file
pub first_of_index : (closed : Bool) (before : List Packet) (p : Packet) (o : Option ℕ) → IsTrue (is_index p) → closed ≡ false → broken_later.BreaksLaterRuleFirst before p o → BreaksRuleOfFileFirst closed before p (Some (least_of_index o))
first_of_index closed before p None index open_file first = (in_open_file index open_file, least)
  where
    least : (m : ℕ) → BreaksIn closed before p m → 8 ≤ m
    least m (broken_rule b) = absurd (may_break_none before p m first b)
    least m (in_open_file i o) = lit≤ tt
first_of_index closed before p (Some n) index open_file first = by (cases_lt n 8)
  where
    by : (n < 8) ⊎ (8 ≤ n) → BreaksRuleOfFileFirst closed before p (Some (min n 8))
    by (inl less) =
        let here : min n 8 ≡ n = omega (arith, less) in
        rw here (broken_rule first.0, (λ (m : ℕ) (b : BreaksIn closed before p m). below m b))
      where
        below : (m : ℕ) → BreaksIn closed before p m → n ≤ m
        below m (broken_rule b) = first.1 m b
        below m (in_open_file i o) = omega (arith, less)
    by (inr more) =
        let here : min n 8 ≡ 8 = omega (arith, more) in
        rw here (in_open_file index open_file, (λ (m : ℕ) (b : BreaksIn closed before p m). above m b))
      where
        above : (m : ℕ) → BreaksIn closed before p m → 8 ≤ m
        above m (broken_rule b) = omega (arith, first.1 m b, more)
        above m (in_open_file i o) = lit≤ tt

-- ---- a packet more

-- after the one that breaks a rule
pub breaks_on : (closed : Bool) (at : FirstFault) (bytes more : List ℕ) → BreaksAt closed at bytes → BreaksAt closed at (bytes ++ more)
breaks_on closed at bytes more b =
    let further : (later : List ℕ) → b.packet ++ ((b.more ++ more) ++ later) ≡ b.packet ++ (b.more ++ (more ++ later)) = λ later. ap (λ (l : List ℕ). b.packet ++ l) (append_assoc b.more more later) in
    record {
      packets = b.packets;
      packet = b.packet;
      more = b.more ++ more;
      bytes_are = ap (λ (l : List ℕ). l ++ more) b.bytes_are ∙ append_assoc (file_bytes b.packets) (b.packet ++ b.more) more ∙ ap (λ (l : List ℕ). file_bytes b.packets ++ l) (append_assoc b.packet b.more more);
      keep = b.keep;
      answered = b.answered;
      foreign = b.foreign;
      number = b.number;
      at_is = b.at_is;
      broken = λ later. subst (λ (l : List ℕ). BreaksRule b.packets l closed b.number) (sym (further later)) (b.broken (more ++ later));
      least = λ later m breaks. b.least (more ++ later) m (subst (λ (l : List ℕ). BreaksRule b.packets l closed m) (further later) breaks);
    }

-- what is broken where the bytes end
pub broken_here : (closed : Bool) (at : FirstFault) (bytes : List ℕ) (b : BreaksAt closed at bytes) → BreaksRule b.packets (b.packet ++ b.more) closed b.number
broken_here closed at bytes b = subst (λ (l : List ℕ). BreaksRule b.packets (b.packet ++ l) closed b.number) (append-nil b.more) (b.broken [])

pub least_here : (closed : Bool) (at : FirstFault) (bytes : List ℕ) (b : BreaksAt closed at bytes) (m : ℕ) → BreaksRule b.packets (b.packet ++ b.more) closed m → b.number ≤ m
least_here closed at bytes b m breaks = b.least [] m (subst (λ (l : List ℕ). BreaksRule b.packets (b.packet ++ l) closed m) (sym (append-nil b.more)) breaks)

-- it breaks a rule
pub stops : (closed : Bool) (tracks : Tracks) (before packet : List ℕ) (n : ℕ) (goes : KeepsRulesSoFar closed tracks before) → IsForeignPacket packet → IsReportAnswered goes.packets packet
    → ((later : List ℕ) → BreaksRule goes.packets (packet ++ later) closed n) → ((later : List ℕ) (m : ℕ) → BreaksRule goes.packets (packet ++ later) closed m → n ≤ m) → BreaksAt closed (stopped_at goes.packets n) (before ++ packet)
stops closed tracks before packet n goes foreign answered broken least = record {
  packets = goes.packets;
  packet = packet;
  more = [];
  bytes_are = ap (λ (l : List ℕ). l ++ packet) goes.bytes_are ∙ ap (λ (l : List ℕ). file_bytes goes.packets ++ l) (sym (append-nil packet));
  keep = goes.keep;
  answered = answered;
  foreign = foreign;
  number = n;
  at_is = refl;
  broken = broken;
  least = least;
}

pub stops_at : (closed : Bool) (tracks : Tracks) (before : List ℕ) (p : Packet) (n : ℕ) (goes : KeepsRulesSoFar closed tracks before) → FitsPacket p → KeepsChecksums p → IsReportAnswered goes.packets (packet_bytes p)
    → BreaksRuleOfFileFirst closed goes.packets p (Some n) → BreaksAt closed (stopped_at goes.packets n) (before ++ packet_bytes p)
stops_at closed tracks before p n goes fits sums answered first =
    stops closed tracks before (packet_bytes p) n goes (packet_foreign p fits) answered (λ later. to_bytes closed goes.packets (packet_bytes p ++ later) p n (reads_first p later (fits, sums)) first.0) least
  where
    least : (later : List ℕ) (m : ℕ) → BreaksRule goes.packets (packet_bytes p ++ later) closed m → n ≤ m
    least later m breaks = elim (from_bytes closed goes.packets (packet_bytes p ++ later) p m (reads_first p later (fits, sums)) breaks) [
      | inl is ↦ omega (arith, is, eleven closed goes.packets p n first.0)
      | inr b ↦ first.1 m b
    ]

-- a report stands last, and what stands next is none of its answers
pub record IsPending (packets : List Packet) (rest : List ℕ) : Type 0 where
  pub front : List Packet
  pub packet : Packet
  pub loss : LossBody
  pub packets_are : packets ≡ front ++ packet ∷ []
  pub each : EachFollows [] front
  pub may : MayFollow front packet
  pub reports : report_of packet ≡ Some loss
  pub unanswered : IsFollowedByFlagged loss rest → ⊥

pending_by : (o : Option LossBody) (packets : List Packet) (rest : List ℕ) → o ≡ last_report packets → EachFollows [] packets → (IfSome o (λ loss. IsFollowedByFlagged loss rest) → ⊥) → IsPending packets rest
pending_by None packets rest is each none = absurd (none tt)
pending_by (Some loss) packets rest is each none =
    let ends = ends_with [] packets loss each (sym is) in
    record { front = ends.front; packet = ends.packet; loss = loss; packets_are = ends.packets_are; each = ends.each; may = ends.may; reports = ends.reports; unanswered = none }

pub pending : (packets : List Packet) (rest : List ℕ) → EachFollows [] packets → (IsReportAnswered packets rest → ⊥) → IsPending packets rest
pending packets rest each none = pending_by (last_report packets) packets rest refl each none

-- the report breaks rule 11, and none below it
pub pending_breaks : (closed : Bool) (packets : List Packet) (rest : List ℕ) (w : IsPending packets rest) → BreaksRule w.front (packet_bytes w.packet ++ rest) closed 11
pending_breaks closed packets rest w =
    let reads = reads_first w.packet rest (w.may.fits, w.may.checksums) in
    let there : behind (packet_bytes w.packet ++ rest) ≡ rest = reads_behind (packet_bytes w.packet) rest (packet_foreign w.packet w.may.fits) in
    broken_rules.reports w.packet w.loss reads (report_is w.packet w.loss w.reports) (λ both. w.unanswered (subst (λ (l : List ℕ). IsFollowedByFlagged w.loss l) there both.1))

pub pending_least : (closed : Bool) (packets : List Packet) (rest : List ℕ) (w : IsPending packets rest) (m : ℕ) → BreaksRule w.front (packet_bytes w.packet ++ rest) closed m → 11 ≤ m
pending_least closed packets rest w m breaks =
    least_eleven closed w.front (packet_bytes w.packet ++ rest) w.packet m (reads_first w.packet rest (w.may.fits, w.may.checksums)) w.may (λ _. (is_report w.packet w.loss w.reports).1) breaks

-- where it stands
pub pending_place : (packets : List Packet) (rest : List ℕ) (w : IsPending packets rest) → length (file_bytes packets) - 44 ≡ length (file_bytes w.front)
pending_place packets rest w =
    let long : length (packet_bytes w.packet) ≡ 44 = report_long w.front w.packet w.may (is_report w.packet w.loss w.reports).0 in
    let whole : length (file_bytes packets) ≡ length (file_bytes w.front) + length (packet_bytes w.packet) =
    ap (λ (ps : List Packet). length (file_bytes ps)) w.packets_are ∙ ap (λ (b : List ℕ). length b) (bytes_more w.front w.packet) ∙ length-append (file_bytes w.front) (packet_bytes w.packet) in
    omega (arith, long, whole)

pub pending_bytes : (before : List ℕ) (packets : List Packet) (rest : List ℕ) (w : IsPending packets rest) → before ≡ file_bytes packets → before ++ rest ≡ file_bytes w.front ++ (packet_bytes w.packet ++ rest)
pending_bytes before packets rest w is =
    ap (λ (l : List ℕ). l ++ rest) (is ∙ ap file_bytes w.packets_are ∙ bytes_more w.front w.packet) ∙ append_assoc (file_bytes w.front) (packet_bytes w.packet) rest

-- nothing is reported before it
pub pending_quiet : (packets : List Packet) (rest : List ℕ) (w : IsPending packets rest) (P : LossBody → Type 0) → IfSome (last_report w.front) P
pending_quiet packets rest w P = no_report (last_report w.front) P (quiet_before w.front w.packet w.may (inr (is_report w.packet w.loss w.reports).0))

pub pending_keep : (closed : Bool) (packets : List Packet) (rest : List ℕ) (w : IsPending packets rest) → KeepRules closed packets → KeepRules closed w.front
pending_keep closed packets rest w keep = record {
  strict = w.each;
  unclosed = λ open_file. omega (arith, keep.unclosed open_file, ap (λ (ps : List Packet). count_by is_index ps) w.packets_are, counted is_index w.front w.packet);
}

-- a packet that is none of its answers stops at it
pub stops_at_report : (closed : Bool) (tracks : Tracks) (before packet : List ℕ) (goes : KeepsRulesSoFar closed tracks before) → IsForeignPacket packet → (IsReportAnswered goes.packets packet → ⊥)
    → BreaksAt closed (unanswered_at goes.packets) (before ++ packet)
stops_at_report closed tracks before packet goes foreign none =
    let w = pending goes.packets packet goes.keep.strict none in
    let further : (later : List ℕ) → IsPending goes.packets (packet ++ later) = λ later. record {
      front = w.front;
      packet = w.packet;
      loss = w.loss;
      packets_are = w.packets_are;
      each = w.each;
      may = w.may;
      reports = w.reports;
      unanswered = λ answered. w.unanswered ((answered_on w.loss packet later foreign).1 answered);
    } in
    record {
      packets = w.front;
      packet = packet_bytes w.packet;
      more = packet;
      bytes_are = pending_bytes before goes.packets packet w goes.bytes_are;
      keep = pending_keep closed goes.packets packet w goes.keep;
      answered = pending_quiet goes.packets packet w (λ loss. IsFollowedByFlagged loss (packet_bytes w.packet));
      foreign = packet_foreign w.packet w.may.fits;
      number = 11;
      at_is = ap (λ offset. record { offset = offset; fault = Rule 11 }) (pending_place goes.packets packet w);
      broken = λ later. pending_breaks closed goes.packets (packet ++ later) (further later);
      least = λ later m breaks. pending_least closed goes.packets (packet ++ later) (further later) m breaks;
    }

-- a whole packet stands first in its bytes
pub whole_first : (packet : List ℕ) → IsForeignPacket packet → first_packet packet ≡ packet
whole_first packet foreign = ap (λ n. take n packet) foreign.whole ∙ take-length packet

-- the bytes of a whole packet are those of the packet that they are read as
pub its_bytes : (packet : List ℕ) (p : Packet) → IsForeignPacket packet → ReadsPacket packet p → packet ≡ packet_bytes p
its_bytes packet p foreign reads = sym (whole_first packet foreign) ∙ reads.2

-- it keeps them all
pub goes_on : (closed : Bool) (tracks new : Tracks) (before packet : List ℕ) (p : Packet) (goes : KeepsRulesSoFar closed tracks before) → IsForeignPacket packet → ReadsPacket packet p
    → BreaksRuleOfFileFirst closed goes.packets p None → IsTracked new (goes.packets ++ p ∷ []) → KeepsRulesSoFar closed new (before ++ packet)
goes_on closed tracks new before packet p goes foreign reads first tracked = record {
  packets = goes.packets ++ p ∷ [];
  bytes_are = ap (λ (l : List ℕ). l ++ packet) goes.bytes_are ∙ ap (λ (l : List ℕ). file_bytes goes.packets ++ l) (its_bytes packet p foreign reads) ∙ sym (bytes_more goes.packets p);
  keep = record {
    strict = follows_more [] goes.packets p goes.keep.strict first.0;
    unclosed = λ open_file. omega (arith, counted is_index goes.packets p, goes.keep.unclosed open_file, counted_no is_index p (first.1 open_file));
  };
  tracked = tracked;
}

-- ---- the end

-- the last of two lists decides, where it has a packet
pub last_behind : (reported : Option LossBody) (ps : List Packet) (qs : List Packet) → 0 < length qs → report_from reported (ps ++ qs) ≡ report_from None qs
last_behind reported [] [] some = absurd (omega (arith, some))
last_behind reported [] (q ∷ qs) some = refl
last_behind reported (p ∷ ps) qs some = last_behind (report_of p) ps qs some

setup_of : (c : Content) → (type_of c == 1) ≡ true → (text : List ℕ) × (c ≡ setup text)
setup_of (setup text) is = (text, refl)
setup_of c is = cc

-- packets that keep the rules begin with a setup packet
pub begins : (packets : List Packet) → EachFollows [] packets → 0 < length packets → (text : List ℕ) × (map (λ p. p.content) (take 1 packets) ≡ setup text ∷ [])
begins [] each some = absurd (omega (arith, some))
begins (p ∷ ps) each some =
    let reported = setup_of p.content (each.0.start.0.1 refl) in
    (reported.0, ap (λ c. c ∷ []) reported.1)

-- packets that are a whole file
pub whole_is_strict : (bytes : List ℕ) (packets : List Packet) → bytes ≡ file_bytes packets → IsFile packets → IsStrict bytes
whole_is_strict bytes packets are file =
    let reported = begins packets file.each (omega (arith, file.start)) in
    (reported.0, file_entries packets, is_closed_file packets, (packets, are, record { file = file; setup_is = reported.1; entries_are = λ channel. refl; closed_is = refl }))

-- the packets of a strict file are a whole file
pub strict_is_whole : (bytes : List ℕ) (packets : List Packet) → bytes ≡ file_bytes packets → EachFollows [] packets → IsStrict bytes → IsFile packets
strict_is_whole bytes packets are each (text, entries, closed, (others, they, say)) =
    subst IsFile (one_list others packets say.file.each each (sym they ∙ are)) say.file

-- no strict file has a packet that breaks a rule
pub broken_is_none : (at : FirstFault) (bytes : List ℕ) → BreaksAt true at bytes → IsStrict bytes → ⊥
broken_is_none at bytes b (text, entries, closed, (all, they, say)) =
    let rest : List ℕ = b.packet ++ b.more in
    let next = next_packet b.packets all rest b.keep.strict say.file.each (sym they ∙ b.bytes_are) (omega (arith, length-append b.packet b.more, packet_long b.packet b.foreign)) in
    let p = next.packet in
    let own = reads_first p (file_bytes next.more) (next.may.fits, next.may.checksums) in
    let reads : ReadsPacket rest p = subst (λ (l : List ℕ). ReadsPacket l p) (sym next.rest_is) own in
    let there : behind rest ≡ file_bytes next.more = ap behind next.rest_is ∙ reads_behind (packet_bytes p) (file_bytes next.more) (packet_foreign p next.may.fits) in
    let last : report_from (report_of p) next.more ≡ None = sym (last_behind None b.packets (p ∷ next.more) (omega arith)) ∙ ap (λ (ps : List Packet). last_report ps) (sym next.all_are) ∙ say.file.reports in
    let answered : IfSome (report_of p) (λ loss. IsFollowedByFlagged loss (file_bytes next.more ++ [])) =
    answered_behind b.packets next.more p [] next.each (no_report (report_from (report_of p) next.more) (λ loss. IsFollowedByFlagged loss []) last) in
    keeps_all true b.packets rest p b.number reads next.may (λ open_file. absurd (true≢false open_file))
    (subst (λ (l : List ℕ). IfSome (report_of p) (λ loss. IsFollowedByFlagged loss l)) (append-nil (file_bytes next.more) ∙ sym there) answered) (broken_here true at bytes b)

-- ---- what stands

pub at_none : (o : Option FirstFault) (closed : Bool) (tracks : Tracks) (bytes : List ℕ) → o ≡ None → StandsAt o closed tracks bytes → KeepsRulesSoFar closed tracks bytes
at_none o closed tracks bytes is stands = subst (λ x. StandsAt x closed tracks bytes) is stands

pub at_some : (o : Option FirstFault) (at : FirstFault) (closed : Bool) (tracks : Tracks) (bytes : List ℕ) → o ≡ Some at → StandsAt o closed tracks bytes → BreaksAt closed at bytes
at_some o at closed tracks bytes is stands = subst (λ x. StandsAt x closed tracks bytes) is stands

pub none_stands : (o : Option FirstFault) (closed : Bool) (tracks : Tracks) (bytes : List ℕ) → o ≡ None → KeepsRulesSoFar closed tracks bytes → StandsAt o closed tracks bytes
none_stands o closed tracks bytes is goes = subst (λ x. StandsAt x closed tracks bytes) (sym is) goes

pub some_stands : (o : Option FirstFault) (at : FirstFault) (closed kept : Bool) (tracks : Tracks) (bytes : List ℕ) → o ≡ Some at → kept ≡ closed → BreaksAt closed at bytes → StandsAt o kept tracks bytes
some_stands o at closed kept tracks bytes is same b = subst (λ x. StandsAt x kept tracks bytes) (sym is) (subst (λ k. BreaksAt k at bytes) (sym same) b)

pub still_broken : (o : Option FirstFault) (closed : Bool) (tracks : Tracks) (before packet : List ℕ) → is_some o ≡ true → StandsAt o closed tracks before → StandsAt o closed tracks (before ++ packet)
still_broken None closed tracks before packet some stands = cc
still_broken (Some at) closed tracks before packet some stands = breaks_on closed at before packet stands

pub not_some : (o : Option FirstFault) → is_some o ≡ false → o ≡ None
not_some None none = refl
not_some (Some at) none = cc

pub no_some : {T : Type 0} (o p : Option T) → is_some o ≡ false → o ≡ p → p ≡ None
no_some None p none same = sym same
no_some (Some x) p none same = cc

-- what the recorder writes is read as that
pub reads_own : (p : Packet) → FitsPacket p → KeepsChecksums p → ReadsPacket (packet_bytes p) p
reads_own p fits sums = (fits, sums, whole_first (packet_bytes p) (packet_foreign p fits))

-- ---- what the tracks tell of the end

pub none_left : (has : Bool) (n : ℕ) → IsTrue has ↔ (0 < n) → IsTrue (not has) → n ≡ 0
none_left true n same none = cc
none_left false n same none = elim (cases_lt 0 n) [ inl some ↦ absurd (true≢false (sym (same.1 some))) | inr all ↦ omega (arith, all) ]

pub none_there : (has : Bool) (n : ℕ) → IsTrue has ↔ (0 < n) → n ≡ 0 → IsTrue (not has)
none_there true n same none = absurd (omega (arith, none, same.0 refl))
none_there false n same none = refl
