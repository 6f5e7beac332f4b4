-- What a packet reports, and what its entries cost after a report.
use Rattle.std.proofs.Common.{◌≡◌, ℕ, ◌+◌, ◌<◌, ◌==◌, ◌||◌, Bool, true, false, IsTrue, List, [], ◌∷◌, length, refl, sym, ap, ◌∙◌, arith}
use Rattle.std.specs.Prelude.{Option, Some, None}
use Rattle.std.specs.List.{sum_by}
use Rattle.std.proofs.lemmas.List.Sums.{sum_by-cons}
use Rattle.r10_indexbody.specs.declared.loss.LossBody.{LossBody}
use Rattle.r10_body.specs.Content.{Content, FitsContent, report, type_of, messages_of}
use Rattle.r10_body.specs.Cost.{entry_cost, plain_cost, lost_cost, owed}
use Rattle.r10_body.specs.Gaps.{told_lost, IsSoundGap}
use Rattle.r10_body.specs.Packets.{Packet, packet_entries, with_gaps}
use Rattle.r10_body.specs.Rules.{MayFollow, IsGapTold, last_report, report_of}
use Rattle.r10_body.specs.declared.entry.Entry.{Entry}
use Rattle.r10_body.specs.declared.entry.Timed.{Timed}
use Rattle.r10_body.specs.declared.gap.Gap.{Gap}
use Rattle.r10_body.specs.declared.gap.Gap.TheVariants.{Whole, Lost, Unknown}
use Rattle.r10_body.proofs.Lengths.{some_messages}
use Rattle.r10_packet_rules.specs.Facts.{kind_of}
use Rattle.r10_packet_rules.specs.declared.facts.PacketKind.{PacketKind}
use Rattle.r10_packet_rules.specs.declared.facts.PacketKind.TheVariants.{Report}

-- ---- what a packet reports

report_at : (p : Packet) (c : Content) (loss : LossBody) → Report loss ≡ kind_of c → Some loss ≡ report_of (record p { content = c })
report_at p (report other) loss e = let same : loss ≡ other = cc in ap (λ (l : LossBody). Some l) same
report_at p c loss e = absurd (cc)

pub is_reported : (p : Packet) (loss : LossBody) → Report loss ≡ kind_of p.content → Some loss ≡ report_of p
is_reported p loss e = report_at p p.content loss e

none_at : (p : Packet) (c : Content) (k : PacketKind) → k ≡ kind_of c → ((loss : LossBody) → k ≡ Report loss → ⊥) → None ≡ report_of (record p { content = c })
none_at p (report loss) k e none = absurd (none loss e)
none_at p c k e none = refl

pub none_reported : (p : Packet) (k : PacketKind) → k ≡ kind_of p.content → ((loss : LossBody) → k ≡ Report loss → ⊥) → None ≡ report_of p
none_reported p k e none = none_at p p.content k e none

-- ---- what its entries cost

rest_plain : (channel : ℕ) (ts : List Timed) → sum_by entry_cost (with_gaps channel Whole ts) ≡ sum_by plain_cost (with_gaps channel Whole ts)
rest_plain channel [] = refl
rest_plain channel (t ∷ ts) =
    let e : Entry = record { channel = channel; count = t.count; message = t.message; gap = Whole } in
    omega (arith, rest_plain channel ts, sum_by-cons entry_cost e (with_gaps channel Whole ts), sum_by-cons plain_cost e (with_gaps channel Whole ts))

with_loss : (channel : ℕ) (gap : Gap) (ts : List Timed) → 0 < length ts → sum_by entry_cost (with_gaps channel gap ts) ≡ sum_by plain_cost (with_gaps channel gap ts) + lost_cost gap
with_loss channel gap [] some = absurd (omega (arith, some))
with_loss channel gap (t ∷ ts) some =
    let e : Entry = record { channel = channel; count = t.count; message = t.message; gap = gap } in
    omega (arith, rest_plain channel ts, sum_by-cons entry_cost e (with_gaps channel Whole ts), sum_by-cons plain_cost e (with_gaps channel Whole ts))

without_loss : (channel : ℕ) (gap : Gap) (ts : List Timed) → lost_cost gap ≡ 0 → sum_by entry_cost (with_gaps channel gap ts) ≡ sum_by plain_cost (with_gaps channel gap ts)
without_loss channel gap [] none = refl
without_loss channel gap (t ∷ ts) none = omega (arith, with_loss channel gap (t ∷ ts) (omega arith), none)

-- only a packet of messages follows a report
or_more : (a b c d e : Bool) → IsTrue (a || d || e) → IsTrue (a || b || c || d || e)
or_more true b c d e is = is
or_more false true c d e is = refl
or_more false false true d e is = refl
or_more false false false d e is = is

has_messages : (counter : ℕ) (c : Content) → FitsContent counter c → (IsTrue (type_of c == 1 || type_of c == 0x11 || type_of c == 2 || type_of c == 3 || type_of c == 0) → ⊥) → 0 < length (messages_of counter c)
has_messages counter c fits other =
    some_messages counter c fits (λ is. other (or_more (type_of c == 1) (type_of c == 0x11) (type_of c == 2) (type_of c == 3) (type_of c == 0) is))

untold : (g : Gap) → told_lost g ≡ 0 → IsSoundGap g → lost_cost g ≡ 0
untold Whole none sound = refl
untold (Lost n) none sound = absurd (omega (arith, none, sound.0))
untold Unknown none sound = refl

lossy : (g : Gap) (n : ℕ) → g ≡ Lost n → g ≡ Whole → ⊥
lossy g n is whole = let no : Lost n ≡ Whole = sym is ∙ whole in cc

by_report : (o : Option LossBody) (before : List Packet) (p : Packet) → MayFollow before p → IsGapTold o p → sum_by entry_cost (packet_entries p) ≡ sum_by plain_cost (packet_entries p) + owed o
by_report None before p may reported = omega (arith, without_loss p.channel p.gap (messages_of p.counter p.content) (untold p.gap reported may.fits.gap))
by_report (Some loss) before p may reported =
    let some : 0 < length (messages_of p.counter p.content) = has_messages p.counter p.content may.fits.content (λ own. lossy p.gap loss.lost reported.1 (may.channels.2 own)) in
    let cost : lost_cost p.gap ≡ 68 = ap lost_cost reported.1 in
    omega (arith, with_loss p.channel p.gap (messages_of p.counter p.content) some, cost)

-- a packet's entries cost what they do by themselves, and what the report before it adds
pub cost_behind : (before : List Packet) (p : Packet) → MayFollow before p → sum_by entry_cost (packet_entries p) ≡ sum_by plain_cost (packet_entries p) + owed (last_report before)
cost_behind before p may = by_report (last_report before) before p may may.reports.0
