-- Reports among packets: what one is, and one that stands last.
use Rattle.std.proofs.Common.{◌≡◌, ℕ, ◌==◌, ◌⊎◌, inr, Bool, true, false, List, [], ◌∷◌, ◌++◌, length, Option, Some, None, IfSome, refl, sym, ap, subst, ◌∙◌, arith, append_assoc}
use Rattle.std.specs.Prelude.{cond}
use Rattle.std.specs.List.{AllByRecursion}
use Rattle.std.proofs.lemmas.List.{append-nil}
use Rattle.r10_count.specs.Count.{IsCount}
use Rattle.r10_indexbody.specs.declared.loss.LossBody.{LossBody}
use Rattle.r10_body.specs.Content.{Content, FitsContent, report, type_of}
use Rattle.r10_body.specs.Gaps.{IsSoundGap}
use Rattle.r10_body.specs.Packets.{FitsPacket, Packet, packet_bytes}
use Rattle.r10_body.specs.Rules.{EachFollows, EndsReports, IsGapTold, IsSoundReport, MayFollow, is_index, is_report_packet, is_time, last_report, last_time, report_of}
use Rattle.r10_body.specs.declared.gap.Gap.TheVariants.{Whole, Lost}
use Rattle.r10_body.proofs.Lengths.{last_with, own_whole, report_at}
use Rattle.r10_body.proofs.Lone.{packet-length}
use Rattle.r10_body.proofs.Sentences.{rest_length}
use Rattle.r10_body.proofs.Indexes.{none_wide}

-- ---- a report

no_loss : {loss : LossBody} → None ≡ Some loss → ⊥
no_loss e = cc

content_at : (p : Packet) (c : Content) (loss : LossBody) → report_of (record p { content = c }) ≡ Some loss → c ≡ report loss
content_at p (report other) loss e = let is : Some other ≡ Some loss = e in let same : other ≡ loss = cc in ap (λ (l : LossBody). report l) same
content_at p c loss e = absurd (no_loss e)

pub report_is : (p : Packet) (loss : LossBody) → report_of p ≡ Some loss → p.content ≡ report loss
report_is p loss e = content_at p p.content loss e

pub reports_it : (p : Packet) (loss : LossBody) → p.content ≡ report loss → report_of p ≡ Some loss
reports_it p loss e = rw e refl

pub is_report : (p : Packet) (loss : LossBody) → report_of p ≡ Some loss → (is_report_packet p ≡ true) × (is_index p ≡ false)
is_report p loss e = let is = report_is p loss e in (rw is refl, rw is refl)

-- what it tells is a gap
pub report_fits : (before : List Packet) (p : Packet) (loss : LossBody) → report_of p ≡ Some loss → MayFollow before p → IsSoundGap (Lost loss.lost)
report_fits before p loss e may =
    let fits : FitsContent p.counter (report loss) = subst (λ (c : Content). FitsContent p.counter c) (report_is p loss e) may.fits.content in
    let sound : IsSoundReport loss = subst (λ (o : Option LossBody). IfSome o IsSoundReport) e may.reports.1 in
    (sound.1, fits.lost)

pub report_long : (before : List Packet) (p : Packet) → MayFollow before p → is_report_packet p ≡ true → length (packet_bytes p) ≡ 44
report_long before p may said =
    let at = report_at p p.content refl true said in
    omega (arith, at.1 said, packet-length p, rest_length p, none_wide p.check (own_whole p before may (inr said)).1)

untold : (o : Option LossBody) (p : Packet) → IsGapTold o p → p.gap ≡ Whole → o ≡ None
untold None p reported whole = refl
untold (Some loss) p reported whole = absurd (let no : Lost loss.lost ≡ Whole = sym reported.1 ∙ whole in cc)

-- an index packet or a report follows no report
pub quiet_before : (before : List Packet) (p : Packet) → MayFollow before p → (is_index p ≡ true) ⊎ (is_report_packet p ≡ true) → last_report before ≡ None
quiet_before before p may own = untold (last_report before) p may.reports.0 (own_whole p before may own).0

-- ---- no report

no_report_at : (p : Packet) (c : Content) → (type_of c == 0) ≡ false → report_of (record p { content = c }) ≡ None
no_report_at p (report loss) other = absurd (let no : true ≡ false = other in cc)
no_report_at p c other = refl

pub no_report : (p : Packet) → is_report_packet p ≡ false → report_of p ≡ None
no_report p other = no_report_at p p.content other

-- after a packet that is none, none stands last
pub quiet_more : (packets : List Packet) (p : Packet) → is_report_packet p ≡ false → EndsReports (packets ++ p ∷ [])
quiet_more packets p other = last_with None packets p ∙ no_report p other

-- ---- its counter

-- the last time's counter has 48 bits
pub time_fits : (counter : ℕ) (packets : List Packet) → IsCount counter → AllByRecursion FitsPacket packets → IsCount (last_time counter packets)
time_fits counter [] is fits = is
time_fits counter (p ∷ packets) is fits = time_fits (cond (is_time p) p.counter counter) packets (either (is_time p)) fits.1
  where
    either : (b : Bool) → IsCount (cond b p.counter counter)
    either true = fits.0.counter
    either false = is

-- ---- a report that stands last

pub record EndsWithReport (before packets : List Packet) (loss : LossBody) : Type 0 where
  pub front : List Packet
  pub packet : Packet
  pub packets_are : packets ≡ front ++ packet ∷ []
  pub each : EachFollows before front
  pub may : MayFollow (before ++ front) packet
  pub reports : report_of packet ≡ Some loss

pub ends_with : (before packets : List Packet) (loss : LossBody) → EachFollows before packets → last_report packets ≡ Some loss → EndsWithReport before packets loss
ends_with before [] loss each e = absurd (no_loss e)
ends_with before (p ∷ []) loss each e = record { front = []; packet = p; packets_are = refl; each = tt; may = subst (λ (b : List Packet). MayFollow b p) (sym (append-nil before)) each.0; reports = e }
ends_with before (p ∷ q ∷ qs) loss each e =
    let ends = ends_with (before ++ p ∷ []) (q ∷ qs) loss each.1 e in
    record {
      front = p ∷ ends.front;
      packet = ends.packet;
      packets_are = ap (λ (ps : List Packet). p ∷ ps) ends.packets_are;
      each = (each.0, ends.each);
      may = subst (λ (b : List Packet). MayFollow b ends.packet) (append_assoc before (p ∷ []) ends.front) ends.may;
      reports = ends.reports;
    }
