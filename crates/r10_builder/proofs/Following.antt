-- Packets that may come next.
use Rattle.std.proofs.Common.{◌≡◌, ℕ, ◌%◌, ◌^◌, ◌<◌, ◌≤◌, Bool, true, false, ◌==◌, ◌||◌, IsTrue, List, [], ◌∷◌, ◌++◌, length, map, take, Option, Some, None, refl, sym, ap, subst, ◌∙◌, arith, length-append}
use Rattle.std.specs.Prelude.{count_by}
use Rattle.std.proofs.lemmas.List.{append-nil}
use Rattle.std.specs.List.{AllByRecursion}
use Rattle.std.proofs.lemmas.Bool.{eqb-true, false≢true, ne_eqb}
use Rattle.r10_count.specs.Civil.{IsCivil}
use Rattle.r10_count.specs.Count.{IsCount}
use Rattle.r10_count.specs.declared.civil.Parts.{Parts}
use Rattle.r10_count.proofs.Lists.{all_more}
use Rattle.r10_body.proofs.Lone.{body_length}
use Rattle.r10_body.specs.Content.{Content, setup, time, event, uart, bus, arinc, discrete, message, node, root, report, type_of}
use Rattle.r10_body.specs.Files.{PacketsSay, on_channel}
use Rattle.r10_body.specs.Gaps.{IsSoundGap, told_lost}
use Rattle.r10_body.specs.Messages.{kind_type}
use Rattle.r10_body.specs.Packets.{Packet, FitsPacket, packet_entries, file_entries}
use Rattle.r10_body.specs.Rules.{EachFollows, IsGapTold, MayFollow, KeepsEvents, KeepsIndex, Rise, is_event_of, is_index, is_report_packet, last_report, last_time}
use Rattle.r10_body.specs.declared.entry.Entry.{Entry}
use Rattle.r10_body.specs.declared.entry.Sample.{Sample}
use Rattle.r10_body.specs.declared.gap.Gap.{Gap}
use Rattle.r10_body.specs.declared.gap.Gap.TheVariants.{Whole, Lost, Unknown}
use Rattle.r10_body.specs.declared.message.Kind.{Kind}
use Rattle.r10_body.specs.declared.message.Kind.TheVariants as kinds
use Rattle.r10_body.specs.declared.message.Message.TheVariants as messages
use Rattle.r10_body.specs.declared.spec.ChannelSpec.{ChannelSpec}
use Rattle.r10_body.specs.Sequence.{last_count, next_sequence, numbered}
use Rattle.r10_body.proofs.ChannelLists.{rises}
use Rattle.r10_body.proofs.Indexes.{counted, counted_no, not_closed}
use Rattle.r10_body.proofs.Lengths.{last_with}
use Rattle.r10_body.proofs.Reporting.{no_report, quiet_more, time_fits}
use Rattle.r10_body.proofs.Rules.{entries_more, follows_fit, follows_more}
use Rattle.r10_body.proofs.Sentences.{rest_length}
use Rattle.r10_builder.specs.Packing.{IsClosedPacket, entry_on, first_count}
use Rattle.r10_builder.specs.declared.closed.Closed.{Closed}
use Rattle.r10_builder.specs.Next.{ChannelGoesOn, HasType, IsGrowing, event_packet, extended_by, report_packet, reporting, setup_packet, time_packet}
use Rattle.r10_builder.proofs.Rising.{rise_join}

-- ---- what a channel of messages carries

pub above_times : (k : Kind) → 0x11 < kind_type k
above_times kinds.Uart = omega arith
above_times kinds.Bus1553 = omega arith
above_times kinds.Arinc = omega arith
above_times kinds.Discrete = omega arith
above_times kinds.Message = omega arith

-- it is no setup, time, event or index, and no report
plain_at : (type : ℕ) (a b c d z : Bool) → type == 1 ≡ a → type == 17 ≡ b → type == 2 ≡ c → type == 3 ≡ d → type == 0 ≡ z → 17 < type → IsTrue (a || b || c || d || z) → ⊥
plain_at type true b c d z e f g h i above is = omega (arith, eqb-true type 1 e)
plain_at type false true c d z e f g h i above is = omega (arith, eqb-true type 17 f)
plain_at type false false true d z e f g h i above is = omega (arith, eqb-true type 2 g)
plain_at type false false false true z e f g h i above is = omega (arith, eqb-true type 3 h)
plain_at type false false false false true e f g h i above is = omega (arith, eqb-true type 0 i)
plain_at type false false false false false e f g h i above is = false≢true is

not_plain : (type : ℕ) → 17 < type → IsTrue (type == 1 || type == 17 || type == 2 || type == 3 || type == 0) → ⊥
not_plain type = plain_at type (type == 1) (type == 17) (type == 2) (type == 3) (type == 0) refl refl refl refl refl

either_at : (type : ℕ) (a d z : Bool) → type == 1 ≡ a → type == 3 ≡ d → type == 0 ≡ z → 17 < type → IsTrue (a || d || z) → ⊥
either_at type true d z e h i above is = omega (arith, eqb-true type 1 e)
either_at type false true z e h i above is = omega (arith, eqb-true type 3 h)
either_at type false false true e h i above is = omega (arith, eqb-true type 0 i)
either_at type false false false e h i above is = false≢true is

not_either : (type : ℕ) → 17 < type → IsTrue (type == 1 || type == 3 || type == 0) → ⊥
not_either type = either_at type (type == 1) (type == 3) (type == 0) refl refl refl

own_at : (type : ℕ) (d z : Bool) → type == 3 ≡ d → type == 0 ≡ z → 17 < type → IsTrue (d || z) → ⊥
own_at type true z h i above is = omega (arith, eqb-true type 3 h)
own_at type false true h i above is = omega (arith, eqb-true type 0 i)
own_at type false false h i above is = false≢true is

not_own : (type : ℕ) → 17 < type → IsTrue (type == 3 || type == 0) → ⊥
not_own type = own_at type (type == 3) (type == 0) refl refl

keeps_index : (packets : List Packet) (p : Packet) (c : Content) → p.content ≡ c → 3 < type_of c → count_by is_index packets ≡ 0 → KeepsIndex packets p
keeps_index packets p (setup text) e lt none = absurd (omega arith)
keeps_index packets p (time civil) e lt none = rw e none
keeps_index packets p (event one) e lt none = absurd (omega arith)
keeps_index packets p (uart es) e lt none = rw e none
keeps_index packets p (bus es) e lt none = rw e none
keeps_index packets p (arinc es) e lt none = rw e none
keeps_index packets p (discrete bits es) e lt none = rw e none
keeps_index packets p (message es) e lt none = rw e none
keeps_index packets p (node es) e lt none = absurd (omega arith)
keeps_index packets p (root es) e lt none = absurd (omega arith)
keeps_index packets p (report loss) e lt none = absurd (omega arith)

keeps_events : (packets : List Packet) (p : Packet) (c : Content) → p.content ≡ c → 3 < type_of c → KeepsEvents packets p
keeps_events packets p (setup text) e lt = rw e tt
keeps_events packets p (time civil) e lt = rw e tt
keeps_events packets p (event one) e lt = absurd (omega arith)
keeps_events packets p (uart es) e lt = rw e tt
keeps_events packets p (bus es) e lt = rw e tt
keeps_events packets p (arinc es) e lt = rw e tt
keeps_events packets p (discrete bits es) e lt = rw e tt
keeps_events packets p (message es) e lt = rw e tt
keeps_events packets p (node es) e lt = rw e tt
keeps_events packets p (root es) e lt = rw e tt
keeps_events packets p (report loss) e lt = rw e tt

-- ---- what a packet begins with

first_is : (channel n : ℕ) (samples : List Sample) → n ≡ first_count samples → AllByRecursion (λ (e : Entry). n ≡ e.count) (take 1 (map (entry_on channel) samples))
first_is channel n [] e = tt
first_is channel n (s ∷ samples) e = (e, tt)

sequence_small : (channel : ℕ) (packets : List Packet) → next_sequence channel packets < 2 ^ 8
sequence_small channel packets = omega arith

-- ---- a report

pub report_follows : (packets : List Packet) (channel lost : ℕ) → IsGrowing packets → channel < 2 ^ 16 → 0 < lost → lost < 2 ^ 64
    → MayFollow packets (numbered packets (report_packet (last_time 0 packets) channel lost))
report_follows packets channel lost growing small some few =
    let p : Packet = numbered packets (report_packet (last_time 0 packets) channel lost) in
    let two : 2 ≤ length packets = growing.start in
    record {
      fits = record {
        channel = omega arith;
        sequence = sequence_small 0 packets;
        gap = tt;
        check = omega arith;
        counter = time_fits 0 packets (omega arith) (follows_fit [] packets growing.each);
        content = record { channel = small; reserved = omega arith; lost = few };
        short = omega (arith, rest_length p);
      };
      checksums = λ h. refl;
      start = ((λ h. absurd (false≢true h), λ z. absurd (omega arith)), λ o. absurd (omega arith));
      channels = ((λ h. refl, λ z. refl), λ lt. absurd (omega arith), λ h. refl);
      sequence = refl;
      counts = (tt, subst (λ (es : List Entry). Rise 0 es) (sym (append-nil (on_channel 0 (file_entries packets)))) (rises 0 packets growing.each), tt);
      index = growing.unindexed;
      counters = (λ o. absurd (omega arith), λ h. refl);
      events = tt;
      reports = (rw growing.quiet refl, (refl, some));
    }

-- ---- a packet of a channel's samples

-- what a packet comes after: packets that grow, and its report where it has one
record IsFront (packets : List Packet) (p : Packet) (type : ℕ) (before : List Packet) : Type 0 where
  pub each : EachFollows [] before
  pub start : 2 ≤ length before
  pub unindexed : count_by is_index before ≡ 0
  pub type_is : HasType p.channel type before
  pub entries : file_entries before ≡ file_entries packets
  pub reported : IsGapTold (last_report before) p

plain_front : (packets : List Packet) (p : Packet) (type : ℕ) → told_lost p.gap ≡ 0 → IsGrowing packets → HasType p.channel type packets → IsFront packets p type packets
plain_front packets p type untold growing has = record {
  each = growing.each;
  start = growing.start;
  unindexed = growing.unindexed;
  type_is = has;
  entries = refl;
  reported = rw growing.quiet untold;
}

reported_front : (packets : List Packet) (p : Packet) (type n : ℕ) → p.gap ≡ Lost n → 0 < n → n < 2 ^ 64 → IsGrowing packets → 0 < p.channel → p.channel < 2 ^ 16 → HasType p.channel type packets
    → IsFront packets p type (packets ++ numbered packets (report_packet (last_time 0 packets) p.channel n) ∷ [])
reported_front packets p type n lost some few growing above small has =
    let r : Packet = numbered packets (report_packet (last_time 0 packets) p.channel n) in
    record {
      each = follows_more [] packets r growing.each (report_follows packets p.channel n growing small some few);
      start = omega (arith, growing.start, length-append packets (r ∷ []));
      unindexed = omega (arith, growing.unindexed, counted is_index packets r, counted_no is_index r refl);
      type_is = all_more (λ (q : Packet). q.channel ≡ p.channel → type_of q.content ≡ type) packets r has (λ e. absurd (omega (arith, above, e)));
      entries = entries_more packets r ∙ append-nil (file_entries packets);
      reported = subst (λ o. IsGapTold o p) (sym (last_with None packets r)) (refl, lost);
    }

abbrev reporting_with : List Packet → Packet → Gap → List Packet
reporting_with packets p g = elim g [ Lost n ↦ packets ++ numbered packets (report_packet (last_time 0 packets) p.channel n) ∷ [] | _ ↦ packets ]

front_with : (packets : List Packet) (p : Packet) (type : ℕ) (g : Gap) → p.gap ≡ g → IsSoundGap g → IsGrowing packets → 0 < p.channel → p.channel < 2 ^ 16 → HasType p.channel type packets
    → IsFront packets p type (reporting_with packets p g)
front_with packets p type Whole e sound growing above small has = plain_front packets p type (ap told_lost e) growing has
front_with packets p type (Lost n) e sound growing above small has = reported_front packets p type n e sound.0 sound.1 growing above small has
front_with packets p type Unknown e sound growing above small has = plain_front packets p type (ap told_lost e) growing has

front_at : (packets : List Packet) (p : Packet) (type : ℕ) → IsSoundGap p.gap → IsGrowing packets → 0 < p.channel → p.channel < 2 ^ 16 → HasType p.channel type packets
    → IsFront packets p type (reporting packets p)
front_at packets p type sound growing above small has = front_with packets p type p.gap refl sound growing above small has

-- what is reported doesn't depend on the number
told_numbered : (o : Option _) (before : List Packet) (p : Packet) → IsGapTold o p → IsGapTold o (numbered before p)
told_numbered None before p reported = reported
told_numbered (Some loss) before p reported = reported

behind_front : (packets before : List Packet) (spec : ChannelSpec) (samples : List Sample) (closed : Closed) (closes : IsClosedPacket spec samples closed) → IsFront packets closes.packet (kind_type spec.kind) before
    → 0 < spec.id → last_count 0 (on_channel spec.id (file_entries packets)) ≤ first_count samples → MayFollow before (numbered before closes.packet)
behind_front packets before spec samples closed closes front above_zero behind =
    let p : Packet = closes.packet in
    let two : 2 ≤ length before = front.start in
    let above : 17 < type_of p.content = omega (arith, above_times spec.kind, closes.type_is) in
    let fits : FitsPacket p = closes.fits in
    let rise : Rise 0 (on_channel p.channel (file_entries before)) = rises p.channel before front.each in
    let first : last_count 0 (on_channel spec.id (file_entries before)) ≤ first_count samples = subst (λ (es : List Entry). last_count 0 (on_channel spec.id es) ≤ first_count samples) (sym front.entries) behind in
    let later : last_count 0 (on_channel p.channel (file_entries before)) ≤ p.counter =
    subst (λ (c : ℕ). last_count 0 (on_channel c (file_entries before)) ≤ p.counter) (sym closes.channel) (omega (arith, first, closes.counter)) in
    record {
      fits = record { channel = fits.channel; sequence = sequence_small p.channel before; gap = fits.gap; check = fits.check; counter = fits.counter; content = fits.content; short = fits.short };
      checksums = λ h. absurd (not_plain (type_of p.content) above h);
      start = ((λ h. absurd (omega (arith, above, eqb-true (type_of p.content) 1 h)), λ z. absurd (omega arith)), λ o. absurd (omega arith));
      channels = (
        (λ h. absurd (not_either (type_of p.content) above h), λ z. absurd (omega (arith, above_zero, closes.channel))),
        λ lt. rw closes.type_is front.type_is,
        λ h. absurd (not_plain (type_of p.content) above h),
      );
      sequence = refl;
      counts = (
        rw closes.says (first_is spec.id p.counter samples closes.counter),
        rise_join 0 p.counter (on_channel p.channel (file_entries before)) (packet_entries p) rise later closes.rise,
        closes.soon,
      );
      index = keeps_index before (numbered before p) p.content refl (omega (arith, above)) front.unindexed;
      counters = (λ o. absurd (omega arith), λ h. absurd (not_own (type_of p.content) above h));
      events = keeps_events before (numbered before p) p.content refl (omega (arith, above));
      reports = (told_numbered (last_report before) before p front.reported, rw (no_report p (ne_eqb (type_of p.content) 0 (λ e. omega (arith, above, e)))) tt);
    }

front_of : (packets : List Packet) (spec : ChannelSpec) (samples : List Sample) (closed : Closed) (closes : IsClosedPacket spec samples closed)
    → IsGrowing packets → ChannelGoesOn packets spec.id (kind_type spec.kind) (first_count samples) → IsFront packets closes.packet (kind_type spec.kind) (reporting packets closes.packet)
front_of packets spec samples closed closes growing goes =
    let p : Packet = closes.packet in
    let above : 0 < p.channel = omega (arith, goes.above, closes.channel) in
    front_at packets p (kind_type spec.kind) closes.fits.gap growing above closes.fits.channel
    (subst (λ (c : ℕ). HasType c (kind_type spec.kind) packets) (sym closes.channel) goes.type_is)

pub handed_out_follows : (packets : List Packet) (spec : ChannelSpec) (samples : List Sample) (closed : Closed) (closes : IsClosedPacket spec samples closed)
    → IsGrowing packets → ChannelGoesOn packets spec.id (kind_type spec.kind) (first_count samples) → MayFollow (reporting packets closes.packet) (numbered (reporting packets closes.packet) closes.packet)
handed_out_follows packets spec samples closed closes growing goes =
    behind_front packets (reporting packets closes.packet) spec samples closed closes (front_of packets spec samples closed closes growing goes) goes.above goes.later

-- and packets grow with both
pub grown : (packets : List Packet) (spec : ChannelSpec) (samples : List Sample) (closed : Closed) (closes : IsClosedPacket spec samples closed)
    → IsGrowing packets → ChannelGoesOn packets spec.id (kind_type spec.kind) (first_count samples) → IsGrowing (extended_by packets closes.packet)
grown packets spec samples closed closes growing goes =
    let before : List Packet = reporting packets closes.packet in
    let p : Packet = numbered before closes.packet in
    let front = front_of packets spec samples closed closes growing goes in
    let above : 17 < type_of p.content = omega (arith, above_times spec.kind, closes.type_is) in
    record {
      each = follows_more [] before p front.each (handed_out_follows packets spec samples closed closes growing goes);
      start = omega (arith, front.start, length-append before (p ∷ []));
      unindexed = omega (arith, front.unindexed, counted is_index before p, counted_no is_index p (ne_eqb (type_of p.content) 3 (λ e. omega (arith, above, e))));
      quiet = quiet_more before p (ne_eqb (type_of p.content) 0 (λ e. omega (arith, above, e)));
    }

-- ---- packets of the recorder's own

pub time_follows : (packets : List Packet) (channel count : ℕ) (civil : Parts) → IsGrowing packets → ChannelGoesOn packets channel 0x11 count → channel < 2 ^ 16 → IsCount count → IsCivil civil
    → MayFollow packets (numbered packets (time_packet channel count civil))
time_follows packets channel count civil growing goes small counts is =
    let p : Packet = numbered packets (time_packet channel count civil) in
    let two : 2 ≤ length packets = growing.start in
    record {
      fits = record {
        channel = small;
        sequence = sequence_small channel packets;
        gap = tt;
        check = omega arith;
        counter = counts;
        content = is;
        short = omega (arith, rest_length p, body_length 0 count (messages.Time civil));
      };
      checksums = λ h. refl;
      start = ((λ h. absurd (false≢true h), λ z. absurd (omega arith)), λ o. absurd (omega arith));
      channels = ((λ h. absurd (false≢true h), λ z. absurd (omega (arith, goes.above))), λ lt. goes.type_is, λ h. refl);
      sequence = refl;
      counts = ((refl, tt), rise_join 0 count (on_channel channel (file_entries packets)) (packet_entries p) (rises channel packets growing.each) goes.later (omega arith, tt), (omega arith, tt));
      index = growing.unindexed;
      counters = (λ o. absurd (omega arith), λ h. absurd (false≢true h));
      events = tt;
      reports = (rw growing.quiet refl, tt);
    }

pub event_follows : (packets : List Packet) (channel count number : ℕ) → IsGrowing packets → ChannelGoesOn packets channel 0x02 count → channel < 2 ^ 16 → IsCount count → number < 2 ^ 12
    → MayFollow packets (numbered packets (event_packet channel count number packets))
event_follows packets channel count number growing goes small counts few =
    let p : Packet = numbered packets (event_packet channel count number packets) in
    let two : 2 ≤ length packets = growing.start in
    let occurrence : ℕ = count_by (is_event_of number) (file_entries packets) % 65536 in
    record {
      fits = record {
        channel = small;
        sequence = sequence_small channel packets;
        gap = tt;
        check = omega arith;
        counter = counts;
        content = record { count = counts; number = few; occurrence = omega arith };
        short = omega (arith, rest_length p, body_length 0 count (messages.Event number occurrence));
      };
      checksums = λ h. refl;
      start = ((λ h. absurd (false≢true h), λ z. absurd (omega arith)), λ o. absurd (omega arith));
      channels = ((λ h. absurd (false≢true h), λ z. absurd (omega (arith, goes.above))), λ lt. goes.type_is, λ h. refl);
      sequence = refl;
      counts = ((refl, tt), rise_join 0 count (on_channel channel (file_entries packets)) (packet_entries p) (rises channel packets growing.each) goes.later (omega arith, tt), (omega arith, tt));
      index = growing.unindexed;
      counters = (λ o. absurd (omega arith), λ h. absurd (false≢true h));
      events = refl;
      reports = (rw growing.quiet refl, tt);
    }

-- ---- the beginning

setup_first : (counter : ℕ) (text : List ℕ) → IsCount counter → length text ≤ 524260 → MayFollow [] (setup_packet counter text)
setup_first counter text fits short = record {
  fits = record {
    channel = omega arith;
    sequence = omega arith;
    gap = tt;
    check = omega arith;
    counter = fits;
    content = tt;
    short = omega (arith, rest_length (setup_packet counter text));
  };
  checksums = λ h. refl;
  start = ((λ h. refl, λ z. refl), λ o. absurd (omega arith));
  channels = ((λ h. refl, λ z. refl), λ lt. absurd (omega arith), λ h. refl);
  sequence = refl;
  counts = (tt, tt, tt);
  index = refl;
  counters = (λ o. absurd (omega arith), λ h. absurd (false≢true h));
  events = tt;
  reports = (refl, tt);
}

time_second : (text : List ℕ) (channel count : ℕ) (civil : Parts) → 0 < channel → channel < 2 ^ 16 → IsCount count → IsCivil civil → MayFollow (setup_packet count text ∷ []) (time_packet channel count civil)
time_second text channel count civil above small counts is =
    let off : 0 == channel ≡ false = ne_eqb 0 channel (λ h. absurd (omega (arith, h))) in
    record {
      fits = record {
        channel = small;
        sequence = omega arith;
        gap = tt;
        check = omega arith;
        counter = counts;
        content = is;
        short = omega (arith, rest_length (time_packet channel count civil), body_length 0 count (messages.Time civil));
      };
      checksums = λ h. refl;
      start = ((λ h. absurd (false≢true h), λ z. absurd (omega arith)), λ o. refl);
      channels = ((λ h. absurd (false≢true h), λ z. absurd (omega (arith, above))), λ lt. (λ h. absurd (omega (arith, above, h)), tt), λ h. refl);
      sequence = rw off refl;
      counts = ((refl, tt), (omega arith, tt), (omega arith, tt));
      index = refl;
      counters = (λ o. (refl, tt), λ h. absurd (false≢true h));
      events = tt;
      reports = (refl, tt);
    }

pub begins : (text : List ℕ) (channel count : ℕ) (civil : Parts) → length text ≤ 524260 → 0 < channel → channel < 2 ^ 16 → IsCount count → IsCivil civil → IsGrowing (setup_packet count text ∷ time_packet channel count civil ∷ [])
begins text channel count civil short above small counts is = record {
  each = (setup_first count text counts short, (time_second text channel count civil above small counts is, tt));
  start = omega arith;
  unindexed = refl;
  quiet = refl;
}

-- ---- one packet more

pub grows_on : (packets : List Packet) (p : Packet) → IsGrowing packets → MayFollow packets p → is_index p ≡ false → is_report_packet p ≡ false → IsGrowing (packets ++ p ∷ [])
grows_on packets p growing may other plain = record {
  each = follows_more [] packets p growing.each may;
  start = omega (arith, growing.start, length-append packets (p ∷ []));
  unindexed = omega (arith, growing.unindexed, counted is_index packets p, counted_no is_index p other);
  quiet = quiet_more packets p plain;
}

pub says_so : (packets : List Packet) (text : List ℕ) (entries : List Entry) → IsGrowing packets → map (λ (p : Packet). p.content) (take 1 packets) ≡ setup text ∷ []
    → ((channel : ℕ) → on_channel channel (file_entries packets) ≡ on_channel channel entries) → PacketsSay packets text entries false
says_so packets text entries growing says same = record {
  file = record { each = growing.each; start = growing.start; index = λ unclosed. growing.unindexed; reports = growing.quiet };
  setup_is = says;
  entries_are = same;
  closed_is = not_closed packets growing.unindexed;
}
