-- What is kept of a channel, with and without a packet more.
use Rattle.std.proofs.Common.{◌≡◌, ℕ, ◌+◌, ◌%◌, ◌<◌, ◌≤◌, Bool, true, false, ◌==◌, IsTrue, List, [], ◌∷◌, ◌++◌, length, take, refl, sym, ap, subst, ◌∙◌, arith}
use Rattle.std.specs.Prelude.{count_by, ◌↔◌, Option, Some, None, cond, nat_eq}
use Rattle.std.specs.HashMap.{HashMap, get}
use Rattle.std.specs.List.{AllByRecursion}
use Rattle.std.proofs.lemmas.List.{append-nil}
use Rattle.std.proofs.lemmas.List.Elements.{filter-append}
use Rattle.std.proofs.lemmas.Bool.{eq-eqb, eqb-true, false≢true}
use Rattle.r10_body.specs.Content.{type_of}
use Rattle.r10_body.specs.Files.{on_channel}
use Rattle.r10_body.specs.Packets.{Packet, packet_entries, file_entries}
use Rattle.r10_body.specs.Rules.{EachFollows, KeepsChannels, KeepsSequence, KeepsCounts, Rise, packet_on, is_entry_on}
use Rattle.r10_body.specs.declared.entry.Entry.{Entry}
use Rattle.r10_body.specs.Sequence.{next_sequence, last_count}
use Rattle.r10_body.proofs.ChannelLists.{packet_off_channel, channel_same, channel_other, sequence_same, sequence_other, rises, last_joined, rise_behind}
use Rattle.r10_body.proofs.Indexes.{counted, counted_first, counted_yes, counted_no}
use Rattle.r10_packet_rules.specs.Facts.{AreFactsOf, Spans, TellsCounts}
use Rattle.r10_packet_rules.specs.declared.facts.Facts.{Facts}
use Rattle.r10_packet_rules.specs.declared.facts.Spread.{Spread}
use Rattle.r10_file_rules.specs.Channels.{HaveType, KeptOf, IsKeptOfChannel, AreKept}
use Rattle.r10_file_rules.specs.declared.channels.ChannelTrack.{ChannelTrack}
use Rattle.r10_count.proofs.Lists.{all_more}

on_it : (channel : ℕ) (p : Packet) → p.channel ≡ channel → packet_on channel p ≡ true
on_it channel p e = eq-eqb p.channel channel e

-- ---- types

pub types_none : (channel type : ℕ) (ps : List Packet) → count_by (packet_on channel) ps ≡ 0 → HaveType channel type ps
types_none channel type [] none = tt
types_none channel type (p ∷ ps) none = (
  λ e. absurd (omega (arith, none, counted_first (packet_on channel) p ps, counted_yes (packet_on channel) p (on_it channel p e))),
  types_none channel type ps (omega (arith, none, counted_first (packet_on channel) p ps)),
)

same_at : (channel a b : ℕ) (p : Packet) (ps : List Packet) (on : Bool) → packet_on channel p ≡ on → 0 < count_by (packet_on channel) (p ∷ ps) → HaveType channel a (p ∷ ps) → HaveType channel b (p ∷ ps)
    → (0 < count_by (packet_on channel) ps → a ≡ b) → a ≡ b
same_at channel a b p ps true is some left right rest = let e : p.channel ≡ channel = eqb-true p.channel channel is in sym (left.0 e) ∙ right.0 e
same_at channel a b p ps false is some left right rest = rest (omega (arith, some, counted_first (packet_on channel) p ps, counted_no (packet_on channel) p is))

-- the packets of a channel have one type
pub same_type : (channel a b : ℕ) (ps : List Packet) → 0 < count_by (packet_on channel) ps → HaveType channel a ps → HaveType channel b ps → a ≡ b
same_type channel a b [] some left right = absurd (omega (arith, some))
same_type channel a b (p ∷ ps) some left right = same_at channel a b p ps (packet_on channel p) refl some left right (λ more. same_type channel a b ps more left.1 right.1)

-- ---- counts

none_at : (channel : ℕ) (p : Packet) (ps : List Packet) (on : Bool) → packet_on channel p ≡ on → count_by (packet_on channel) (p ∷ ps) ≡ 0 → p.channel == channel ≡ false
none_at channel p ps true is none = absurd (omega (arith, none, counted_first (packet_on channel) p ps, counted_yes (packet_on channel) p is))
none_at channel p ps false is none = is

-- where no packet is, no entry is
pub nothing_on : (channel : ℕ) (ps : List Packet) → count_by (packet_on channel) ps ≡ 0 → on_channel channel (file_entries ps) ≡ []
nothing_on channel [] none = refl
nothing_on channel (p ∷ ps) none =
    let off : on_channel channel (packet_entries p) ≡ [] = packet_off_channel channel p (none_at channel p ps (packet_on channel p) refl none) in
    let rest : on_channel channel (file_entries ps) ≡ [] = nothing_on channel ps (omega (arith, none, counted_first (packet_on channel) p ps)) in
    filter-append (is_entry_on channel) (packet_entries p) (file_entries ps) ∙ ap (λ (es : List Entry). es ++ on_channel channel (file_entries ps)) off ∙ rest

pub last_given : (a b : ℕ) (es : List Entry) → 0 < length es → last_count a es ≡ last_count b es
last_given a b [] some = absurd (omega (arith, some))
last_given a b (e ∷ es) some = refl

spans_some : (s : Spread) (es : List Entry) → Spans s es → 0 < length es
spans_some s [] spans = let e : [] ≡ s.first ∷ [] = spans.first in absurd (cc)
spans_some s (e ∷ es) spans = omega arith

-- the last count of a channel after a packet's entries
pub last_spanned : (before : ℕ) (s : Spread) (es : List Entry) → Spans s es → s.last ≡ last_count before es
last_spanned before s es spans = spans.last ∙ last_given s.first before es (spans_some s es spans)

pub rise_join : (count : ℕ) (es fs : List Entry) → Rise count es → Rise (last_count count es) fs → Rise count (es ++ fs)
rise_join count [] fs rise more = more
rise_join count (e ∷ es) fs rise more = (rise.0, rise_join e.count es fs rise.1 more)

-- what the counts of a packet's entries have to be after those of its channel
abbrev pub GoOn : ℕ → List Entry → List Entry → Type 0
GoOn counter before es = AllByRecursion (λ e. counter ≡ e.count) (take 1 es) × Rise 0 (before ++ es) × AllByRecursion (λ e. e.count ≤ counter + 1000000) es

abbrev pub Follow : ℕ → ℕ → Spread → Type 0
Follow last counter s = (counter ≡ s.first) × (last ≤ s.first) × IsTrue s.rise × (s.greatest ≤ counter + 1000000)

first_is : (s : Spread) (e : Entry) (es : List Entry) → Spans s (e ∷ es) → e.count ≡ s.first
first_is s e es spans = let same : e.count ∷ [] ≡ s.first ∷ [] = spans.first in cc

pub go_from : (last counter : ℕ) (s : Spread) (before es : List Entry) → Spans s es → last ≡ last_count 0 before → Rise 0 before → Follow last counter s → GoOn counter before es
go_from last counter s before [] spans is rise follow = let e : [] ≡ s.first ∷ [] = spans.first in absurd (cc)
go_from last counter s before (e ∷ es) spans is rise follow =
    let first : e.count ≡ s.first = first_is s e es spans in
    let rises : Rise s.first (e ∷ es) = spans.rise.0 follow.2 in (
      (follow.0 ∙ sym first, tt),
      rise_join 0 before (e ∷ es) rise (omega (arith, is, follow.1, first), rises.1),
      (spans.greatest (counter + 1000000)).0 follow.3,
    )

pub go_to : (last counter : ℕ) (s : Spread) (before es : List Entry) → Spans s es → last ≡ last_count 0 before → GoOn counter before es → Follow last counter s
go_to last counter s before [] spans is go = let e : [] ≡ s.first ∷ [] = spans.first in absurd (cc)
go_to last counter s before (e ∷ es) spans is go =
    let first : e.count ≡ s.first = first_is s e es spans in
    let rises : Rise (last_count 0 before) (e ∷ es) = rise_behind 0 before (e ∷ es) go.1 in
    (go.0.0 ∙ first, omega (arith, is, rises.0, first), spans.rise.1 (omega (arith, first), rises.1), (spans.greatest (counter + 1000000)).1 go.2)

pub go_none : (counter : ℕ) (before : List Entry) → Rise 0 before → GoOn counter before []
go_none counter before rise = (tt, subst (λ (es : List Entry). Rise 0 es) (sym (append-nil before)) rise, tt)

-- ---- rules

-- rule 5
pub type_kept : (packets : List Packet) (p : Packet) (f : Facts) (track : ChannelTrack) → 0 < f.channel → KeptOf packets f.channel track → AreFactsOf f p
    → IsTrue (track.data_type == f.data_type) ↔ (0 < p.channel → HaveType p.channel (type_of p.content) packets)
type_kept packets p f track some kept tells = (
  λ e _. subst (λ n. HaveType n (type_of p.content) packets) tells.channel (subst (λ n. HaveType f.channel n packets) (eqb-true track.data_type f.data_type e ∙ tells.data_type) (kept.types some)),
  λ all. eq-eqb track.data_type f.data_type
      (same_type f.channel track.data_type f.data_type packets kept.some (kept.types some)
      (subst (λ n. HaveType n f.data_type packets) (sym tells.channel) (subst (λ n. HaveType p.channel n packets) (sym tells.data_type) (all (subst (λ n. 0 < n) tells.channel some))))),
)

pub no_type_kept : (packets : List Packet) (p : Packet) (f : Facts) → count_by (packet_on f.channel) packets ≡ 0 → AreFactsOf f p → IsTrue true ↔ (0 < p.channel → HaveType p.channel (type_of p.content) packets)
no_type_kept packets p f none tells =
    let nowhere : count_by (packet_on p.channel) packets ≡ 0 = subst (λ n. count_by (packet_on n) packets ≡ 0) tells.channel none in
    (λ e some. types_none p.channel (type_of p.content) packets nowhere, λ all. refl)

pub last_none : (packets : List Packet) (channel : ℕ) → count_by (packet_on channel) packets ≡ 0 → 0 ≡ last_count 0 (on_channel channel (file_entries packets))
last_none packets channel none = sym (ap (λ (es : List Entry). last_count 0 es) (nothing_on channel packets none))

-- rule 6
pub sequence_kept : (packets : List Packet) (p : Packet) (f : Facts) (next : ℕ) → next ≡ next_sequence f.channel packets → AreFactsOf f p → IsTrue (f.sequence == next) ↔ KeepsSequence packets p
sequence_kept packets p f next is tells =
    let whole : next ≡ next_sequence p.channel packets = is ∙ ap (λ n. next_sequence n packets) tells.channel in
    (λ e. sym tells.sequence ∙ eqb-true f.sequence next e ∙ whole, λ keeps. eq-eqb f.sequence next (tells.sequence ∙ keeps ∙ sym whole))

-- rule 7
pub counts_kept : (packets : List Packet) (p : Packet) (f : Facts) (s : Spread) (last : ℕ) (b : Bool) → f.counts ≡ Some s → (IsTrue b ↔ Follow last f.counter s)
    → last ≡ last_count 0 (on_channel f.channel (file_entries packets)) → EachFollows [] packets → AreFactsOf f p → IsTrue b ↔ KeepsCounts packets p
counts_kept packets p f s last b is decides last_is each tells =
    let before : List Entry = on_channel p.channel (file_entries packets) in
    let spans : Spans s (packet_entries p) = subst (λ (o : Option Spread). TellsCounts o (packet_entries p)) is tells.counts in
    let at : last ≡ last_count 0 before = last_is ∙ ap (λ n. last_count 0 (on_channel n (file_entries packets))) tells.channel in
    let rise : Rise 0 before = rises p.channel packets each in (
      λ e. subst (λ n. GoOn n before (packet_entries p)) tells.counter (go_from last f.counter s before (packet_entries p) spans at rise (decides.0 e)),
      λ keeps. decides.1 (go_to last f.counter s before (packet_entries p) spans at (subst (λ n. GoOn n before (packet_entries p)) (sym tells.counter) keeps)),
    )

pub no_counts_kept : (packets : List Packet) (p : Packet) (f : Facts) → f.counts ≡ None → EachFollows [] packets → AreFactsOf f p → IsTrue true ↔ KeepsCounts packets p
no_counts_kept packets p f is each tells =
    let before : List Entry = on_channel p.channel (file_entries packets) in
    let none : packet_entries p ≡ [] = subst (λ (o : Option Spread). TellsCounts o (packet_entries p)) is tells.counts in
    (λ e. subst (λ (es : List Entry). GoOn p.counter before es) (sym none) (go_none p.counter before (rises p.channel packets each)), λ keeps. refl)

-- ---- a channel with a packet more

pub last_some : (packets : List Packet) (p : Packet) (f : Facts) (s : Spread) → f.counts ≡ Some s → AreFactsOf f p → s.last ≡ last_count 0 (on_channel p.channel (file_entries packets) ++ packet_entries p)
last_some packets p f s is tells =
    let before : List Entry = on_channel p.channel (file_entries packets) in
    let spans : Spans s (packet_entries p) = subst (λ (o : Option Spread). TellsCounts o (packet_entries p)) is tells.counts in
    last_spanned (last_count 0 before) s (packet_entries p) spans ∙ sym (last_joined 0 before (packet_entries p))

pub last_same : (packets : List Packet) (p : Packet) (f : Facts) (last : ℕ) → f.counts ≡ None → last ≡ last_count 0 (on_channel f.channel (file_entries packets)) → AreFactsOf f p
    → last ≡ last_count 0 (on_channel p.channel (file_entries packets) ++ packet_entries p)
last_same packets p f last is last_is tells =
    let before : List Entry = on_channel p.channel (file_entries packets) in
    let none : packet_entries p ≡ [] = subst (λ (o : Option Spread). TellsCounts o (packet_entries p)) is tells.counts in
    last_is ∙ ap (λ n. last_count 0 (on_channel n (file_entries packets))) tells.channel
    ∙ sym (ap (λ (es : List Entry). last_count 0 (before ++ es)) none ∙ ap (λ (es : List Entry). last_count 0 es) (append-nil before))

pub kept_more : (packets : List Packet) (p : Packet) (f : Facts) (track : ChannelTrack) (next : ℕ) → next ≡ next_sequence f.channel packets → KeepsChannels packets p → AreFactsOf f p
    → track.data_type ≡ f.data_type → track.sequence ≡ (next + 1) % 256 → track.last ≡ last_count 0 (on_channel p.channel (file_entries packets) ++ packet_entries p) → KeptOf (packets ++ p ∷ []) f.channel track
kept_more packets p f track next next_is keeps tells type_is sequence_is last_is =
    let one : count_by (packet_on p.channel) (p ∷ []) ≡ 1 = counted_yes (packet_on p.channel) p (on_it p.channel p refl) in
    let typed : 0 < p.channel → HaveType p.channel (type_of p.content) (packets ++ p ∷ []) = λ some. all_more (λ (q : Packet). q.channel ≡ p.channel → type_of q.content ≡ type_of p.content) packets p (keeps.1 some) (λ e. refl) in
    let kept : KeptOf (packets ++ p ∷ []) p.channel track = record {
      some = omega (arith, counted (packet_on p.channel) packets p, one);
      types = λ some. subst (λ (n : ℕ). HaveType p.channel n (packets ++ p ∷ [])) (sym (type_is ∙ tells.data_type)) (typed some);
      sequence = sequence_is ∙ ap (λ n. (n + 1) % 256) (next_is ∙ ap (λ n. next_sequence n packets) tells.channel) ∙ sym (sequence_same packets p);
      last = last_is ∙ sym (ap (λ (es : List Entry). last_count 0 es) (channel_same packets p));
    } in
    subst (λ n. KeptOf (packets ++ p ∷ []) n track) (sym tells.channel) kept

-- ---- all channels

kept_other : (packets : List Packet) (p : Packet) (channel : ℕ) (o : Option ChannelTrack) → p.channel == channel ≡ false → IsKeptOfChannel packets channel o → IsKeptOfChannel (packets ++ p ∷ []) channel o
kept_other packets p channel None off kept = omega (arith, kept, counted (packet_on channel) packets p, counted_no (packet_on channel) p off)
kept_other packets p channel (Some track) off kept = record {
  some = omega (arith, kept.some, counted (packet_on channel) packets p);
  types = λ some. all_more (λ (q : Packet). q.channel ≡ channel → type_of q.content ≡ track.data_type) packets p (kept.types some) (λ e. absurd (false≢true (sym off ∙ on_it channel p e)));
  sequence = kept.sequence ∙ sym (sequence_other channel packets p off);
  last = kept.last ∙ sym (ap (λ (es : List Entry). last_count 0 es) (channel_other channel packets p off));
}

kept_at : (packets : List Packet) (p : Packet) (f : Facts) (track : ChannelTrack) (channel : ℕ) (b : Bool) (o : Option ChannelTrack) → f.channel == channel ≡ b → AreFactsOf f p → IsKeptOfChannel packets channel o
    → KeptOf (packets ++ p ∷ []) f.channel track → IsKeptOfChannel (packets ++ p ∷ []) channel (cond b (Some track) o)
kept_at packets p f track channel true o is tells kept new = subst (λ n. KeptOf (packets ++ p ∷ []) n track) (eqb-true f.channel channel is) new
kept_at packets p f track channel false o is tells kept new = kept_other packets p channel o (subst (λ n. n == channel ≡ false) tells.channel is) kept

pub are_kept : {S : Type 0} (packets : List Packet) (p : Packet) (f : Facts) (track : ChannelTrack) (old new : HashMap ℕ ChannelTrack S) → ((channel : ℕ) → get nat_eq new channel ≡ cond (nat_eq f.channel channel) (Some track) (get nat_eq old channel))
    → AreKept old packets → AreFactsOf f p → KeptOf (packets ++ p ∷ []) f.channel track → AreKept new (packets ++ p ∷ [])
are_kept packets p f track old new puts kept tells here =
    λ channel. subst (λ (o : Option ChannelTrack). IsKeptOfChannel (packets ++ p ∷ []) channel o) (sym (puts channel)) (kept_at packets p f track channel (nat_eq f.channel channel) (get nat_eq old channel) refl tells (kept channel) here)
