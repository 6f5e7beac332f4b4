-- A packet that the recorder makes itself, of one entry.
use Rattle.std.proofs.Common.{◌≡◌, ℕ, ◌+◌, ◌%◌, ◌^◌, ◌<◌, ◌≤◌, Bool, true, false, cond, ◌==◌, List, [], ◌∷◌, ◌++◌, length, map, get_or, set, refl, sym, ap, subst, ◌∙◌, arith}
use Rattle.std.specs.List.{AllByRecursion, sum_by}
use Rattle.std.proofs.lemmas.Bool.{eqb-true}
use Rattle.std.proofs.lemmas.List.{append-nil, take-append-le}
use Rattle.std.proofs.lemmas.List.Sums.{sum_by-cons}
use Rattle.r10_count.specs.Civil.{IsCivil}
use Rattle.r10_count.specs.Count.{IsCount}
use Rattle.r10_count.specs.declared.civil.Parts.{Parts}
use Rattle.r10_count.proofs.Lists.{all_more}
use Rattle.r10_medium.specs.Disk.{Image}
use Rattle.r10_body.specs.Content.{type_of}
use Rattle.r10_body.specs.Cost.{entry_cost}
use Rattle.r10_body.specs.Files.{on_channel}
use Rattle.r10_body.specs.Packets.{Packet, file_entries, packet_entries}
use Rattle.r10_body.specs.Rules.{EachFollows, MayFollow, Rise, is_index, is_report_packet, is_time, last_time}
use Rattle.r10_body.specs.declared.entry.Entry.{Entry}
use Rattle.r10_body.specs.declared.gap.Gap.TheVariants.{Whole}
use Rattle.r10_body.specs.declared.message.Message.TheVariants as messages
use Rattle.r10_body.specs.Sequence.{last_count, numbered}
use Rattle.r10_body.proofs.ChannelLists.{packet_off_channel, rises}
use Rattle.r10_index.proofs.FileWithIndex.{last_more}
use Rattle.r10_builder.specs.State.{BuilderState}
use Rattle.r10_builder.specs.Grows.{Grows, HasNoneOf, taken_in}
use Rattle.r10_builder.specs.Next.{ChannelGoesOn, IsGrowing, event_packet, time_packet}
use Rattle.r10_builder.proofs.Following.{event_follows, grows_on, time_follows}
use Rattle.r10_builder.proofs.Growing.{between, both, none_held}
use Rattle.r10_builder.specs.Packed.{Packed}
use Rattle.r10_builder.specs.Settings.{KeepsSettings, specs_of}
use Rattle.r10_builder.proofs.Places.{none_other}
use Rattle.r10_packetout.specs.Output.{Has, Writing}
use Rattle.r10_packetout.specs.Carries.{EventsAreCounted, Records, Recording, Says, StandApart, next_event_entry, occurrences, time_entry_at}
use Rattle.r10_packetout.proofs.Carrying.{costs_more, entries_more}
use Rattle.r10_packetout.proofs.Events.{counted_more, counted_on, in_packets}

-- ---- a channel that no builder has

-- all that it has is in packets
pub own_entries : (channel : ℕ) (packets : List Packet) (builders : List BuilderState) → HasNoneOf channel builders → on_channel channel (taken_in packets builders) ≡ on_channel channel (file_entries packets)
own_entries channel packets builders none =
    both channel packets builders ∙ ap (λ (es : List Entry). on_channel channel (file_entries packets) ++ es) (none_held builders channel none) ∙ append-nil (on_channel channel (file_entries packets))

own_rise : (packets : List Packet) (p : Packet) (builders : List BuilderState) (channel : ℕ) (b : Bool) → p.channel == channel ≡ b → HasNoneOf p.channel builders → EachFollows [] (packets ++ p ∷ [])
    → Rise 0 (on_channel channel (taken_in packets builders)) → Rise 0 (on_channel channel (taken_in (packets ++ p ∷ []) builders))
own_rise packets p builders channel true on none each rise =
    let is : p.channel ≡ channel = eqb-true p.channel channel on in
    let all = own_entries channel (packets ++ p ∷ []) builders (subst (λ (n : ℕ). HasNoneOf n builders) is none) in
    subst (λ (es : List Entry). Rise 0 es) (sym all) (rises channel (packets ++ p ∷ []) each)
own_rise packets p builders channel false off none each rise =
    let before : List Entry = on_channel channel (taken_in packets builders) in
    let same : on_channel channel (taken_in (packets ++ p ∷ []) builders) ≡ before =
    between packets builders p none channel ∙ ap (λ (es : List Entry). before ++ es) (packet_off_channel channel p off) ∙ append-nil before in
    subst (λ (es : List Entry). Rise 0 es) (sym same) rise

own_packed : (packets : List Packet) (p : Packet) (builders : List BuilderState) → Packed packets builders → HasNoneOf p.channel builders → MayFollow packets p → is_index p ≡ false → is_report_packet p ≡ false → Packed (packets ++ p ∷ []) builders
own_packed packets p builders packed none may other plain =
    let growing : IsGrowing (packets ++ p ∷ []) = grows_on packets p packed.growing may other plain in
    record {
      growing = growing;
      kept = all_more (KeepsSettings (specs_of builders)) packets p packed.kept (none_other p builders none);
      rise = λ channel. own_rise packets p builders channel (p.channel == channel) refl none growing.each (packed.rise channel);
    }

one_cost : (e : Entry) → sum_by entry_cost (e ∷ []) ≡ entry_cost e
one_cost e = omega (arith, sum_by-cons entry_cost e [])

-- ---- a packet of one entry more

own_said : (r : Recording) (packets : List Packet) (text : List ℕ) (entries : List Entry) (p : Packet) (e : Entry) (out : Writing) (clock : ℕ) (counts : List ℕ) → Says r packets text entries
    → HasNoneOf p.channel r.builders → MayFollow packets p → is_index p ≡ false → is_report_packet p ≡ false → packet_entries p ≡ e ∷ [] → (p.channel ≡ r.time → type_of p.content ≡ 0x11) → (p.channel ≡ r.event → type_of p.content ≡ 0x02)
    → last_time 0 (packets ++ p ∷ []) ≡ clock → EventsAreCounted counts (entries ++ e ∷ [])
    → Says (record r { out = out; clock = clock; counts = counts; cost = r.cost + entry_cost e }) (packets ++ p ∷ []) text (entries ++ e ∷ [])
own_said r packets text entries p e out clock counts says none may other plain is times events clock_is counted =
    let two : 2 ≤ length packets = says.packed.growing.start in
    let grows : Grows packets r.builders (e ∷ []) (packets ++ p ∷ []) r.builders = subst (λ (es : List Entry). Grows packets r.builders es (packets ++ p ∷ []) r.builders) is (between packets r.builders p none) in
    record {
      packed = own_packed packets p r.builders says.packed none may other plain;
      times = all_more (λ (q : Packet). q.channel ≡ r.time → type_of q.content ≡ 0x11) packets p says.times times;
      events = all_more (λ (q : Packet). q.channel ≡ r.event → type_of q.content ≡ 0x02) packets p says.events events;
      setup_is = ap (λ (ps : List Packet). map (λ (q : Packet). q.content) ps) (take-append-le 1 packets (p ∷ []) (omega (arith, two))) ∙ says.setup_is;
      entries_are = entries_more packets (packets ++ p ∷ []) r.builders r.builders entries (e ∷ []) says.entries_are grows;
      clock_is = clock_is;
      messages = says.messages;
      counts_are = counted;
      cost_is = ap (λ n. r.cost + n) (sym (one_cost e)) ∙ costs_more text packets (packets ++ p ∷ []) r.builders r.builders (e ∷ []) r.cost says.cost_is grows;
    }

-- no count on the channel is later, in packets either
goes : (r : Recording) (packets : List Packet) (text : List ℕ) (entries : List Entry) (channel type count : ℕ) → Says r packets text entries → HasNoneOf channel r.builders → 0 < channel
    → AllByRecursion (λ p. p.channel ≡ channel → type_of p.content ≡ type) packets → last_count 0 (on_channel channel entries) ≤ count → ChannelGoesOn packets channel type count
goes r packets text entries channel type count says none above is later = record {
  above = above;
  type_is = is;
  later = subst (λ (es : List Entry). last_count 0 es ≤ count) (sym (says.entries_are channel) ∙ own_entries channel packets r.builders none) later;
}

-- ---- times

last_is : (counter : ℕ) (packets : List Packet) (p : Packet) → is_time p ≡ true → last_time counter (packets ++ p ∷ []) ≡ p.counter
last_is counter [] p on = rw on refl
last_is counter (q ∷ packets) p on = last_is (cond (is_time q) q.counter counter) packets p on

pub time_said : (r : Recording) (packets : List Packet) (text : List ℕ) (entries : List Entry) (count : ℕ) (civil : Parts) (out : Writing) → Says r packets text entries → StandApart r
    → last_count 0 (on_channel r.time entries) ≤ count → IsCount count → IsCivil civil
    → Says (record r { out = out; clock = count; cost = r.cost + entry_cost (time_entry_at r.time count civil) }) (packets ++ numbered packets (time_packet r.time count civil) ∷ []) text (entries ++ time_entry_at r.time count civil ∷ [])
time_said r packets text entries count civil out says apart later counts is =
    let p : Packet = numbered packets (time_packet r.time count civil) in
    let e : Entry = time_entry_at r.time count civil in
    let may : MayFollow packets p = time_follows packets r.time count civil says.packed.growing (goes r packets text entries r.time 0x11 count says apart.time apart.times.0 says.times later) apart.times.1 counts is in
    own_said r packets text entries p e out count r.counts says apart.time may refl refl refl (λ same. refl) (λ same. absurd (apart.differ same)) (last_is 0 packets p refl) (counted_on r.counts entries (e ∷ []) says.counts_are (λ q. refl))

pub times_carried : (r : Recording) (image : Image) (text : List ℕ) (entries : List Entry) (carried : Records r image text entries) → StandApart r → (count : ℕ) (civil : Parts)
    → last_count 0 (on_channel r.time entries) ≤ count → IsCount count → IsCivil civil → (out : Writing) (later : Image) → Has out later (carried.packets ++ numbered carried.packets (time_packet r.time count civil) ∷ [])
    → Records (record r { out = out; clock = count; cost = r.cost + entry_cost (time_entry_at r.time count civil) }) later text (entries ++ time_entry_at r.time count civil ∷ [])
times_carried r image text entries carried apart count civil rise counts is out later has = record {
  packets = carried.packets ++ numbered carried.packets (time_packet r.time count civil) ∷ [];
  has = has;
  says = time_said r carried.packets text entries count civil out carried.says apart rise counts is;
}

-- ---- events

pub event_said : (r : Recording) (packets : List Packet) (text : List ℕ) (entries : List Entry) (count number : ℕ) (out : Writing) → Says r packets text entries → StandApart r
    → last_count 0 (on_channel r.event entries) ≤ count → IsCount count → number < 2 ^ 12 → number < length r.counts
    → Says (record r { out = out; counts = set r.counts number ((get_or r.counts number 0 + 1) % 65536); cost = r.cost + entry_cost (next_event_entry r.event count number entries) })
    (packets ++ numbered packets (event_packet r.event count number packets) ∷ []) text (entries ++ next_event_entry r.event count number entries ∷ [])
event_said r packets text entries count number out says apart later counts few lt =
    let p : Packet = numbered packets (event_packet r.event count number packets) in
    let e : Entry = next_event_entry r.event count number entries in
    let may : MayFollow packets p = event_follows packets r.event count number says.packed.growing (goes r packets text entries r.event 0x02 count says apart.event apart.events.0 says.events later) apart.events.1 counts few in
    let entry : packet_entries p ≡ e ∷ [] =
    ap (λ n. record { channel = r.event; count = count; message = messages.Event number (n % 65536); gap = Whole } ∷ []) (in_packets packets r.builders entries number says.entries_are says.messages) in
    own_said r packets text entries p e out r.clock (set r.counts number ((get_or r.counts number 0 + 1) % 65536)) says apart.event may refl refl entry (λ same. absurd (apart.differ (sym same))) (λ same. refl)
    (last_more 0 packets p refl ∙ says.clock_is) (counted_more r.counts entries number e (λ q. refl) lt says.counts_are)

pub events_carried : (r : Recording) (image : Image) (text : List ℕ) (entries : List Entry) (carried : Records r image text entries) → StandApart r → (count number : ℕ)
    → last_count 0 (on_channel r.event entries) ≤ count → IsCount count → number < 2 ^ 12 → number < length r.counts → (out : Writing) (later : Image)
    → Has out later (carried.packets ++ numbered carried.packets (event_packet r.event count number carried.packets) ∷ [])
    → Records (record r { out = out; counts = set r.counts number ((get_or r.counts number 0 + 1) % 65536); cost = r.cost + entry_cost (next_event_entry r.event count number entries) }) later text (entries ++ next_event_entry r.event count number entries ∷ [])
events_carried r image text entries carried apart count number rise counts few lt out later has = record {
  packets = carried.packets ++ numbered carried.packets (event_packet r.event count number carried.packets) ∷ [];
  has = has;
  says = event_said r carried.packets text entries count number out carried.says apart rise counts few lt;
}

-- what an event tells is what is kept of its number
pub reported : (r : Recording) (packets : List Packet) (text : List ℕ) (entries : List Entry) → Says r packets text entries → (number : ℕ) → get_or r.counts number 0 ≡ occurrences number (file_entries packets)
reported r packets text entries says number = says.counts_are number ∙ ap (λ n. n % 65536) (sym (in_packets packets r.builders entries number says.entries_are says.messages))
