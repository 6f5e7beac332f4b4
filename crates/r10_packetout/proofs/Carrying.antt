-- What a file carries, with entries more.
use Rattle.std.proofs.Common.{◌≡◌, ℕ, ◌+◌, ◌<◌, ◌≤◌, Bool, true, false, ◌==◌, List, [], ◌∷◌, ◌++◌, length, map, take, None, refl, sym, ap, subst, ◌∙◌, arith}
use Rattle.std.specs.List.{sum_by}
use Rattle.std.proofs.lemmas.Bool.{eqb-true}
use Rattle.std.proofs.lemmas.List.{append-nil, length-append, take-append-le}
use Rattle.std.proofs.lemmas.List.Elements.{filter-append}
use Rattle.std.proofs.lemmas.List.Sums.{sum_by-append}
use Rattle.r10_count.proofs.Lists.{all_more}
use Rattle.r10_medium.specs.Disk.{Image}
use Rattle.r10_body.specs.Content.{type_of}
use Rattle.r10_body.specs.Cost.{entry_cost, file_cost}
use Rattle.r10_body.specs.Files.{PacketsSay, on_channel}
use Rattle.r10_body.specs.Packets.{Packet, file_bytes, file_entries}
use Rattle.r10_body.specs.Rules.{is_entry_on, last_time}
use Rattle.r10_body.specs.declared.entry.Entry.{Entry}
use Rattle.r10_body.specs.declared.gap.Gap.{Gap}
use Rattle.r10_body.specs.declared.gap.Gap.TheVariants.{Whole, Lost, Unknown}
use Rattle.r10_body.proofs.Lengths.{packets_covered}
use Rattle.r10_body.proofs.Rules.{entries_more as packet_entries_more}
use Rattle.r10_builder.specs.State.{BuilderState}
use Rattle.r10_builder.specs.declared.closed.Closed.{Closed}
use Rattle.r10_builder.specs.Grows.{Grows, HasNoneOf, all_held, taken_in}
use Rattle.r10_builder.specs.Next.{HasType, extended_by, report_packet, reporting}
use Rattle.r10_body.specs.Sequence.{numbered}
use Rattle.r10_index.proofs.FileWithIndex.{last_more}
use Rattle.r10_builder.proofs.Following.{says_so}
use Rattle.r10_builder.proofs.Growing.{cost_more}
use Rattle.r10_builder.specs.Packed.{HandsOnPacket, TakesInSamples}
use Rattle.r10_builder.proofs.Taking.{entries_same}
use Rattle.r10_packetout.specs.Output.{Has, Writing}
use Rattle.r10_packetout.specs.Carries.{Records, HasNoEvents, Recording, Says, StandApart}
use Rattle.r10_packetout.proofs.Events.{counted_on, held_closed, held_joined, no_events}

-- ---- entries and cost

pub entries_more : (packets packets' : List Packet) (builders builders' : List BuilderState) (entries more : List Entry) → ((channel : ℕ) → on_channel channel (taken_in packets builders) ≡ on_channel channel entries)
    → Grows packets builders more packets' builders' → (channel : ℕ) → on_channel channel (taken_in packets' builders') ≡ on_channel channel (entries ++ more)
entries_more packets packets' builders builders' entries more are grows channel =
    grows channel ∙ ap (λ (es : List Entry). es ++ on_channel channel more) (are channel) ∙ sym (filter-append (is_entry_on channel) entries more)

pub costs_more : (text : List ℕ) (packets packets' : List Packet) (builders builders' : List BuilderState) (more : List Entry) (cost : ℕ) → cost ≡ file_cost text (taken_in packets builders)
    → Grows packets builders more packets' builders' → cost + sum_by entry_cost more ≡ file_cost text (taken_in packets' builders')
costs_more text packets packets' builders builders' more cost is grows =
    ap (λ n. n + sum_by entry_cost more) is ∙ sym (cost_more text packets builders more packets' builders' grows)

-- ---- one packet more

not_at : (type n : ℕ) (b : Bool) → type == n ≡ b → n + 1 ≤ type → type == n ≡ false
not_at type n true e lt = absurd (omega (arith, lt, eqb-true type n e))
not_at type n false e lt = e

type_more : (channel type : ℕ) (packets : List Packet) (p : Packet) (builders : List BuilderState) → HasType channel type packets → HasNoneOf channel builders → (HasNoneOf p.channel builders → ⊥) → HasType channel type (packets ++ p ∷ [])
type_more channel type packets p builders has none on =
    all_more (λ (q : Packet). q.channel ≡ channel → type_of q.content ≡ type) packets p has (λ is. absurd (on (subst (λ (n : ℕ). HasNoneOf n builders) (sym is) none)))

-- ---- a report more, where there is one

pub record IsFront (packets before : List Packet) : Type 0 where
  pub some : 1 ≤ length before
  pub first : take 1 before ≡ take 1 packets
  pub time : last_time 0 before ≡ last_time 0 packets
  pub types : (channel type : ℕ) → 0 < channel → HasType channel type packets → HasType channel type before

same_front : (packets : List Packet) → 2 ≤ length packets → IsFront packets packets
same_front packets two = record { some = omega (arith, two); first = refl; time = refl; types = λ channel type above has. has }

pub front_of : (packets : List Packet) (p : Packet) (g : Gap) → p.gap ≡ g → 2 ≤ length packets → IsFront packets (reporting packets p)
front_of packets p Whole e two = rw e (same_front packets two)
front_of packets p (Lost n) e two =
    let r : Packet = numbered packets (report_packet (last_time 0 packets) p.channel n) in
    let front : IsFront packets (packets ++ r ∷ []) = record {
      some = omega (arith, two, length-append packets (r ∷ []));
      first = take-append-le 1 packets (r ∷ []) (omega (arith, two));
      time = last_more 0 packets r refl;
      types = λ channel type above has. all_more (λ (q : Packet). q.channel ≡ channel → type_of q.content ≡ type) packets r has (λ is. absurd (omega (arith, above, is)));
    } in
    rw e front
front_of packets p Unknown e two = rw e (same_front packets two)

-- ---- the laws

pub samples_carried : (r : Recording) (image : Image) (text : List ℕ) (entries more : List Entry) (builders : List BuilderState) (carried : Records r image text entries)
    → HasNoEvents more → TakesInSamples carried.packets r.builders more None builders → Records (record r { builders = builders; cost = r.cost + sum_by entry_cost more }) image text (entries ++ more)
samples_carried r image text entries more builders carried plain takes =
    let says = carried.says in
    record {
      packets = carried.packets;
      has = carried.has;
      says = record {
        packed = takes.0;
        times = says.times;
        events = says.events;
        setup_is = says.setup_is;
        entries_are = entries_more carried.packets carried.packets r.builders builders entries more says.entries_are takes.1;
        clock_is = says.clock_is;
        messages = held_joined carried.packets r.builders builders more says.messages plain takes.1;
        counts_are = counted_on r.counts entries more says.counts_are plain;
        cost_is = costs_more text carried.packets carried.packets r.builders builders more r.cost says.cost_is takes.1;
      };
    }

pub packet_said : (r : Recording) (packets : List Packet) (text : List ℕ) (entries more : List Entry) (builders : List BuilderState) → Says r packets text entries → StandApart r → HasNoEvents more
    → (closed : Closed) (hands : HandsOnPacket closed packets r.builders more builders) (out : Writing)
    → Says (record r { builders = builders; out = out; cost = r.cost + sum_by entry_cost more }) (extended_by packets hands.packet) text (entries ++ more)
packet_said r packets text entries more builders says apart plain closed hands out =
    let before : List Packet = reporting packets hands.packet in
    let p : Packet = numbered before hands.packet in
    let now : List Packet = extended_by packets hands.packet in
    let two : 2 ≤ length packets = says.packed.growing.start in
    let front = front_of packets hands.packet hands.packet.gap refl two in
    record {
      packed = hands.packed;
      times = type_more r.time 0x11 before p r.builders (front.types r.time 0x11 apart.times.0 says.times) apart.time hands.on;
      events = type_more r.event 0x02 before p r.builders (front.types r.event 0x02 apart.events.0 says.events) apart.event hands.on;
      setup_is = ap (λ (ps : List Packet). map (λ (q : Packet). q.content) ps) (take-append-le 1 before (p ∷ []) front.some ∙ front.first) ∙ says.setup_is;
      entries_are = entries_more packets now r.builders builders entries more says.entries_are hands.grows;
      clock_is = last_more 0 before p (not_at (type_of hands.packet.content) 0x11 (type_of hands.packet.content == 0x11) refl (omega (arith, hands.data_type))) ∙ front.time ∙ says.clock_is;
      messages = held_closed packets now r.builders builders more p says.messages plain (no_events p (not_at (type_of hands.packet.content) 2 (type_of hands.packet.content == 2) refl (omega (arith, hands.data_type))))
          (entries_same packets hands.packet ∙ packet_entries_more packets p) hands.grows;
      counts_are = counted_on r.counts entries more says.counts_are plain;
      cost_is = costs_more text packets now r.builders builders more r.cost says.cost_is hands.grows;
    }

pub packets_carried : (r : Recording) (image : Image) (text : List ℕ) (entries more : List Entry) (builders : List BuilderState) (carried : Records r image text entries) → StandApart r
    → HasNoEvents more → (closed : Closed) (hands : HandsOnPacket closed carried.packets r.builders more builders) (out : Writing) (later : Image) → Has out later (extended_by carried.packets hands.packet)
    → Records (record r { builders = builders; out = out; cost = r.cost + sum_by entry_cost more }) later text (entries ++ more)
packets_carried r image text entries more builders carried apart plain closed hands out later has = record {
  packets = extended_by carried.packets hands.packet;
  has = has;
  says = packet_said r carried.packets text entries more builders carried.says apart plain closed hands out;
}

pub flushed_says : (r : Recording) (packets : List Packet) (text : List ℕ) (entries : List Entry) → Says r packets text entries → all_held r.builders ≡ [] → PacketsSay packets text entries false
flushed_says r packets text entries says none =
    let all : taken_in packets r.builders ≡ file_entries packets = ap (λ (es : List Entry). file_entries packets ++ es) none ∙ append-nil (file_entries packets) in
    says_so packets text entries says.packed.growing says.setup_is (λ channel. ap (on_channel channel) (sym all) ∙ says.entries_are channel)

pub covered : (r : Recording) (packets : List Packet) (text : List ℕ) (entries : List Entry) → Says r packets text entries → length (file_bytes packets) ≤ r.cost
covered r packets text entries says =
    omega (arith, says.cost_is, packets_covered packets text says.packed.growing.each says.packed.growing.quiet says.setup_is, sum_by-append entry_cost (file_entries packets) (all_held r.builders))
