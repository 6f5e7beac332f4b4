-- That what is put ends within what the file costs, with its index after it.
use Rattle.std.proofs.Common.{◌≡◌, ℕ, ◌+◌, ◌^◌, ◌<◌, ◌≤◌, List, [], ◌∷◌, ◌++◌, length, refl, sym, ap, subst, ◌∙◌, arith, length-append}
use Rattle.std.specs.List.{sum_by}
use Rattle.std.proofs.lemmas.Bool.{eq-eqb}
use Rattle.r10_count.specs.Civil.{IsCivil}
use Rattle.r10_count.specs.Count.{IsCount}
use Rattle.r10_count.specs.declared.civil.Parts.{Parts}
use Rattle.r10_packet.specs.declared.header.Header.{Header}
use Rattle.r10_packet.proofs.Lengths.{framed_length}
use Rattle.r10_body.specs.Cost.{entry_cost, file_cost}
use Rattle.r10_body.specs.Files.{on_channel}
use Rattle.r10_body.specs.Packets.{Packet, file_bytes, packet_bytes}
use Rattle.r10_body.specs.Rules.{MayFollow, Rise, last_time}
use Rattle.r10_body.specs.declared.entry.Entry.{Entry}
use Rattle.r10_body.specs.declared.gap.Gap.{Gap}
use Rattle.r10_body.specs.declared.gap.Gap.TheVariants.{Whole, Lost, Unknown}
use Rattle.r10_body.specs.Sequence.{last_count, next_sequence, numbered}
use Rattle.r10_body.proofs.Reporting.{report_long}
use Rattle.r10_body.proofs.Rules.{bytes_more}
use Rattle.r10_builder.specs.State.{BuilderState}
use Rattle.r10_builder.specs.declared.closed.Closed.{Closed}
use Rattle.r10_builder.specs.Grows.{all_held}
use Rattle.r10_builder.specs.Next.{event_packet, extended_by, report_packet, reporting, setup_packet, time_packet}
use Rattle.r10_builder.proofs.Rising.{rise_behind}
use Rattle.r10_builder.specs.Packed.{HandsOnPacket}
use Rattle.r10_builder.specs.Settings.{AreChannelSettings, specs_of}
use Rattle.r10_index.specs.Written.{index_size}
use Rattle.r10_packetout.specs.Packets.{Describes, bare, packet_size, report_size}
use Rattle.r10_packetout.proofs.Framing.{described}
use Rattle.r10_packetout.specs.Carries.{EventsAreCounted, HasNoEvents, Recording, Says, StandApart, next_event_entry, time_entry_at}
use Rattle.r10_packetout.proofs.Begin.{begun_says}
use Rattle.r10_packetout.proofs.Carrying.{packet_said}
use Rattle.r10_packetout.proofs.Closing.{index_covered}
use Rattle.r10_packetout.proofs.Own.{event_said, time_said}

-- ---- how long a packet is

size_is : (header : Header) (body : List ℕ) (p : Packet) (s : ℕ) → Describes header body p → length (packet_bytes (record p { sequence = s })) ≡ packet_size header body
size_is header body p s is = ap (λ (b : List ℕ). length b) (sym (described header body p s is)) ∙ framed_length (record header { sequence = s }) body

-- after others, with the index of all
behind : (header : Header) (body : List ℕ) (before : List Packet) (p : Packet) (n cost : ℕ) → Describes header body p
    → length (file_bytes (before ++ numbered before p ∷ [])) + index_size n ≤ cost → length (file_bytes before) + packet_size header body + index_size n ≤ cost
behind header body before p n cost is le =
    let q : Packet = numbered before p in
    let bytes : length (file_bytes (before ++ q ∷ [])) ≡ length (file_bytes before) + packet_size header body =
    ap (λ (b : List ℕ). length b) (bytes_more before q) ∙ length-append (file_bytes before) (packet_bytes q) ∙ ap (λ n. length (file_bytes before) + n) (size_is header body p (next_sequence p.channel before) is) in
    at_most (length (file_bytes (before ++ q ∷ []))) (length (file_bytes before) + packet_size header body) (index_size n) cost bytes le
  where
    at_most : (a b i cost : ℕ) → a ≡ b → a + i ≤ cost → b + i ≤ cost
    at_most a b i cost e le = omega (arith, e, le)

ends_at : (header : Header) (body : List ℕ) (packets : List Packet) (p : Packet) (cost : ℕ) → Describes header body p
    → length (file_bytes (packets ++ numbered packets p ∷ [])) + index_size (length (packets ++ numbered packets p ∷ [])) ≤ cost → length (file_bytes packets) + packet_size header body + index_size (length packets + 1) ≤ cost
ends_at header body packets p cost is le =
    subst (λ n. length (file_bytes packets) + packet_size header body + index_size n ≤ cost) (length-append packets (numbered packets p ∷ []))
    (behind header body packets p (length (packets ++ numbered packets p ∷ [])) cost is le)

-- ---- each packet that is put

-- its report is as long as any
pub reported_long : (packets : List Packet) (p : Packet) (g : Gap) → p.gap ≡ g → ((n : ℕ) → g ≡ Lost n → MayFollow packets (numbered packets (report_packet (last_time 0 packets) p.channel n)))
    → length (file_bytes (reporting packets p)) ≡ length (file_bytes packets) + report_size g
reported_long packets p Whole e may = rw e (omega arith)
reported_long packets p (Lost n) e may =
    let r : Packet = numbered packets (report_packet (last_time 0 packets) p.channel n) in
    let long : length (file_bytes (packets ++ r ∷ [])) ≡ length (file_bytes packets) + 44 =
    ap (λ (b : List ℕ). length b) (bytes_more packets r) ∙ length-append (file_bytes packets) (packet_bytes r) ∙ ap (λ n. length (file_bytes packets) + n) (report_long packets r (may n refl) refl) in
    rw e long
reported_long packets p Unknown e may = rw e (omega arith)

pub handed_fits : (r : Recording) (packets : List Packet) (text : List ℕ) (entries more : List Entry) (builders : List BuilderState) → Says r packets text entries → StandApart r → HasNoEvents more
    → (closed : Closed) (hands : HandsOnPacket closed packets r.builders more builders) → r.cost + sum_by entry_cost more < 2 ^ 63
    → length (file_bytes packets) + report_size closed.gap + packet_size closed.header closed.body.items + index_size (length (extended_by packets hands.packet)) ≤ r.cost + sum_by entry_cost more
handed_fits r packets text entries more builders says apart plain closed hands small =
    let p : Packet = hands.packet in
    let cost : ℕ = r.cost + sum_by entry_cost more in
    let is : Describes closed.header closed.body.items p = record { fits = hands.fits; header_is = ap bare hands.header; body_is = hands.body } in
    let ends = behind closed.header closed.body.items (reporting packets p) p (length (extended_by packets p)) cost is
    (index_covered (record r { builders = builders; cost = cost }) (extended_by packets p) text (entries ++ more)
    (packet_said r packets text entries more builders says apart plain closed hands r.out) small) in
    let front : length (file_bytes (reporting packets p)) ≡ length (file_bytes packets) + report_size closed.gap =
    reported_long packets p p.gap refl hands.reports ∙ ap (λ (g : Gap). length (file_bytes packets) + report_size g) (sym hands.gap) in
    subst (λ n. n + packet_size closed.header closed.body.items + index_size (length (extended_by packets p)) ≤ cost) front ends

pub time_fits : (r : Recording) (packets : List Packet) (text : List ℕ) (entries : List Entry) → Says r packets text entries → StandApart r → (count : ℕ) (civil : Parts)
    → last_count 0 (on_channel r.time entries) ≤ count → IsCount count → IsCivil civil → (header : Header) (body : List ℕ) → Describes header body (time_packet r.time count civil)
    → r.cost + entry_cost (time_entry_at r.time count civil) < 2 ^ 63
    → length (file_bytes packets) + packet_size header body + index_size (length packets + 1) ≤ r.cost + entry_cost (time_entry_at r.time count civil)
time_fits r packets text entries says apart count civil later counts are header body is small =
    let p : Packet = time_packet r.time count civil in
    let e : Entry = time_entry_at r.time count civil in
    ends_at header body packets p (r.cost + entry_cost e) is
    (index_covered (record r { clock = count; cost = r.cost + entry_cost e }) (packets ++ numbered packets p ∷ []) text (entries ++ e ∷ [])
    (time_said r packets text entries count civil r.out says apart later counts are) small)

pub event_fits : (r : Recording) (packets : List Packet) (text : List ℕ) (entries : List Entry) → Says r packets text entries → StandApart r → (count number : ℕ)
    → last_count 0 (on_channel r.event entries) ≤ count → IsCount count → number < 2 ^ 12 → number < length r.counts → (header : Header) (body : List ℕ) → Describes header body (event_packet r.event count number packets)
    → r.cost + entry_cost (next_event_entry r.event count number entries) < 2 ^ 63
    → length (file_bytes packets) + packet_size header body + index_size (length packets + 1) ≤ r.cost + entry_cost (next_event_entry r.event count number entries)
event_fits r packets text entries says apart count number later counts small_number lt header body is small =
    let p : Packet = event_packet r.event count number packets in
    let e : Entry = next_event_entry r.event count number entries in
    ends_at header body packets p (r.cost + entry_cost e) is
    (index_covered _ (packets ++ numbered packets p ∷ []) text (entries ++ e ∷ [])
    (event_said r packets text entries count number r.out says apart later counts small_number lt) small)

-- ---- the first two packets

pub begun_fits : (r : Recording) (text : List ℕ) (count : ℕ) (civil : Parts) → StandApart r → AreChannelSettings 0 (specs_of r.builders) → all_held r.builders ≡ [] → EventsAreCounted r.counts []
    → length text ≤ 524260 → IsCount count → IsCivil civil → (header second : Header) (body other : List ℕ) → Describes header body (setup_packet count text) → Describes second other (time_packet r.time count civil)
    → packet_size header body + packet_size second other + index_size 2 ≤ file_cost text (time_entry_at r.time count civil ∷ [])
begun_fits r text count civil apart are none counted short counts civil_is header second body other is also =
    let s : Packet = setup_packet count text in
    let t : Packet = time_packet r.time count civil in
    let e : Entry = time_entry_at r.time count civil in
    let covered = index_covered (record r { clock = count; cost = file_cost text (e ∷ []) }) (s ∷ t ∷ []) text (e ∷ []) (begun_says r text count civil r.out apart are none counted short counts civil_is) (omega (arith, short)) in
    let rest : length (packet_bytes t ++ []) ≡ length (packet_bytes t) + 0 = length-append (packet_bytes t) [] in
    let bytes : length (packet_bytes s ++ (packet_bytes t ++ [])) ≡ length (packet_bytes s) + length (packet_bytes t ++ []) = length-append (packet_bytes s) (packet_bytes t ++ []) in
    within (length (packet_bytes s)) (length (packet_bytes t)) (packet_size header body) (packet_size second other) (length (packet_bytes t ++ [])) (length (packet_bytes s ++ (packet_bytes t ++ []))) (file_cost text (e ∷ []))
    (size_is header body s 0 is) (size_is second other t 0 also) rest bytes covered
  where
    within : (a b m n c d cost : ℕ) → a ≡ m → b ≡ n → c ≡ b + 0 → d ≡ a + c → d + index_size 2 ≤ cost → m + n + index_size 2 ≤ cost
    within a b m n c d cost e g h i le = omega (arith, e, g, h, i, le)

-- ---- counts that don't fall

pub not_later : (entries : List Entry) (e : Entry) → ((channel : ℕ) → Rise 0 (on_channel channel entries ++ on_channel channel (e ∷ []))) → last_count 0 (on_channel e.channel entries) ≤ e.count
not_later entries e may =
    let own : on_channel e.channel (e ∷ []) ≡ e ∷ [] = rw (eq-eqb e.channel e.channel refl) refl in
    rise_behind 0 (on_channel e.channel entries) e [] (subst (λ (es : List Entry). Rise 0 (on_channel e.channel entries ++ es)) own (may e.channel))
