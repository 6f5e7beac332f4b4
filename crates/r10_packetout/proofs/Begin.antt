-- A file that begins: its setup packet and its first time packet.
use Rattle.std.proofs.Common.{◌≡◌, ℕ, ◌<◌, ◌≤◌, Bool, true, false, ◌==◌, List, [], ◌∷◌, ◌++◌, length, refl, sym, ap, subst, arith}
use Rattle.std.proofs.lemmas.Bool.{ne_eqb}
use Rattle.r10_count.specs.Civil.{IsCivil}
use Rattle.r10_count.specs.Count.{IsCount}
use Rattle.r10_count.specs.declared.civil.Parts.{Parts}
use Rattle.r10_medium.specs.Disk.{Image}
use Rattle.r10_body.specs.Cost.{file_cost}
use Rattle.r10_body.specs.Files.{on_channel}
use Rattle.r10_body.specs.Packets.{Packet}
use Rattle.r10_body.specs.Rules.{Rise}
use Rattle.r10_body.specs.declared.entry.Entry.{Entry}
use Rattle.r10_body.specs.Sequence.{next_sequence, numbered}
use Rattle.r10_builder.specs.State.{BuilderState}
use Rattle.r10_builder.specs.Grows.{HasNoneOf, all_held, taken_in}
use Rattle.r10_builder.specs.Next.{setup_packet, time_packet}
use Rattle.r10_builder.proofs.Following.{begins}
use Rattle.r10_builder.specs.Settings.{AreChannelSettings, specs_of}
use Rattle.r10_builder.proofs.Places.{none_other}
use Rattle.r10_packetout.specs.Output.{Has, Writing}
use Rattle.r10_packetout.specs.Carries.{EventsAreCounted, Records, Recording, Says, StandApart, time_entry_at}

-- no builder has the setup's channel
none_on_zero : (least : ℕ) (builders : List BuilderState) → AreChannelSettings least (specs_of builders) → HasNoneOf 0 builders
none_on_zero least [] are = tt
none_on_zero least (b ∷ builders) are = (λ same. absurd (omega (arith, are.0, same)), none_on_zero b.spec.id builders are.2)

rises_alone : (e : Entry) (channel : ℕ) (b : Bool) → e.channel == channel ≡ b → Rise 0 (on_channel channel (e ∷ []))
rises_alone e channel true on = rw on (omega arith, tt)
rises_alone e channel false off = rw off tt

pub begun_says : (r : Recording) (text : List ℕ) (count : ℕ) (civil : Parts) (out : Writing) → StandApart r → AreChannelSettings 0 (specs_of r.builders) → all_held r.builders ≡ [] → EventsAreCounted r.counts []
    → length text ≤ 524260 → IsCount count → IsCivil civil
    → Says (record r { out = out; clock = count; cost = file_cost text (time_entry_at r.time count civil ∷ []) }) (setup_packet count text ∷ time_packet r.time count civil ∷ []) text (time_entry_at r.time count civil ∷ [])
begun_says r text count civil out apart are none counted short counts is =
    let s : Packet = setup_packet count text in
    let t : Packet = time_packet r.time count civil in
    let e : Entry = time_entry_at r.time count civil in
    let above : 0 < r.time = apart.times.0 in
    let marks : 0 < r.event = apart.events.0 in
    let all : taken_in (s ∷ t ∷ []) r.builders ≡ e ∷ [] = ap (λ (es : List Entry). (e ∷ []) ++ es) none in
    record {
      packed = record {
        growing = begins text r.time count civil short above apart.times.1 counts is;
        kept = (none_other s r.builders (none_on_zero 0 r.builders are), (none_other t r.builders apart.time, tt));
        rise = λ channel. subst (λ (es : List Entry). Rise 0 (on_channel channel es)) (sym all) (rises_alone e channel (e.channel == channel) refl);
      };
      times = (λ same. absurd (omega (arith, above, same)), (λ same. refl, tt));
      events = (λ same. absurd (omega (arith, marks, same)), (λ same. absurd (apart.differ same), tt));
      setup_is = refl;
      entries_are = λ channel. ap (on_channel channel) all;
      clock_is = refl;
      messages = λ q. rw none refl;
      counts_are = counted;
      cost_is = sym (ap (file_cost text) all);
    }

-- the packets are numbered from 0 on each channel
first_number : (channel count : ℕ) (text : List ℕ) (civil : Parts) → 0 < channel → numbered (numbered [] (setup_packet count text) ∷ []) (time_packet channel count civil) ≡ time_packet channel count civil
first_number channel count text civil above =
    let off : 0 == channel ≡ false = ne_eqb 0 channel (λ same. absurd (omega (arith, above, same))) in
    let number : next_sequence channel (numbered [] (setup_packet count text) ∷ []) ≡ 0 = rw off refl in
    ap (λ n. record (time_packet channel count civil) { sequence = n }) number

pub begun_carried : (r : Recording) (text : List ℕ) (count : ℕ) (civil : Parts) → StandApart r → AreChannelSettings 0 (specs_of r.builders) → all_held r.builders ≡ [] → EventsAreCounted r.counts []
    → length text ≤ 524260 → IsCount count → IsCivil civil → (out : Writing) (later : Image)
    → Has out later (numbered [] (setup_packet count text) ∷ numbered (numbered [] (setup_packet count text) ∷ []) (time_packet r.time count civil) ∷ [])
    → Records (record r { out = out; clock = count; cost = file_cost text (time_entry_at r.time count civil ∷ []) }) later text (time_entry_at r.time count civil ∷ [])
begun_carried r text count civil apart are none counted short counts is out later has = record {
  packets = setup_packet count text ∷ time_packet r.time count civil ∷ [];
  has = subst (λ (p : Packet). Has out later (setup_packet count text ∷ p ∷ [])) (first_number r.time count text civil apart.times.0) has;
  says = begun_says r text count civil out apart are none counted short counts is;
}
