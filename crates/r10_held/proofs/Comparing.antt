-- One instalment that is read again, and several one after the other.
use Rattle.std.proofs.Common.{◌≡◌, ◌≤◌, ◌<◌, ◌+◌, ℕ, Bool, List, [], ◌∷◌, length, take, drop, get_or, min, sym, ap, ◌∙◌, subst, arith}
use Rattle.std.specs.Prelude.{max, IsTrue}
use Rattle.std.proofs.lemmas.List.{drop_more, length-take}
use Rattle.r10_body.specs.Packets.{Packet, file_entries}
use Rattle.r10_body.specs.declared.entry.Entry.{Entry}
use Rattle.r10_control.specs.Reading.{ShowsAt}
use Rattle.r10_cursor.specs.Replays.{AdvancesReading, Reading}
use Rattle.r10_cursor.specs.declared.cursor.Cursor.{Cursor}
use Rattle.r10_machine.specs.Replay.{Ordered, wanted}
use Rattle.r10_refinement.specs.KeptState.{Work}
use Rattle.r10_medium.specs.Disk.{Image}
use Rattle.r10_held.specs.Auditing.{GoOn, IsNext, at_place}
use Rattle.r10_held.specs.declared.transcript.Instalment.{Instalment}

-- the order of a replay is one
abbrev pub OneOrder : Type 0
OneOrder = (entries xs ys : List Entry) → Ordered entries xs → Ordered entries ys → xs ≡ ys

-- the place of an advance that isn't after the cursor
to_end : (covered to : ℕ) → covered ≤ to → max to covered ≡ to
to_end covered to le = omega (arith, le)

-- a cursor advanced up to an instalment's end, which begins where the cursor was: the instalment is the same where the cursor is at its end, and took the same entries
pub same_part : OneOrder → (packets : List Packet) (old new : Reading) (i : Instalment) → i.from ≡ old.covered → i.from ≤ i.to → AdvancesReading old new (take (max i.to old.covered) packets)
    → new.covered ≡ i.to → new.queue ≡ i.entries → IsNext packets old.channels old.from old.to old.covered i
same_part one packets old new i begins forward advances covered same =
    let to : max i.to old.covered ≡ i.to = to_end old.covered i.to (omega (arith, begins, forward)) in
    let far : AdvancesReading old new (take i.to packets) = subst (λ (n : ℕ). AdvancesReading old new (take n packets)) to advances in
    let long : new.covered ≡ min i.to (length packets) = ap (λ (r : Reading). r.covered) far.covers ∙ length-take i.to packets in
    record {
      begins = begins;
      forward = forward;
      part = record {
        within = omega (arith, long, covered);
        entries = subst (λ (es : List Entry). Ordered (wanted old.channels old.from old.to (file_entries (drop i.from (take i.to packets)))) es) same
            (subst (λ (n : ℕ). Ordered (wanted old.channels old.from old.to (file_entries (drop n (take i.to packets)))) new.queue) (sym begins) far.queues);
      };
    }

pub part_same : OneOrder → (packets : List Packet) (old new : Reading) (i : Instalment) → AdvancesReading old new (take (max i.to old.covered) packets)
    → IsNext packets old.channels old.from old.to old.covered i → (new.covered ≡ i.to) × (new.queue ≡ i.entries)
part_same one packets old new i advances next =
    let to : max i.to old.covered ≡ i.to = to_end old.covered i.to (omega (arith, next.begins, next.forward)) in
    let far : AdvancesReading old new (take i.to packets) = subst (λ (n : ℕ). AdvancesReading old new (take n packets)) to advances in
    let long : new.covered ≡ min i.to (length packets) = ap (λ (r : Reading). r.covered) far.covers ∙ length-take i.to packets in
    let queue : Ordered (wanted old.channels old.from old.to (file_entries (drop i.from (take i.to packets)))) new.queue =
    subst (λ (n : ℕ). Ordered (wanted old.channels old.from old.to (file_entries (drop n (take i.to packets)))) new.queue) (sym next.begins) far.queues in
    (omega (arith, long, next.part.within), one _ new.queue i.entries queue next.part.entries)

-- ---- several

-- so far a cursor came over the first of several instalments, and the rest go on from where it is exactly where all do from where it was
pub record Came (packets : List Packet) (old now : Cursor) (all rest : List Instalment) : Type 0 where
  pub at : ℕ
  pub cursor_is : now ≡ at_place at old
  pub within : at ≤ length packets
  pub ahead : GoOn packets old.reading.channels old.reading.from old.reading.to old.reading.covered all → GoOn packets old.reading.channels old.reading.from old.reading.to at rest
  pub back : GoOn packets old.reading.channels old.reading.from old.reading.to at rest → GoOn packets old.reading.channels old.reading.from old.reading.to old.reading.covered all

-- what is known of the next instalment at the cursor as it is
next_at : (packets : List Packet) (old now : Cursor) (at : ℕ) (i : Instalment) → now ≡ at_place at old → IsNext packets now.reading.channels now.reading.from now.reading.to now.reading.covered i
    → IsNext packets old.reading.channels old.reading.from old.reading.to at i
next_at packets old now at i is next = subst (λ (c : Cursor). IsNext packets c.reading.channels c.reading.from c.reading.to c.reading.covered i) is next

at_next : (packets : List Packet) (old now : Cursor) (at : ℕ) (i : Instalment) → now ≡ at_place at old → IsNext packets old.reading.channels old.reading.from old.reading.to at i
    → IsNext packets now.reading.channels now.reading.from now.reading.to now.reading.covered i
at_next packets old now at i is next = subst (λ (c : Cursor). IsNext packets c.reading.channels c.reading.from c.reading.to c.reading.covered i) (sym is) next

pub came_further : (packets : List Packet) (old now next : Cursor) (all : List Instalment) (i : Instalment) (rest : List Instalment) → Came packets old now all (i ∷ rest)
    → IsNext packets now.reading.channels now.reading.from now.reading.to now.reading.covered i → next ≡ at_place i.to now → Came packets old next all rest
came_further packets old now next all i rest came is further =
    let here = next_at packets old now came.at i came.cursor_is is in
    record {
      at = i.to;
      cursor_is = further ∙ ap (at_place i.to) came.cursor_is;
      within = here.part.within;
      ahead = λ on. (came.ahead on).1;
      back = λ on. came.back (here, on);
    }

-- how far the cursor is, of the packets
pub came_within : (packets : List Packet) (old now : Cursor) (all rest : List Instalment) → Came packets old now all rest → now.reading.covered ≤ length packets
came_within packets old now all rest came = subst (λ (c : Cursor). c.reading.covered ≤ length packets) (sym came.cursor_is) came.within

-- all go on so where the next does
pub next_of_all : (packets : List Packet) (old now : Cursor) (all : List Instalment) (i : Instalment) (rest : List Instalment) → Came packets old now all (i ∷ rest)
    → GoOn packets old.reading.channels old.reading.from old.reading.to old.reading.covered all → IsNext packets now.reading.channels now.reading.from now.reading.to now.reading.covered i
next_of_all packets old now all i rest came on = at_next packets old now came.at i came.cursor_is (came.ahead on).0

-- and at the end
pub all_came : (packets : List Packet) (old now : Cursor) (all rest : List Instalment) → rest ≡ [] → Came packets old now all rest → GoOn packets old.reading.channels old.reading.from old.reading.to old.reading.covered all
all_came packets old now all rest none came = came.back (subst (λ (l : List Instalment). GoOn packets old.reading.channels old.reading.from old.reading.to came.at l) (sym none) tt)

-- ---- one instalment

-- a cursor that advanced, and gave all that it took
pub covers_so : (old mid now : Cursor) (packets : List Packet) → mid.file ≡ old.file → mid.generation ≡ old.generation → old.reading.queue ≡ [] → AdvancesReading old.reading mid.reading packets
    → now ≡ record mid { reading = record mid.reading { queue = [] } } → now ≡ at_place (length packets) old
covers_so old mid now packets file generation left advances is =
    let F : ℕ → ℕ → List Entry → Cursor = λ f g q. record { file = f; generation = g; reading = record { channels = old.reading.channels; from = old.reading.from; to = old.reading.to; covered = length packets; queue = q } } in
    is
    ∙ ap (λ (r : Reading). record mid { reading = record r { queue = [] } }) advances.covers
    ∙ ap (λ (f : ℕ). F f mid.generation []) file
    ∙ ap (λ (g : ℕ). F old.file g []) generation
    ∙ ap (λ (q : List Entry). F old.file old.generation q) (sym left)

-- where the cursor is at the instalment's end, and the entries are compared
pub compared : OneOrder → (packets : List Packet) (old new : Reading) (i : Instalment) → i.from ≡ old.covered → i.from ≤ i.to → AdvancesReading old new (take (max i.to old.covered) packets) → new.covered ≡ i.to
    → (same : Bool) → (IsTrue same → new.queue ≡ i.entries) → (new.queue ≡ i.entries → IsTrue same)
    → (IsTrue same → IsNext packets old.channels old.from old.to old.covered i) × (IsNext packets old.channels old.from old.to old.covered i → IsTrue same)
compared one packets old new i begins forward advances covered same tells reported =
    (λ yes. same_part one packets old new i begins forward advances covered (tells yes), λ next. reported (part_same one packets old new i advances next).1)

-- where it isn't there
pub elsewhere : OneOrder → (packets : List Packet) (old new : Reading) (i : Instalment) → AdvancesReading old new (take (max i.to old.covered) packets) → (new.covered ≡ i.to → ⊥)
    → (answer : Bool) → (IsTrue answer → new.covered ≡ i.to)
    → (IsTrue answer → IsNext packets old.channels old.from old.to old.covered i) × (IsNext packets old.channels old.from old.to old.covered i → IsTrue answer)
elsewhere one packets old new i advances away answer says = (λ so. absurd (away (says so)), λ next. absurd (away (part_same one packets old new i advances next).0))

-- what is shown at first is shown while a call only read
pub still_shown : (work work' : Work) (image image' : Image) (file file' : ℕ) (packets : List Packet) → work' ≡ work → image' ≡ image → file' ≡ file → ShowsAt work image file packets → ShowsAt work' image' file' packets
still_shown work work' image image' file file' packets one two three shows =
    subst (λ (w : Work). ShowsAt w image' file' packets) (sym one) (subst (λ (i : Image). ShowsAt work i file' packets) (sym two) (subst (λ (f : ℕ). ShowsAt work image f packets) (sym three) shows))

-- ---- lists by place

pub came_to : (packets : List Packet) (old now : Cursor) (all : List Instalment) (place : ℕ) (i : Instalment) → place < length all → i ≡ get_or all place i → Came packets old now all (drop place all)
    → Came packets old now all (i ∷ drop (place + 1) all)
came_to packets old now all place i lt is came =
    subst (λ (l : List Instalment). Came packets old now all l) (drop_more all place i lt ∙ ap (λ (x : Instalment). x ∷ drop (place + 1) all) (sym is)) came
