-- What a recorder shows of a file by number, and what agrees with it.
use Rattle.std.proofs.Common.{◌≡◌, ◌≤◌, ◌<◌, ◌-◌, ℕ, zero, suc, Bool, List, [], ◌∷◌, length, take, min, Some, refl, ap, ◌∙◌, subst, arith}
use Rattle.std.specs.Prelude.{max, filter, slice_get, IsTrue}
use Rattle.std.specs.List.{AllByRecursion}
use Rattle.std.proofs.lemmas.List.{length-take-le, length-take}
use Rattle.r10_body.specs.Packets.{Packet}
use Rattle.r10_body.specs.Rules.{is_data}
use Rattle.r10_control.specs.Checks.{files_of}
use Rattle.r10_control.specs.Owns.{ended_files}
use Rattle.r10_control.specs.Reading.{IsReadAt, ShowsAt, is_ended, is_recorded, of_ended, of_recorded}
use Rattle.r10_cursor.specs.Files.{HasDataPackets, bytes_in}
use Rattle.r10_cursor.specs.RepresentedCursors.{fresh_slot}
use Rattle.r10_cursor.specs.declared.cursor.Cursor.{Cursor}
use Rattle.r10_dirchain.specs.Chain.{listed_files}
use Rattle.r10_cursor.specs.JudgedFiles.{SaysClosed}
use Rattle.r10_refinement.specs.KeptState.{Work, unmounted, idle, recording, failed}
use Rattle.r10_medium.specs.Disk.{Image}
use Rattle.r10_held.specs.Auditing.{GoOn, at_place}
use Rattle.r10_held.specs.Transcripts.{Agrees, Follow, IsPart, beginning}
use Rattle.r10_held.specs.declared.transcript.Instalment.{Instalment}
use Rattle.r10_held.specs.declared.transcript.Transcript.{Transcript}

-- ---- files that are there

within : {X : Type 0} (xs : List X) (k : ℕ) (x : X) → slice_get xs k ≡ Some x → k < length xs
within [] k x is = absurd (cc (is))
within (y ∷ xs) zero x is = omega arith
within (y ∷ xs) (suc k) x is = omega (arith, within xs k x is)

ended_few : (work : Work) → length (ended_files work) ≤ length (files_of work)
ended_few unmounted = omega arith
ended_few (idle chain) = omega arith
ended_few (recording chain o) = let less : length (listed_files chain) - 1 ≤ length (listed_files chain) = omega arith in omega (arith, length-take-le (length (listed_files chain) - 1) (listed_files chain) less)
ended_few failed = omega arith

-- what is shown has a number that the directory has
pub shown_there : (work : Work) (image : Image) (file : ℕ) (packets : List Packet) → ShowsAt work image file packets → file < length (files_of work)
shown_there work image file packets (of_ended e at has) = omega (arith, within (ended_files work) file e at, ended_few work)
shown_there work image file packets (of_recorded o is last shows) = omega (arith, last)

pub has_packets : (bytes : List ℕ) (closed : Bool) → SaysClosed bytes closed → (packets : List Packet) × HasDataPackets bytes packets
has_packets bytes closed (text, entries, (packets, bytes_are, says)) = (filter is_data packets, record { all = packets; bytes_are = bytes_are; each = says.file.each; packets_are = refl })

-- what is read is shown
pub read_shows : (work : Work) (image : Image) (file : ℕ) → IsReadAt work image file → (packets : List Packet) × ShowsAt work image file packets
read_shows work image file (is_ended e at says) = let has = has_packets (bytes_in image e) _ says in (has.0, of_ended e at has.1)
read_shows work image file (is_recorded o packets is last shows) = (packets, of_recorded o is last shows)

-- ---- instalments one after the other

pub parts_of : (packets : List Packet) (channels : List ℕ) (first last at : ℕ) (is : List Instalment) → GoOn packets channels first last at is → Follow at is × AllByRecursion (IsPart packets channels first last) is
parts_of packets channels first last at [] on = (tt, tt)
parts_of packets channels first last at (i ∷ is) on = let rest = parts_of packets channels first last i.to is on.1 in ((on.0.begins, on.0.forward, rest.0), (on.0.part, rest.1))

pub parts_on : (packets : List Packet) (channels : List ℕ) (first last at : ℕ) (is : List Instalment) → Follow at is → AllByRecursion (IsPart packets channels first last) is → GoOn packets channels first last at is
parts_on packets channels first last at [] follow parts = tt
parts_on packets channels first last at (i ∷ is) follow parts = (record { begins = follow.0; forward = follow.1; part = parts.0 }, parts_on packets channels first last i.to is follow.2 parts.1)

-- where the first begins, or at the end of the file where that is nearer, they go on alike
start : (place : ℕ) (packets : List Packet) → length (take (max place 0) packets) ≡ min place (length packets)
start place packets = let zeroes : max place 0 ≡ place = omega arith in ap (λ (n : ℕ). length (take n packets)) zeroes ∙ length-take place packets

pub from_start : (packets : List Packet) (channels : List ℕ) (first last : ℕ) (is : List Instalment) → GoOn packets channels first last (length (take (max (beginning is) 0) packets)) is → GoOn packets channels first last (beginning is) is
from_start packets channels first last [] on = tt
from_start packets channels first last (i ∷ is) on = (record { begins = refl; forward = on.0.forward; part = on.0.part }, on.1)

pub to_start : (packets : List Packet) (channels : List ℕ) (first last : ℕ) (is : List Instalment) → GoOn packets channels first last (beginning is) is → GoOn packets channels first last (length (take (max (beginning is) 0) packets)) is
to_start packets channels first last [] on = tt
to_start packets channels first last (i ∷ is) on =
    (record { begins = omega (arith, start i.from packets, on.0.forward, on.0.part.within); forward = on.0.forward; part = on.0.part }, on.1)

-- ---- a transcript

pub agrees_so : (work : Work) (image : Image) (t : Transcript) (answer : Bool) → IsReadAt work image t.file
    → ((packets : List Packet) → ShowsAt work image t.file packets
    → (IsTrue answer → GoOn packets t.channels t.first t.last (length (take (max (beginning t.instalments.items) 0) packets)) t.instalments.items)
    × (GoOn packets t.channels t.first t.last (length (take (max (beginning t.instalments.items) 0) packets)) t.instalments.items → IsTrue answer))
    → (IsTrue answer → Agrees work image t) × (Agrees work image t → IsTrue answer)
agrees_so work image t answer there same = (to, from)
  where
    to : IsTrue answer → Agrees work image t
    to is =
        let shown = read_shows work image t.file there in
        let parts = parts_of shown.0 t.channels t.first t.last (beginning t.instalments.items) t.instalments.items
        (from_start shown.0 t.channels t.first t.last t.instalments.items ((same shown.0 shown.1).0 is)) in
        record { packets = shown.0; shows = shown.1; follow = parts.0; parts = parts.1 }

    from : Agrees work image t → IsTrue answer
    from a = (same a.packets a.shows).1 (to_start a.packets t.channels t.first t.last t.instalments.items
        (parts_on a.packets t.channels t.first t.last (beginning t.instalments.items) t.instalments.items a.follow a.parts))

short : (n : ℕ) (packets : List Packet) → length (take n packets) ≤ length packets
short n packets = omega (arith, length-take n packets)

-- a new cursor came over what stands before the first instalment, and read them all
pub read_so : (work : Work) (image : Image) (t : Transcript) (answer : Bool) (generation place : ℕ) (fresh over : Cursor) → fresh ≡ fresh_slot generation t.channels t.file t.first t.last → place ≡ beginning t.instalments.items → IsReadAt work image t.file
    → ((packets : List Packet) → ShowsAt work image t.file packets → over ≡ at_place (length (take (max place fresh.reading.covered) packets)) fresh)
    → ((packets : List Packet) → ShowsAt work image t.file packets → over.reading.covered ≤ length packets
    → (IsTrue answer → GoOn packets over.reading.channels over.reading.from over.reading.to over.reading.covered t.instalments.items)
    × (GoOn packets over.reading.channels over.reading.from over.reading.to over.reading.covered t.instalments.items → IsTrue answer))
    → (IsTrue answer → Agrees work image t) × (Agrees work image t → IsTrue answer)
read_so work image t answer generation place fresh over fresh_is place_is there covers same = agrees_so work image t answer there (λ packets shows. here packets shows (short _ packets))
  where
    new : Cursor
    new = fresh_slot generation t.channels t.file t.first t.last

    over_is : (packets : List Packet) → ShowsAt work image t.file packets → over ≡ at_place (length (take (max (beginning t.instalments.items) 0) packets)) new
    over_is packets shows =
        subst (λ (n : ℕ). over ≡ at_place (length (take (max n 0) packets)) new) place_is
        (subst (λ (f : Cursor). over ≡ at_place (length (take (max place f.reading.covered) packets)) f) fresh_is (covers packets shows))

    here : (packets : List Packet) → ShowsAt work image t.file packets → length (take (max (beginning t.instalments.items) 0) packets) ≤ length packets
        → (IsTrue answer → GoOn packets t.channels t.first t.last (length (take (max (beginning t.instalments.items) 0) packets)) t.instalments.items)
        × (GoOn packets t.channels t.first t.last (length (take (max (beginning t.instalments.items) 0) packets)) t.instalments.items → IsTrue answer)
    here packets shows =
        subst (λ (c : Cursor). c.reading.covered ≤ length packets
        → (IsTrue answer → GoOn packets c.reading.channels c.reading.from c.reading.to c.reading.covered t.instalments.items)
        × (GoOn packets c.reading.channels c.reading.from c.reading.to c.reading.covered t.instalments.items → IsTrue answer)) (over_is packets shows) (same packets shows)
