-- How far a cursor has come in a file of the machine.
use Rattle.std.proofs.Common.{◌≡◌, ℕ, ◌≤◌, List, [], ◌++◌, length, take, drop, refl, sym, ap, subst, ◌∙◌, arith}
use Rattle.std.proofs.lemmas.List.{take_all, take-append-drop, take-take}
use Rattle.std.proofs.lemmas.List.Concat.{flat_map-append}
use Rattle.r10_body.specs.Packets.{Packet, packet_entries, file_entries}
use Rattle.r10_body.specs.declared.entry.Entry.{Entry}
use Rattle.r10_machine.specs.Cuts.{Agree}
use Rattle.r10_machine.proofs.Agreeing.{agree-is, agree-rest}
use Rattle.r10_machine.proofs.Replays.{replay_by_channels}
use Rattle.r10_machine.specs.Machine.{File, shown_entries}
use Rattle.r10_cursor.specs.Replays.{Reading, AdvancesReading}
use Rattle.r10_cursor.specs.Held.{IsCovered, ReadingGoesOn}

-- what a file's later packets say are the entries after those that are covered
rest_agrees : (packets : List Packet) (f : File) (k n : ℕ) → Agree (file_entries packets) (shown_entries f) → IsCovered packets f k n → Agree (file_entries (drop k packets)) (drop n (shown_entries f))
rest_agrees packets f k n agree covered =
    let shown = shown_entries f in
    let front : take n shown ≡ take n f.entries = take-take n f.shown f.entries covered.inside in
    let split : file_entries packets ≡ file_entries (take k packets) ++ file_entries (drop k packets) =
    ap file_entries (sym (take-append-drop k packets)) ∙ flat_map-append packet_entries (take k packets) (drop k packets) in
    let parts : shown ≡ take n shown ++ drop n shown = sym (take-append-drop n shown) in
    agree-rest (file_entries (take k packets)) (take n shown) (file_entries (drop k packets)) (drop n shown)
    (subst (Agree (file_entries (take k packets))) (sym front) covered.agree)
    (subst (λ (l : List Entry). Agree l (take n shown ++ drop n shown)) split (subst (Agree (file_entries packets)) parts agree))

pub goes_on : (packets : List Packet) (f : File) (n : ℕ) (old new : Reading) → f.shown ≤ length f.entries → Agree (file_entries packets) (shown_entries f) → IsCovered packets f old.covered n → AdvancesReading old new packets
    → ReadingGoesOn packets f n old new
goes_on packets f n old new inside agree covered advances =
    let all : new.covered ≡ length packets = ap (λ (r : Reading). r.covered) advances.covers in
    let whole : take (length packets) packets ≡ packets = take_all (length packets) packets (omega arith) in
    record {
      rest = advances.covers;
      queue = replay_by_channels old.channels old.from old.to (file_entries (drop old.covered packets)) (drop n (shown_entries f)) new.queue (rest_agrees packets f old.covered n agree covered) advances.queues;
      covered = record {
        within = omega (arith, all);
        inside = omega arith;
        agree = subst (λ (k : ℕ). Agree (file_entries (take k packets)) (shown_entries f)) (sym all) (subst (λ (ps : List Packet). Agree (file_entries ps) (shown_entries f)) (sym whole) agree);
      };
    }

pub none_covered : (packets : List Packet) (f : File) → IsCovered packets f 0 0
none_covered packets f = record { within = omega arith; inside = omega arith; agree = agree-is [] [] refl }
