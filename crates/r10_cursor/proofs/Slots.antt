-- A cursor that is set, in the table and in the machine.
use Rattle.std.proofs.Common.{◌≡◌, ℕ, zero, suc, ◌<◌, true, false, List, [], ◌∷◌, length, drop, set, Option, None, Some, IsSomeAnd, refl, sym, ap, subst, ◌∙◌, arith}
use Rattle.std.specs.Prelude.{◌≢◌, ◌⊎◌, eqb, filter, slice_get}
use Rattle.std.proofs.Common.{inl, inr}
use Rattle.std.proofs.lemmas.Bool.Decides.{eqb_tells}
use Rattle.std.proofs.lemmas.List.{get_or-set_same, get_or-set_other}
use Rattle.slab.specs.Slab.{Slab, Updates, get}
use Rattle.r10_medium.specs.Disk.{Image}
use Rattle.r10_body.specs.Rules.{is_data}
use Rattle.r10_body.specs.declared.entry.Entry.{Entry}
use Rattle.r10_machine.specs.Calls.{Advances, GivesQueued, Opens, fresh_cursor}
use Rattle.r10_machine.specs.Config.{Config}
use Rattle.r10_machine.specs.Machine.{Cursor as MachineCursor, File, Machine, Sets, SetsCursor, cursor_at, cursor_of, shown_entries}
use Rattle.r10_machine.specs.Replay.{wanted, Ordered}
use Rattle.r10_machine.specs.Says.{MediumSays}
use Rattle.r10_cursor.specs.Replays.{Reading}
use Rattle.r10_cursor.specs.declared.cursor.Cursor.{Cursor}
use Rattle.r10_cursor.proofs.Covering.{none_covered}
use Rattle.r10_cursor.specs.Read.{IsReadTo, HasRead, HaveRead, TakesNext}
use Rattle.r10_cursor.specs.RepresentedCursors.{SlotStandsFor, PutsSlot, SlotsStandFor, CursorStandsFor, fresh_slot, slot_at, with_queue}
use Rattle.r10_cursor.specs.Steps.{StepsTo}
use Rattle.r10_cursor.proofs.HowFar.{said_packets}

-- ---- the machine's cursors with one more, or one less

abbrev set_at : ℕ → Option MachineCursor → List (Option MachineCursor) → List (Option MachineCursor)
set_at zero cursor [] = cursor ∷ []
set_at zero cursor (x ∷ xs) = cursor ∷ xs
set_at (suc id) cursor [] = None ∷ set_at id cursor []
set_at (suc id) cursor (x ∷ xs) = x ∷ set_at id cursor xs

changed_at : (id : ℕ) (cursor : Option MachineCursor) (cursors : List (Option MachineCursor)) → cursor_at (set_at id cursor cursors) id ≡ cursor
changed_at zero cursor [] = refl
changed_at zero cursor (x ∷ xs) = refl
changed_at (suc id) cursor [] = changed_at id cursor []
changed_at (suc id) cursor (x ∷ xs) = changed_at id cursor xs

others_at : (id : ℕ) (cursor : Option MachineCursor) (cursors : List (Option MachineCursor)) (other : ℕ) → other ≢ id → cursor_at (set_at id cursor cursors) other ≡ cursor_at cursors other
others_at zero cursor [] zero differs = absurd (differs refl)
others_at zero cursor [] (suc other) differs = refl
others_at zero cursor (x ∷ xs) zero differs = absurd (differs refl)
others_at zero cursor (x ∷ xs) (suc other) differs = refl
others_at (suc id) cursor [] zero differs = refl
others_at (suc id) cursor [] (suc other) differs = others_at id cursor [] other (λ same. differs (ap suc same))
others_at (suc id) cursor (x ∷ xs) zero differs = refl
others_at (suc id) cursor (x ∷ xs) (suc other) differs = others_at id cursor xs other (λ same. differs (ap suc same))

sets : (cursors : List (Option MachineCursor)) (id : ℕ) (cursor : Option MachineCursor) → Sets cursors (set_at id cursor cursors) id cursor
sets cursors id cursor = record { changed = changed_at id cursor cursors; others = others_at id cursor cursors }

-- ---- both set

put_stand : (slots later : List (Option Cursor)) (cursors now : List (Option MachineCursor)) (id : ℕ) (slot : Option Cursor) (cursor : Option MachineCursor) → SlotsStandFor slots cursors → PutsSlot slots later id slot → Sets cursors now id cursor
    → SlotStandsFor slot cursor → SlotsStandFor later now
put_stand slots later cursors now id slot cursor stand puts set fits = record { each = λ k. by k (eqb_tells k id) }
  where
    by : (k : ℕ) → ((eqb k id ≡ true) × (k ≡ id)) ⊎ ((eqb k id ≡ false) × (k ≢ id)) → SlotStandsFor (slot_at later k) (cursor_at now k)
    by k (inl (met, is)) = rw is (rw (puts.changed, set.changed) fits)
    by k (inr (other, differs)) = rw (puts.others k differs, set.others k differs) (stand.each k)

put_read : (image : Image) (files : List File) (generation : ℕ) (slots later : List (Option Cursor)) (cursors now : List (Option MachineCursor)) (id : ℕ) (slot : Option Cursor) (cursor : Option MachineCursor) → PutsSlot slots later id slot → Sets cursors now id cursor
    → HasRead image files generation slot cursor → HaveRead image files generation slots cursors → HaveRead image files generation later now
put_read image files generation slots later cursors now id slot cursor puts set here read = record { each = λ k. by k (eqb_tells k id) }
  where
    by : (k : ℕ) → ((eqb k id ≡ true) × (k ≡ id)) ⊎ ((eqb k id ≡ false) × (k ≢ id)) → HasRead image files generation (slot_at later k) (cursor_at now k)
    by k (inl (met, is)) = rw is (rw (puts.changed, set.changed) here)
    by k (inr (other, differs)) = rw (puts.others k differs, set.others k differs) (read.each k)

-- a step of the machine that sets this cursor
leads : (Step : Machine → Type 0) (m : Machine) (image : Image) (slots later : List (Option Cursor)) (id : ℕ) (slot : Option Cursor) (cursor : Option MachineCursor) → SlotsStandFor slots m.cursors → PutsSlot slots later id slot → SlotStandsFor slot cursor
    → (HaveRead image m.files m.generation slots m.cursors → HasRead image m.files m.generation slot cursor) → ((new : Machine) → SetsCursor m new id cursor → Step new) → StepsTo Step m image slots later
leads Step m image slots later id slot cursor stand puts fits read step =
    let set = sets m.cursors id cursor in
    let new : Machine = record m { cursors = set_at id cursor m.cursors } in
    record {
      machine = new;
      step = step new (set, refl);
      stand = put_stand slots later m.cursors (set_at id cursor m.cursors) id slot cursor stand puts set fits;
      read = λ before. put_read image m.files m.generation slots later m.cursors (set_at id cursor m.cursors) id slot cursor puts set (read before) before;
    }

-- ---- what stands at a number

record Pair (c : Cursor) (cursor : Option MachineCursor) : Type 0 where
  reader : MachineCursor
  is : cursor ≡ Some reader
  stands : CursorStandsFor c reader

paired : (slot : Option Cursor) (cursor : Option MachineCursor) (c : Cursor) → slot ≡ Some c → SlotStandsFor slot cursor → Pair c cursor
paired slot None c is fits = absurd (let bad : SlotStandsFor (Some c) None = subst (λ (o : Option Cursor). SlotStandsFor o None) is fits in bad)
paired slot (Some m) c is fits = record { reader = m; is = refl; stands = subst (λ (o : Option Cursor). SlotStandsFor o (Some m)) is fits }

pair_at : (slots : List (Option Cursor)) (cursors : List (Option MachineCursor)) (id : ℕ) (c : Cursor) → SlotsStandFor slots cursors → slot_at slots id ≡ Some c → Pair c (cursor_at cursors id)
pair_at slots cursors id c stand is = paired (slot_at slots id) (cursor_at cursors id) c is (stand.each id)

unpaired : (slot : Option Cursor) (cursor : Option MachineCursor) → slot ≡ None → SlotStandsFor slot cursor → cursor ≡ None
unpaired slot None is fits = refl
unpaired slot (Some m) is fits = absurd (let bad : SlotStandsFor None (Some m) = subst (λ (o : Option Cursor). SlotStandsFor o (Some m)) is fits in bad)

none_at : (slots : List (Option Cursor)) (cursors : List (Option MachineCursor)) (id : ℕ) → SlotsStandFor slots cursors → slot_at slots id ≡ None → cursor_at cursors id ≡ None
none_at slots cursors id stand is = unpaired (slot_at slots id) (cursor_at cursors id) is (stand.each id)

-- ---- the calls

fresh_read : (s : Config) (image : Image) (files : List File) (file : ℕ) → MediumSays s image files → file < length files → IsSomeAnd (slice_get files file) (λ f. IsReadTo image f 0 0)
fresh_read s image files file says less = by (slice_get files file) refl
  where
    within : (fs : List File) (k : ℕ) → k < length fs → slice_get fs k ≡ None → ⊥
    within [] k less is = absurd (omega (arith, less))
    within (f ∷ fs) zero less is = absurd (cc (is))
    within (f ∷ fs) (suc k) less is = within fs k (omega (arith, less)) is

    by : (o : Option File) → slice_get files file ≡ o → IsSomeAnd o (λ f. IsReadTo image f 0 0)
    by None at = absurd (within files file less at)
    by (Some f) at =
        let reported = said_packets s image files file f says at in
        record { packets = filter is_data reported.0; has = record { all = reported.0; bytes_are = reported.1; each = reported.2; packets_are = refl }; covered = none_covered (filter is_data reported.0) f }

pub opens : (s : Config) (image : Image) (m : Machine) (slots later : List (Option Cursor)) (id file generation : ℕ) (channels : List ℕ) (from to : ℕ) → SlotsStandFor slots m.cursors → m.generation ≡ generation → file < length m.files
    → MediumSays s image m.files → slot_at slots id ≡ None → PutsSlot slots later id (Some (fresh_slot generation channels file from to)) → StepsTo (Opens m file channels from to id) m image slots later
opens s image m slots later id file generation channels from to stand same less says free puts =
    leads (Opens m file channels from to id) m image slots later id (Some (fresh_slot generation channels file from to)) (Some (fresh_cursor m.generation channels file from to)) stand puts
    (record { file = refl; generation = same; channels = refl; first = refl; last = refl; queue = refl })
    (λ before now. fresh_read s image m.files file says less)
    (λ new set. (none_at slots m.cursors id stand free, set))

pub gives : (image : Image) (m : Machine) (slots later : List (Option Cursor)) (id : ℕ) (c : Cursor) (given : Option Entry) → SlotsStandFor slots m.cursors → slot_at slots id ≡ Some c → given ≡ slice_get c.reading.queue 0
    → PutsSlot slots later id (Some (with_queue (drop 1 c.reading.queue) c)) → StepsTo (GivesQueued m id given) m image slots later
gives image m slots later id c given stand is first puts =
    let pair = pair_at slots m.cursors id c stand is in
    let r = pair.reader in
    let stands = pair.stands in
    leads (GivesQueued m id given) m image slots later id (Some (with_queue (drop 1 c.reading.queue) c)) (Some (record r { queue = drop 1 r.queue })) stand puts
    (record { file = stands.file; generation = stands.generation; channels = stands.channels; first = stands.first; last = stands.last; queue = ap (drop 1) stands.queue })
    (λ before. let here : HasRead image m.files m.generation (Some c) (Some r) = rw (is, pair.is) at (before.each id) in here)
    (λ new set. rw pair.is (first ∙ ap (λ (q : List Entry). slice_get q 0) (sym stands.queue), set))

pub closes : (image : Image) (m : Machine) (slots later : List (Option Cursor)) (id : ℕ) → SlotsStandFor slots m.cursors → PutsSlot slots later id None → StepsTo (λ new. SetsCursor m new id None) m image slots later
closes image m slots later id stand puts = leads (λ new. SetsCursor m new id None) m image slots later id None None stand puts tt (λ before. tt) (λ new set. set)

-- ---- what the code tells

pub set_puts : (slots : List (Option Cursor)) (id : ℕ) (c new : Cursor) → slot_at slots id ≡ Some c → PutsSlot slots (set slots id (Some new)) id (Some new)
set_puts slots id c new is = record {
  changed = get_or-set_same slots id (Some new) None (within slots id c is);
  others = λ other differs. get_or-set_other slots id other (Some new) None differs;
}
  where
    within : (slots : List (Option Cursor)) (id : ℕ) (c : Cursor) → slot_at slots id ≡ Some c → id < length slots
    within [] id c e = absurd (cc (e))
    within (x ∷ slots) zero c e = omega arith
    within (x ∷ slots) (suc id) c e = omega (arith, within slots id c e)

slab_puts : (old new : Slab Cursor) (id : ℕ) (slot : Option Cursor) → Updates old new id slot → PutsSlot old.slots new.slots id slot
slab_puts old new id slot updates = record { changed = updates.changed; others = updates.others }

pub opened : (s : Config) (image : Image) (m : Machine) (old new : Slab Cursor) (id file generation : ℕ) (channels : List ℕ) (from to : ℕ) (cursor : Cursor) → cursor ≡ fresh_slot generation channels file from to → get old id ≡ None
    → Updates old new id (Some cursor) → SlotsStandFor old.slots m.cursors → m.generation ≡ generation → file < length m.files → MediumSays s image m.files → StepsTo (Opens m file channels from to id) m image old.slots new.slots
opened s image m old new id file generation channels from to cursor is free updates stand same less says =
    opens s image m old.slots new.slots id file generation channels from to stand same less says free
    (subst (λ (x : Cursor). PutsSlot old.slots new.slots id (Some x)) is (slab_puts old new id (Some cursor) updates))

pub given : (image : Image) (m : Machine) (slots : List (Option Cursor)) (id : ℕ) (c new : Cursor) (first : Option Entry) → SlotsStandFor slots m.cursors → slot_at slots id ≡ Some c → first ≡ slice_get c.reading.queue 0
    → new ≡ with_queue (drop 1 c.reading.queue) c → StepsTo (GivesQueued m id first) m image slots (set slots id (Some new))
given image m slots id c new first stand is reported left =
    gives image m slots (set slots id (Some new)) id c first stand is reported (subst (λ (x : Cursor). PutsSlot slots (set slots id (Some new)) id (Some x)) left (set_puts slots id c new is))

pub closed : (image : Image) (m : Machine) (old new : Slab Cursor) (id : ℕ) → SlotsStandFor old.slots m.cursors → Updates old new id None → StepsTo (λ later. SetsCursor m later id None) m image old.slots new.slots
closed image m old new id stand updates = closes image m old.slots new.slots id stand (slab_puts old new id None updates)

pub advances : (image : Image) (m : Machine) (id : ℕ) (c : MachineCursor) (f : File) (old new : Cursor) (slots : List (Option Cursor)) → SlotsStandFor slots m.cursors → cursor_of id m ≡ Some c → slice_get m.files c.file ≡ Some f
    → slot_at slots id ≡ Some old → TakesNext image f c.covered old new → StepsTo (Advances m id (length new.reading.queue)) m image slots (set slots id (Some new))
advances image m id c f old new slots stand named found is next =
    let stands : CursorStandsFor old c = rw (is, named) at (stand.each id) in
    let r = old.reading in
    let queue = new.reading.queue in
    let rest = next.goes_on.rest in
    let ordered : Ordered (wanted c.channels c.from c.to (drop c.covered (shown_entries f))) queue =
    subst (λ (n : ℕ). Ordered (wanted c.channels c.from n (drop c.covered (shown_entries f))) queue) (sym stands.last)
    (subst (λ (n : ℕ). Ordered (wanted c.channels n r.to (drop c.covered (shown_entries f))) queue) (sym stands.first)
    (subst (λ (ns : List ℕ). Ordered (wanted ns r.from r.to (drop c.covered (shown_entries f))) queue) (sym stands.channels) next.goes_on.queue)) in
    let place : slice_get m.files new.file ≡ Some f = ap (λ (k : ℕ). slice_get m.files k) (next.file ∙ sym stands.file) ∙ found in
    leads (Advances m id (length queue)) m image slots (set slots id (Some new)) id (Some new) (Some (record c { covered = f.shown; queue = queue })) stand (set_puts slots id old new is)
    (record {
      file = stands.file ∙ sym next.file;
      generation = stands.generation ∙ sym next.generation;
      channels = stands.channels ∙ sym (ap (λ (x : Reading). x.channels) rest);
      first = stands.first ∙ sym (ap (λ (x : Reading). x.from) rest);
      last = stands.last ∙ sym (ap (λ (x : Reading). x.to) rest);
      queue = refl;
    })
    (λ before now. subst (λ (o : Option File). IsSomeAnd o (λ (g : File). IsReadTo image g new.reading.covered f.shown)) (sym place) (record { packets = next.packets; has = next.has; covered = next.goes_on.covered }))
    (λ later set. rw named (rw found (queue, ordered, refl, set)))
