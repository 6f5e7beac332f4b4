-- Calls on the table of cursors, answered whatever files the medium has.
use Rattle.std.proofs.Common.{◌≡◌, ℕ, zero, suc, List, [], ◌∷◌, ◌++◌, drop, Option, Some, None, IsSomeAnd, refl, sym, ◌∙◌, subst}
use Rattle.std.specs.Prelude.{slice_get}
use Rattle.r10_count.specs.Checks.{first_broken}
use Rattle.r10_count.proofs.Rules.{rules_pass, rules_stop}
use Rattle.r10_body.specs.declared.entry.Entry.{Entry}
use Rattle.r10_body.specs.declared.refusal.Refusal.{Refusal}
use Rattle.r10_body.specs.declared.refusal.Refusal.TheVariants as refusals
use Rattle.r10_medium.specs.Disk.{Disk, Unchanged}
use Rattle.r10_machine.specs.Checks.{mounted_checks, open_checks}
use Rattle.r10_machine.specs.Machine.{Cursor as MachineCursor, Lane, Machine, cursor_at, cursor_of, fresh}
use Rattle.r10_machine.specs.declared.event.Event.{Event as EventValue}
use Rattle.r10_machine.specs.declared.event.Event.TheVariants as events
use Rattle.r10_machine.specs.declared.reply.Reply.{Reply as ReplyValue}
use Rattle.r10_machine.specs.declared.reply.Reply.TheVariants as replies
use Rattle.r10_cursor.specs.RepresentedCursors.{PutsSlot, SlotStandsFor, SlotsStandFor, fresh_slot, read_checks, slot_at, with_queue}
use Rattle.r10_cursor.specs.declared.cursor.Cursor.{Cursor}
use Rattle.r10_refinement.specs.KeptState.{Kept, mode_of}
use Rattle.r10_control.specs.Reading.{IsReadFileRefusal}
use Rattle.r10_control.specs.Refused.{RefusesCall}
use Rattle.r10_control.specs.State.{RecorderState}
use Rattle.slab.specs.Slab.{Slab, Updates, get}
use Rattle.r10_world.proofs.Answering.{or_either, refused_call, refused_check}
use Rattle.r10_world.specs.Answering.{AnswersClose, AnswersNext, AnswersSo, EitherOr, KeepsOwn, LeavesAll, MayLack, RefusesSo, slot_checks}

-- ---- checks of a cursor

pub unmounted_refuses : (k : Kept) (slot : Option Cursor) (r : Refusal) → first_broken (mounted_checks (mode_of k.work)) ≡ Some r → first_broken (mounted_checks (mode_of k.work) ++ read_checks k.generation slot) ≡ Some r
unmounted_refuses k slot r broken = rules_stop (mounted_checks (mode_of k.work)) (read_checks k.generation slot) r broken

pub mounted_reads : (k : Kept) (slot : Option Cursor) (generation : ℕ) (first : Option Refusal) → first_broken (mounted_checks (mode_of k.work)) ≡ None → generation ≡ k.generation → first_broken (read_checks generation slot) ≡ first
    → first_broken (mounted_checks (mode_of k.work) ++ read_checks k.generation slot) ≡ first
mounted_reads k slot generation first mounted is tested =
    rules_pass (mounted_checks (mode_of k.work)) (read_checks k.generation slot) mounted ∙ subst (λ (n : ℕ). first_broken (read_checks n slot) ≡ first) is tested

-- ---- slots

pub some_at : (o : Option Cursor) (c : Cursor) (P : Cursor → Type 0) → o ≡ Some c → P c → IsSomeAnd o P
some_at o c P is holds = subst (λ (x : Option Cursor). IsSomeAnd x P) (sym is) holds

pub opens_slot : (old new : Slab Cursor) (id n generation file from to from' to' : ℕ) (channels : List ℕ) → n ≡ generation → from' ≡ from → to' ≡ to → Updates old new id (Some (fresh_slot n channels file from' to'))
    → PutsSlot old.slots new.slots id (Some (fresh_slot generation channels file from to))
opens_slot old new id n generation file from to from' to' channels same first last updates = rw (sym same, sym first, sym last) (record { changed = updates.changed; others = updates.others })

pub gives_first : (old new : Slab Cursor) (id : ℕ) (given : Option Entry) → IsSomeAnd (get old id) (λ (c : Cursor). (given ≡ slice_get c.reading.queue 0) × Updates old new id (Some (with_queue (drop 1 c.reading.queue) c)))
    → AnswersNext old.slots id (replies.Next given) new.slots
gives_first old new id given gives = by (get old id) gives
  where
    by : (o : Option Cursor) → IsSomeAnd o (λ (c : Cursor). (given ≡ slice_get c.reading.queue 0) × Updates old new id (Some (with_queue (drop 1 c.reading.queue) c)))
        → (first_broken (slot_checks o) ≡ None) × IsSomeAnd o (λ (c : Cursor). (given ≡ slice_get c.reading.queue 0) × PutsSlot old.slots new.slots id (Some (with_queue (drop 1 c.reading.queue) c)))
    by None gives = absurd gives
    by (Some c) (is, updates) = (refl, (is, record { changed = updates.changed; others = updates.others }))

pub no_cursor : (slot : Option Cursor) (r : Refusal) → slot ≡ None → r ≡ refusals.NoCursor → first_broken (slot_checks slot) ≡ Some r
no_cursor slot r none is = rw (none, is) refl

-- ---- a table represents a machine's cursors

abbrev mirror : Cursor → MachineCursor
mirror c = record { file = c.file; channels = c.reading.channels; from = c.reading.from; to = c.reading.to; generation = c.generation; covered = 0; queue = c.reading.queue }

abbrev mirrored : List (Option Cursor) → List (Option MachineCursor)
mirrored [] = []
mirrored (None ∷ slots) = None ∷ mirrored slots
mirrored (Some c ∷ slots) = Some (mirror c) ∷ mirrored slots

mirrored_at : (slots : List (Option Cursor)) (id : ℕ) → SlotStandsFor (slot_at slots id) (cursor_at (mirrored slots) id)
mirrored_at [] id = tt
mirrored_at (None ∷ slots) zero = tt
mirrored_at (Some c ∷ slots) zero = record { file = refl; generation = refl; channels = refl; first = refl; last = refl; queue = refl }
mirrored_at (None ∷ slots) (suc id) = mirrored_at slots id
mirrored_at (Some c ∷ slots) (suc id) = mirrored_at slots id

-- what a table tells of any machine's cursors, it tells of itself
pub is_there : (slots : List (Option Cursor)) (id : ℕ) → ((m : Machine) → SlotsStandFor slots m.cursors → first_broken (open_checks (cursor_of id m)) ≡ None) → first_broken (slot_checks (slot_at slots id)) ≡ None
is_there slots id passed =
    let m : Machine = record (fresh [] [] 0) { cursors = mirrored slots } in
    by (slot_at slots id) (cursor_at (mirrored slots) id) (mirrored_at slots id) (passed m (record { each = mirrored_at slots }))
  where
    by : (o : Option Cursor) (p : Option MachineCursor) → SlotStandsFor o p → first_broken (open_checks p) ≡ None → first_broken (slot_checks o) ≡ None
    by None None stands passed = absurd (none passed)
      where
        none : Some refusals.NoCursor ≡ None → ⊥
        none is = cc
    by None (Some p) stands passed = absurd stands
    by (Some c) None stands passed = absurd stands
    by (Some c) (Some p) stands passed = refl

-- ---- calls that leave the recorder

pub next_so : {M : Type 0} (disk : M → Disk) (old : RecorderState M Lane) (slots later : List (Option Cursor)) (id : ℕ) (reply : ReplyValue) → AnswersNext slots id reply later → AnswersSo disk old slots (events.Next id) reply old later
next_so disk old slots later id (replies.Next given) (passed, gives) = (passed, (gives, refl))
next_so disk old slots later id (replies.Refused r) (broken, kept) = refused_check disk (first_broken (slot_checks (slot_at slots id))) old old slots later (events.Next id) r broken refl refl refl kept
next_so disk old slots later id reply answers = absurd answers

pub close_so : {M : Type 0} (disk : M → Disk) (old : RecorderState M Lane) (slots later : List (Option Cursor)) (id : ℕ) (reply : ReplyValue) → AnswersClose slots id reply later → AnswersSo disk old slots (events.Close id) reply old later
close_so disk old slots later id replies.Done (passed, puts) = (passed, (puts, refl))
close_so disk old slots later id (replies.Refused r) (broken, kept) = refused_check disk (first_broken (slot_checks (slot_at slots id))) old old slots later (events.Close id) r broken refl refl refl kept
close_so disk old slots later id reply answers = absurd answers

-- ---- memory, and a file at fault

pub refused_memory : {M : Type 0} (disk : M → Disk) (first : Option Refusal) (old new : RecorderState M Lane) (slots later : List (Option Cursor)) (event : EventValue) → first ≡ None → MayLack disk old slots event new refusals.OutOfMemory
    → LeavesAll disk old event new → KeepsOwn disk old new → new.lanes ≡ old.lanes → later ≡ slots → RefusesSo disk first old slots event refusals.OutOfMemory new later
refused_memory disk None old new slots later event is cause leaves own lanes same = record { cause = cause; leaves = leaves; own = own; lanes = lanes; cursors = same }
refused_memory disk (Some f) old new slots later event is cause leaves own lanes same = cc

-- an instalment that is refused where the cursor's checks pass
pub instalment_refused : {M : Type 0} (disk : M → Disk) (old new : RecorderState M Lane) (slots later : List (Option Cursor)) (id : ℕ) (c : Cursor) (first first' : Option Refusal) (r : Refusal) → slot_at slots id ≡ Some c → first ≡ None → first' ≡ None
    → RefusesCall disk first (IsReadFileRefusal old.kept.work (disk old.medium).blocks c.file) old.kept new.kept old.medium new.medium r → new.lanes ≡ old.lanes → Unchanged (disk old.medium) (disk new.medium) → later ≡ slots
    → RefusesSo disk first' old slots (events.Advance id) r new later
instalment_refused disk old new slots later id c first first' r is none none' refuses lanes same kept =
    let lacks = IsReadFileRefusal old.kept.work (disk old.medium).blocks c.file in
    subst (λ (ls : List (Option Cursor)). RefusesSo disk first' old slots (events.Advance id) r new ls) (sym kept)
    (refused_call disk first' lacks old new slots (events.Advance id) r
    (subst (λ (o : Option Refusal). RefusesCall disk o lacks old.kept new.kept old.medium new.medium r) (none ∙ sym none') refuses) lanes refl
    (λ q holds. some_at (slot_at slots id) c (λ (x : Cursor). EitherOr (IsReadFileRefusal old.kept.work (disk old.medium).blocks x.file) q) is (or_either lacks q holds))
    (λ passed fails. some_at (slot_at slots id) c (λ (x : Cursor). EitherOr (IsReadFileRefusal old.kept.work (disk old.medium).blocks x.file) refusals.Medium) is tt)
    (λ lacks. some_at (slot_at slots id) c (λ (x : Cursor). EitherOr (IsReadFileRefusal old.kept.work (disk old.medium).blocks x.file) refusals.OutOfMemory) is tt)
    (λ left. left) same (λ left. left))
