-- Calls on the table of cursors as steps of the world.
use Rattle.std.proofs.Common.{◌≡◌, ◌≤◌, ◌<◌, ℕ, zero, suc, List, [], ◌∷◌, length, map, true, Option, None, Some, IsSomeAnd, refl, sym, ap, ◌∙◌, subst, arith}
use Rattle.std.specs.Prelude.{slice_get, slice_set}
use Rattle.r10_count.specs.Checks.{first_broken}
use Rattle.r10_body.specs.declared.refusal.Refusal.{Refusal}
use Rattle.r10_body.specs.declared.refusal.Refusal.TheVariants.{OutOfMemory}
use Rattle.r10_cursor.specs.Read.{HasRead, IsReadTo, TakesNext}
use Rattle.r10_cursor.specs.RepresentedCursors.{SlotStandsFor, SlotsStandFor, slot_at}
use Rattle.r10_cursor.specs.Steps.{StepsTo}
use Rattle.r10_world.specs.Joined.{KeptAndSlotsStandFor, SlotsStepTo}
use Rattle.r10_machine.specs.Calls.{Advances, Opens}
use Rattle.r10_count.proofs.Rules.{rules_pass, rules_stop}
use Rattle.r10_machine.specs.Checks.{advance_checks, cursor_checks, mounted_checks}
use Rattle.r10_machine.specs.Config.{Config}
use Rattle.r10_machine.specs.declared.mode.Mode.{Mode}
use Rattle.r10_machine.specs.Limits.{IsConfig}
use Rattle.r10_machine.specs.Machine.{Cursor as MachineCursor, File, Lane, Machine, cursor_at, cursor_of}
use Rattle.r10_refinement.specs.KeptState.{Kept, mode_of}
use Rattle.r10_refinement.specs.Means.{KeptStepsTo, KeptStandsFor}
use Rattle.r10_medium.specs.Disk.{Disk, Image}
use Rattle.r10_cursor.specs.declared.cursor.Cursor.{Cursor}
use Rattle.r10_control.specs.Checks.{files_of, recorder_refusal}
use Rattle.r10_control.specs.Lanes.{unerased}
use Rattle.r10_control.specs.Reading.{MayOpen}
use Rattle.r10_control.specs.State.{RecorderState}
use Rattle.r10_world.specs.RepresentedParts.{PartsStepTo, PartsStandFor}
use Rattle.r10_world.specs.WorldSteps.{RecorderStandsFor}
use Rattle.r10_world.proofs.CallsAsSteps.{Stays}
use Rattle.r10_machine.specs.EventChecks.{refusal}
use Rattle.r10_machine.specs.Says.{MediumSays}
use Rattle.r10_machine.specs.Step.{after_refusal, asks_memory, entry_has_room}
use Rattle.r10_machine.specs.declared.event.Event.{Event as EventValue}
use Rattle.r10_machine.specs.declared.event.Event.TheVariants as events
use Rattle.r10_machine.specs.declared.reply.Reply.{Reply as ReplyValue}
use Rattle.r10_machine.specs.declared.reply.Reply.TheVariants as replies

-- ---- the laws

abbrev pub LackMemory : Type 0
LackMemory = (k : Kept) (old new : Image) (n later : ℕ) (m : Machine) (event : EventValue) → IsConfig k.config → KeptStandsFor k old n m → new ≡ old → n ≤ later → refusal k.config m event ≡ None → asks_memory event ≡ true
    → entry_has_room k.config m event ≡ true → KeptStepsTo k m event (replies.Refused OutOfMemory) k new later (record m { failures = later })

abbrev pub AreRefused : Type 0
AreRefused = (k : Kept) (old new : Image) (n later : ℕ) (m : Machine) (event : EventValue) (r : Refusal) → IsConfig k.config → KeptStandsFor k old n m → new ≡ old → n ≤ later → refusal k.config m event ≡ Some r
    → ((same : Machine) → after_refusal event same ≡ same) → KeptStepsTo k m event (replies.Refused r) k new later (record m { failures = later })

-- ---- any step

-- what is kept, the medium and the lanes are the same
pub same_goes : (k : Kept) (m : Machine) (event : EventValue) (reply : ReplyValue) (later same : Kept) (image image' : Image) (now : ℕ) (lanes lanes' : List Lane) (slots : List (Option Cursor)) → same ≡ later → image' ≡ image → lanes' ≡ lanes
    → PartsStepTo k m event reply later image now lanes slots → PartsStepTo k m event reply same image' now lanes' slots
same_goes k m event reply later same image image' now lanes lanes' slots kept reads left goes = rw (kept, reads, left) goes

-- the same slots
pub same_slots : (k : Kept) (m : Machine) (event : EventValue) (reply : ReplyValue) (later : Kept) (image : Image) (now : ℕ) (lanes : List Lane) (slots slots' : List (Option Cursor)) → slots' ≡ slots
    → PartsStepTo k m event reply later image now lanes slots → PartsStepTo k m event reply later image now lanes slots'
same_slots k m event reply later image now lanes slots slots' same goes = rw same goes

pub set_on : (k : Kept) (image : Image) (before now : ℕ) (m : Machine) (event : EventValue) (reply : ReplyValue) (lanes : List Lane) (slots later : List (Option Cursor)) → PartsStandFor k image before lanes slots m
    → SlotsStepTo k m event reply image now later → PartsStepTo k m event reply k image now lanes later
set_on k image before now m event reply lanes slots later stands sets = record {
  machine = sets.machine;
  on = sets.on;
  lanes_are = subst (λ (ls : List Lane). lanes ≡ map unerased ls) (sym sets.lanes) stands.lanes_are;
}

-- ---- refusals

pub lacks_on : Stays → LackMemory → (k : Kept) (image new : Image) (before now : ℕ) (m : Machine) (event : EventValue) (lanes : List Lane) (slots : List (Option Cursor)) → PartsStandFor k image before lanes slots m → new ≡ image → before ≤ now
    → refusal k.config m event ≡ None → asks_memory event ≡ true → entry_has_room k.config m event ≡ true → PartsStepTo k m event (replies.Refused OutOfMemory) k new now lanes slots
lacks_on stay lack k image new before now m event lanes slots stands same more fine asks room =
    let leads = lack k image new before now m event stands.limits stands.joined.means same more fine asks room in
    record {
      machine = record m { failures = now };
      on = stay k k image new before now m (record m { failures = now }) event (replies.Refused OutOfMemory) slots stands.joined leads refl refl refl same;
      lanes_are = stands.lanes_are;
    }

pub check_on : Stays → AreRefused → (k : Kept) (image : Image) (failures : ℕ) (m : Machine) (event : EventValue) (r : Refusal) (lanes : List Lane) (slots : List (Option Cursor)) → PartsStandFor k image failures lanes slots m
    → refusal k.config m event ≡ Some r → ((same : Machine) → after_refusal event same ≡ same) → PartsStepTo k m event (replies.Refused r) k image failures lanes slots
check_on stay refused k image failures m event r lanes slots stands first after =
    let leads = refused k image image failures failures m event r stands.limits stands.joined.means refl (omega arith) first after in
    record {
      machine = record m { failures = failures };
      on = stay k k image image failures failures m (record m { failures = failures }) event (replies.Refused r) slots stands.joined leads refl refl refl refl;
      lanes_are = stands.lanes_are;
    }

-- ---- what a cursor represents

-- a cursor of this generation reads a file that is there, and the machine's has covered so many of the file's entries
pub record Reads (image : Image) (m : Machine) (id : ℕ) (c : Cursor) : Type 0 where
  pub reader : MachineCursor
  pub reader_is : cursor_of id m ≡ Some reader
  pub file : File
  pub file_is : slice_get m.files c.file ≡ Some file
  pub same : c.file ≡ reader.file
  pub there : c.file < length m.files
  pub read : IsReadTo image file c.reading.covered reader.covered

within : (files : List File) (n : ℕ) (f : File) → slice_get files n ≡ Some f → n < length files
within [] n f is = absurd (cc (is))
within (x ∷ files) zero f is = omega arith
within (x ∷ files) (suc n) f is = omega (arith, within files n f is)

record Found (files : List File) (n : ℕ) (P : File → Type 0) : Type 0 where
  file : File
  is : slice_get files n ≡ Some file
  holds : P file

found : (files : List File) (n : ℕ) (P : File → Type 0) → IsSomeAnd (slice_get files n) P → Found files n P
found files n P some = by (slice_get files n) refl some
  where
    by : (o : Option File) → slice_get files n ≡ o → IsSomeAnd o P → Found files n P
    by None is holds = absurd holds
    by (Some f) is holds = record { file = f; is = is; holds = holds }

pub reads : (image : Image) (m : Machine) (slots : List (Option Cursor)) (id : ℕ) (c : Cursor) → SlotsStandFor slots m.cursors → ((id : ℕ) → HasRead image m.files m.generation (slot_at slots id) (cursor_at m.cursors id))
    → slot_at slots id ≡ Some c → c.generation ≡ m.generation → Reads image m id c
reads image m slots id c stand read is same = by (cursor_at m.cursors id) refl (subst (λ (o : Option Cursor). SlotStandsFor o (cursor_at m.cursors id)) is (stand.each id))
    (subst (λ (o : Option Cursor). HasRead image m.files m.generation o (cursor_at m.cursors id)) is (read id))
  where
    by : (o : Option MachineCursor) → cursor_at m.cursors id ≡ o → SlotStandsFor (Some c) o → HasRead image m.files m.generation (Some c) o → Reads image m id c
    by None at fits reported = absurd fits
    by (Some reader) at fits reported =
        let one = found m.files c.file (λ f. IsReadTo image f c.reading.covered reader.covered) (reported same) in
        record { reader = reader; reader_is = at; file = one.file; file_is = one.is; same = sym fits.file; there = within m.files c.file one.file one.is; read = one.holds }

-- a slot that gets what it has
pub set_same : (slots : List (Option Cursor)) (id : ℕ) (c : Cursor) → slot_at slots id ≡ Some c → slice_set slots id (Some c) ≡ slots
set_same [] id c is = refl
set_same (x ∷ slots) zero c is = ap (λ (o : Option Cursor). o ∷ slots) (sym is)
set_same (x ∷ slots) (suc id) c is = ap (λ (xs : List (Option Cursor)). x ∷ xs) (set_same slots id c is)

-- ---- a cursor is opened

abbrev pub OpensLaw : Type 0
OpensLaw = (k : Kept) (image : Image) (before : ℕ) (now : ℕ) (m : Machine) (file : ℕ) (channels : List ℕ) (from : ℕ) (to : ℕ) (id : ℕ) (slots : List (Option Cursor)) (later : List (Option Cursor))
    → IsConfig k.config → KeptAndSlotsStandFor k image before slots m → before ≤ now → refusal k.config m (events.Cursor file channels from to) ≡ None
    → StepsTo (Opens (record m { failures = now }) file channels from to id) (record m { failures = now }) image slots later → SlotsStepTo k m (events.Cursor file channels from to) (replies.Cursor id) image now later

-- what the table ensures of a cursor that it opens
abbrev pub OpensSlot : ℕ → ℕ → List ℕ → ℕ → ℕ → ℕ → List (Option Cursor) → List (Option Cursor) → Type 0
OpensSlot generation file channels from to id slots later =
    (s : Config) (image : Image) (m : Machine) → SlotsStandFor slots m.cursors → m.generation ≡ generation → file < length m.files → MediumSays s image m.files → StepsTo (Opens m file channels from to id) m image slots later

pub opens_on : {M : Type 0} (disk : M → Disk) (old new : RecorderState M Lane) → OpensLaw → (file : ℕ) (channels : List ℕ) (from to from' to' id generation : ℕ) (slots later : List (Option Cursor)) → new.kept ≡ old.kept
    → (disk new.medium).blocks ≡ (disk old.medium).blocks → new.lanes ≡ old.lanes → (disk old.medium).failures ≤ (disk new.medium).failures → generation ≡ new.kept.generation → from' ≡ from → to' ≡ to
    → OpensSlot generation file channels from' to' id slots later → (m : Machine) → RecorderStandsFor disk old slots m → MayOpen old.kept (disk old.medium).blocks m file channels from to
    → PartsStepTo old.kept m (events.Cursor file channels from to) (replies.Cursor id) new.kept (disk new.medium).blocks (disk new.medium).failures new.lanes later
opens_on disk old new law file channels from to from' to' id generation slots later kept reads left more reported first last opens m stands may =
    let k = old.kept in
    let before = disk old.medium in
    let now = disk new.medium in
    let again : Machine = record m { failures = now.failures } in
    let same : m.generation ≡ generation = may.generation ∙ ap (λ (x : Kept). x.generation) (sym kept) ∙ sym reported in
    let leads : StepsTo (Opens again file channels from to id) again before.blocks slots later = rw (sym first, sym last) (opens k.config before.blocks again stands.joined.stand same may.there may.says) in
    same_goes k m (events.Cursor file channels from to) (replies.Cursor id) k new.kept before.blocks now.blocks now.failures old.lanes new.lanes later kept reads left
    (set_on k before.blocks before.failures now.failures m (events.Cursor file channels from to) (replies.Cursor id) old.lanes slots later stands
    (law k before.blocks before.failures now.failures m file channels from to id slots later stands.limits stands.joined more may.passes leads))

pub open_lacks : {M : Type 0} (disk : M → Disk) (old new : RecorderState M Lane) → Stays → LackMemory → (file : ℕ) (channels : List ℕ) (from to : ℕ) (slots later : List (Option Cursor)) → new.kept ≡ old.kept
    → (disk new.medium).blocks ≡ (disk old.medium).blocks → new.lanes ≡ old.lanes → (disk old.medium).failures ≤ (disk new.medium).failures → later ≡ slots
    → (m : Machine) → RecorderStandsFor disk old slots m → MayOpen old.kept (disk old.medium).blocks m file channels from to
    → PartsStepTo old.kept m (events.Cursor file channels from to) (replies.Refused OutOfMemory) new.kept (disk new.medium).blocks (disk new.medium).failures new.lanes later
open_lacks disk old new stay lack file channels from to slots later kept reads left more same m stands may =
    let k = old.kept in
    let before = disk old.medium in
    let now = disk new.medium in
    let event : EventValue = events.Cursor file channels from to in
    same_slots k m event (replies.Refused OutOfMemory) new.kept now.blocks now.failures new.lanes slots later same
    (same_goes k m event (replies.Refused OutOfMemory) k new.kept before.blocks now.blocks now.failures old.lanes new.lanes slots kept reads left
    (lacks_on stay lack k before.blocks before.blocks before.failures now.failures m event old.lanes slots stands refl more may.passes refl refl))

-- what passes is mounted
pub is_mounted : (old new : Kept) (file : ℕ) (channels : List ℕ) (from to : ℕ) (r : Refusal) → recorder_refusal old (events.Cursor file channels from to) ≡ None → new ≡ old → first_broken (mounted_checks (mode_of new.work)) ≡ Some r → ⊥
is_mounted old new file channels from to r passed same broken =
    let stops : recorder_refusal old (events.Cursor file channels from to) ≡ Some r =
    rules_stop (mounted_checks (mode_of old.work)) (cursor_checks (length (files_of old.work)) file from to) r (subst (λ (k : Kept). first_broken (mounted_checks (mode_of k.work)) ≡ Some r) same broken) in
    by (recorder_refusal old (events.Cursor file channels from to)) passed stops
  where
    by : (o : Option Refusal) → o ≡ None → o ≡ Some r → ⊥
    by o none some = cc

-- ---- a cursor advances

abbrev pub AdvancesLaw : Type 0
AdvancesLaw = (k : Kept) (image : Image) (before : ℕ) (now : ℕ) (m : Machine) (id : ℕ) (n : ℕ) (slots : List (Option Cursor)) (later : List (Option Cursor)) → IsConfig k.config → KeptAndSlotsStandFor k image before slots m → before ≤ now
    → refusal k.config m (events.Advance id) ≡ None → StepsTo (Advances (record m { failures = now }) id n) (record m { failures = now }) image slots later → SlotsStepTo k m (events.Advance id) (replies.Advanced n) image now later

abbrev pub AreMachines : Type 0
AreMachines = (image : Image) (m : Machine) (id : ℕ) (c : MachineCursor) (f : File) (old : Cursor) (new : Cursor) (slots : List (Option Cursor)) → SlotsStandFor slots m.cursors → cursor_of id m ≡ Some c → slice_get m.files c.file ≡ Some f
    → slot_at slots id ≡ Some old → TakesNext image f c.covered old new → StepsTo (Advances m id (length new.reading.queue)) m image slots (slice_set slots id (Some new))

pub advances_on : {M : Type 0} (disk : M → Disk) (old new : RecorderState M Lane) → AdvancesLaw → AreMachines → (id n : ℕ) (c next : Cursor) (slots : List (Option Cursor)) → new.kept ≡ old.kept
    → (disk new.medium).blocks ≡ (disk old.medium).blocks → new.lanes ≡ old.lanes → (disk old.medium).failures ≤ (disk new.medium).failures → slot_at slots id ≡ Some c → n ≡ length next.reading.queue → (m : Machine) → RecorderStandsFor disk old slots m
    → (one : Reads (disk old.medium).blocks m id c) → refusal old.kept.config m (events.Advance id) ≡ None → TakesNext (disk old.medium).blocks one.file one.reader.covered c next
    → PartsStepTo old.kept m (events.Advance id) (replies.Advanced n) new.kept (disk new.medium).blocks (disk new.medium).failures new.lanes (slice_set slots id (Some next))
advances_on disk old new law are id n c next slots kept reads left more is number m stands one fine takes =
    let k = old.kept in
    let before = disk old.medium in
    let now = disk new.medium in
    let later = slice_set slots id (Some next) in
    let again : Machine = record m { failures = now.failures } in
    let file_is : slice_get again.files one.reader.file ≡ Some one.file = subst (λ (x : ℕ). slice_get m.files x ≡ Some one.file) one.same one.file_is in
    let leads : StepsTo (Advances again id n) again before.blocks slots later =
    subst (λ (x : ℕ). StepsTo (Advances again id x) again before.blocks slots later) (sym number) (are before.blocks again id one.reader one.file c next slots stands.joined.stand one.reader_is file_is is takes) in
    same_goes k m (events.Advance id) (replies.Advanced n) k new.kept before.blocks now.blocks now.failures old.lanes new.lanes later kept reads left
    (set_on k before.blocks before.failures now.failures m (events.Advance id) (replies.Advanced n) old.lanes slots later stands
    (law k before.blocks before.failures now.failures m id n slots later stands.limits stands.joined more fine leads))

-- a check of the cursor refuses a mounted recorder's
pub advance_refused : Stays → AreRefused → (k : Kept) (image : Image) (failures : ℕ) (m : Machine) (id : ℕ) (r : Refusal) (lanes : List Lane) (slots : List (Option Cursor)) → PartsStandFor k image failures lanes slots m
    → first_broken (mounted_checks (mode_of k.work)) ≡ None → first_broken (advance_checks m.generation (cursor_of id m)) ≡ Some r → PartsStepTo k m (events.Advance id) (replies.Refused r) k image failures lanes slots
advance_refused stay refused k image failures m id r lanes slots stands mounted broken =
    let passes : first_broken (mounted_checks m.mode) ≡ None = subst (λ (mode : Mode). first_broken (mounted_checks mode) ≡ None) (sym stands.joined.means.mode) mounted in
    check_on stay refused k image failures m (events.Advance id) r lanes slots stands (rules_pass (mounted_checks m.mode) (advance_checks m.generation (cursor_of id m)) passes ∙ broken) (λ same. refl)

-- what a table tells of a slot, it tells of its cursor
pub slot_tells : (o : Option Cursor) (c : Cursor) (file n m : ℕ) → o ≡ Some c → IsSomeAnd o (λ (x : Cursor). (x.file ≡ file) × (x.generation ≡ n) × (x.reading.queue ≡ [])) → m ≡ n → c.generation ≡ m
slot_tells None c file n m is holds same = absurd holds
slot_tells (Some x) c file n m is holds same =
    let one : x ≡ c = cc (is) in
    subst (λ (y : Cursor). y.generation ≡ m) one (holds.1 ∙ sym same)

pub passes_too : (m : Machine) (id n : ℕ) → m.generation ≡ n → first_broken (advance_checks n (cursor_of id m)) ≡ None → first_broken (advance_checks m.generation (cursor_of id m)) ≡ None
passes_too m id n same passes = subst (λ (g : ℕ). first_broken (advance_checks g (cursor_of id m)) ≡ None) (sym same) passes
