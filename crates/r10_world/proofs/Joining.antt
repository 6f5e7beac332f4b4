-- Steps of a recorder and of the table of its readers' cursors.
use Rattle.std.proofs.Common.{◌≡◌, ◌≤◌, ℕ, List, [], ◌∷◌, Option, None, Some, IsSomeAnd, refl, sym, ap, subst, arith}
use Rattle.std.specs.Prelude.{slice_get}
use Rattle.r10_medium.specs.Disk.{Image}
use Rattle.r10_body.specs.declared.entry.Entry.{Entry}
use Rattle.r10_machine.specs.Calls.{Advances, GivesQueued, Opens}
use Rattle.r10_machine.specs.Config.{Config}
use Rattle.r10_machine.specs.Limits.{IsConfig}
use Rattle.r10_machine.specs.Machine.{Cursor as MachineCursor, File, Machine, SetsCursor, cursor_of}
use Rattle.r10_machine.specs.EventChecks.{refusal}
use Rattle.r10_machine.specs.Says.{MediumSays}
use Rattle.r10_machine.specs.Sound.{IsSound}
use Rattle.r10_machine.specs.Step.{Step}
use Rattle.r10_machine.specs.declared.event.Event.{Event as EventValue}
use Rattle.r10_machine.specs.declared.event.Event.TheVariants as events
use Rattle.r10_machine.specs.declared.reply.Reply.{Reply as ReplyValue}
use Rattle.r10_machine.specs.declared.reply.Reply.TheVariants as replies
use Rattle.r10_cursor.specs.declared.cursor.Cursor.{Cursor}
use Rattle.r10_cursor.specs.Read.{HaveRead, KeepsBytes}
use Rattle.r10_cursor.specs.Staying.{NoneShrinks}
use Rattle.r10_cursor.proofs.Sizes.{none_shrinks}
use Rattle.r10_cursor.specs.RepresentedCursors.{SlotsStandFor}
use Rattle.r10_cursor.specs.Steps.{StepsTo}
use Rattle.r10_refinement.specs.KeptState.{Kept, Work, unmounted, idle, recording, failed}
use Rattle.r10_refinement.specs.Means.{HasFiles, KeptStepsTo}
use Rattle.r10_world.specs.Joined.{KeptAndSlotsStandFor, SlotsStepTo, KeptAndSlotsStepTo}

-- every step keeps a sound state sound, and steps that leave the cursors leave what they have read
abbrev pub StepsStaySound : Type 0
StepsStaySound = (s : Config) (old : Machine) (event : EventValue) (reply : ReplyValue) (new : Machine) → IsConfig s → IsSound s old → Step s old event reply new → IsSound s new

abbrev pub CursorsStay : Type 0
CursorsStay = (s : Config) (old new : Image) (m later : Machine) (event : EventValue) (reply : ReplyValue) (slots : List (Option Cursor)) → IsSound s m → Step s m event reply later → later.cursors ≡ m.cursors → MediumSays s new later.files
    → (later.generation ≡ m.generation → NoneShrinks m.files later.files × KeepsBytes old new m.files) → SlotsStandFor slots m.cursors → HaveRead old m.files m.generation slots m.cursors
    → SlotsStandFor slots later.cursors × HaveRead new later.files later.generation slots later.cursors

-- the medium says the files of a machine that is represented
said : (work : Work) (s : Config) (image : Image) (files : List File) → HasFiles s work image files → MediumSays s image files
said unmounted s image files has = has.0
said (idle chain) s image files has = has.says
said (recording chain file) s image files has = has.says
said failed s image files has = has

-- ---- calls of the recorder

pub moves : CursorsStay → (k later : Kept) (old new : Image) (before now : ℕ) (m machine : Machine) (event : EventValue) (reply : ReplyValue) (slots : List (Option Cursor)) → KeptAndSlotsStandFor k old before slots m → KeptStepsTo k m event reply later new now machine
    → machine.cursors ≡ m.cursors → later.config ≡ k.config → (machine.generation ≡ m.generation → NoneShrinks m.files machine.files × KeepsBytes old new m.files) → KeptAndSlotsStepTo k m event reply machine later new now slots
moves law k later old new before now m machine event reply slots joined leads same config keeps =
    let says : MediumSays k.config new machine.files = subst (λ (s : Config). MediumSays s new machine.files) config (said later.work later.config new machine.files leads.means.files) in
    let both = law k.config old new m machine event reply slots joined.means.sound leads.step same says keeps joined.stand joined.read in
    record { step = leads.step; says = says; joined = record { means = leads.means; stand = both.0; read = both.1 }; config = config }

bytes_stay : (image : Image) (files : List File) → KeepsBytes image image files
bytes_stay image [] = tt
bytes_stay image (f ∷ files) = (refl, bytes_stay image files)

pub stays : CursorsStay → (k later : Kept) (old new : Image) (before now : ℕ) (m machine : Machine) (event : EventValue) (reply : ReplyValue) (slots : List (Option Cursor)) → KeptAndSlotsStandFor k old before slots m → KeptStepsTo k m event reply later new now machine
    → machine.cursors ≡ m.cursors → later.config ≡ k.config → machine.files ≡ m.files → new ≡ old → KeptAndSlotsStepTo k m event reply machine later new now slots
stays law k later old new before now m machine event reply slots joined leads same config files image =
    moves law k later old new before now m machine event reply slots joined leads same config
    (λ again. (subst (NoneShrinks m.files) (sym files) (none_shrinks m.files), subst (λ (i : Image). KeepsBytes old i m.files) (sym image) (bytes_stay old m.files)))

-- ---- calls on the table

-- the machine with other cursors, and other failures
abbrev changed : Machine → ℕ → List (Option MachineCursor) → Machine
changed m now cursors = record m { failures = now; cursors = cursors }

sets_on : StepsStaySound → (k : Kept) (image : Image) (before now : ℕ) (m : Machine) (event : EventValue) (reply : ReplyValue) (slots later : List (Option Cursor)) (cursors : List (Option MachineCursor)) → IsConfig k.config → KeptAndSlotsStandFor k image before slots m
    → Step k.config m event reply (changed m now cursors) → SlotsStandFor later cursors
    → (HaveRead image m.files m.generation slots m.cursors → HaveRead image m.files m.generation later cursors) → SlotsStepTo k m event reply image now later
sets_on law k image before now m event reply slots later cursors limits joined step stand read =
    let means = joined.means in
    record {
      machine = changed m now cursors;
      on = record {
        step = step;
        says = said k.work k.config image m.files means.files;
        joined = record {
          means = record {
            mode = means.mode;
            tick = means.tick;
            counted = refl;
            files = means.files;
            numbers = means.numbers;
            sound = law k.config m event reply (changed m now cursors) limits means.sound step;
          };
          stand = stand;
          read = read joined.read;
        };
        config = refl;
      };
      lanes = refl;
    }

more_failures : (k : Kept) (image : Image) (before now : ℕ) (m : Machine) (slots : List (Option Cursor)) → KeptAndSlotsStandFor k image before slots m → before ≤ now → m.failures ≤ now
more_failures k image before now m slots joined more = omega (arith, joined.means.counted, more)

read_at : (image : Image) (m new : Machine) (now : ℕ) (slots later : List (Option Cursor)) → new ≡ changed m now new.cursors
    → (HaveRead image m.files m.generation slots m.cursors → HaveRead image new.files new.generation later new.cursors) → HaveRead image m.files m.generation slots m.cursors → HaveRead image m.files m.generation later new.cursors
read_at image m new now slots later is read before =
    subst (λ (g : ℕ). HaveRead image m.files g later new.cursors) (ap (λ (x : Machine). x.generation) is)
    (subst (λ (fs : List File). HaveRead image fs new.generation later new.cursors) (ap (λ (x : Machine). x.files) is) (read before))

some_then : {A : Type 0} (C : Type 0) (o : Option A) (P : A → Type 0) → IsSomeAnd o P → ((x : A) → P x → C) → C
some_then C None P holds then = absurd holds
some_then C (Some x) P holds then = then x holds

pub opens : StepsStaySound → (k : Kept) (image : Image) (before now : ℕ) (m : Machine) (file : ℕ) (channels : List ℕ) (from to id : ℕ) (slots later : List (Option Cursor)) → IsConfig k.config → KeptAndSlotsStandFor k image before slots m → before ≤ now
    → refusal k.config m (events.Cursor file channels from to) ≡ None → StepsTo (Opens (record m { failures = now }) file channels from to id) (record m { failures = now }) image slots later
    → SlotsStepTo k m (events.Cursor file channels from to) (replies.Cursor id) image now later
opens law k image before now m file channels from to id slots later limits joined more fine leads =
    let old : Machine = record m { failures = now } in
    let new = leads.machine in
    let is : new ≡ changed m now new.cursors = leads.step.1.1 in
    let done : Opens old file channels from to id (changed m now new.cursors) = subst (Opens old file channels from to id) is leads.step in
    sets_on law k image before now m (events.Cursor file channels from to) (replies.Cursor id) slots later new.cursors limits joined (more_failures k image before now m slots joined more, (fine, done)) leads.stand
    (read_at image m new now slots later is leads.read)

pub gives : StepsStaySound → (k : Kept) (image : Image) (before now : ℕ) (m : Machine) (id : ℕ) (given : Option Entry) (slots later : List (Option Cursor)) → IsConfig k.config → KeptAndSlotsStandFor k image before slots m → before ≤ now
    → refusal k.config m (events.Next id) ≡ None → StepsTo (GivesQueued (record m { failures = now }) id given) (record m { failures = now }) image slots later → SlotsStepTo k m (events.Next id) (replies.Next given) image now later
gives law k image before now m id given slots later limits joined more fine leads =
    let old : Machine = record m { failures = now } in
    let new = leads.machine in
    let is : new ≡ changed m now new.cursors = some_then (new ≡ changed m now new.cursors) (cursor_of id old) _ leads.step (λ c made. made.1.1) in
    let done : GivesQueued old id given (changed m now new.cursors) = subst (GivesQueued old id given) is leads.step in
    sets_on law k image before now m (events.Next id) (replies.Next given) slots later new.cursors limits joined (more_failures k image before now m slots joined more, (fine, done)) leads.stand
    (read_at image m new now slots later is leads.read)

pub closes : StepsStaySound → (k : Kept) (image : Image) (before now : ℕ) (m : Machine) (id : ℕ) (slots later : List (Option Cursor)) → IsConfig k.config → KeptAndSlotsStandFor k image before slots m → before ≤ now
    → refusal k.config m (events.Close id) ≡ None → StepsTo (λ new. SetsCursor (record m { failures = now }) new id None) (record m { failures = now }) image slots later → SlotsStepTo k m (events.Close id) replies.Done image now later
closes law k image before now m id slots later limits joined more fine leads =
    let old : Machine = record m { failures = now } in
    let new = leads.machine in
    let is : new ≡ changed m now new.cursors = leads.step.1 in
    let done : SetsCursor old (changed m now new.cursors) id None = subst (λ (x : Machine). SetsCursor old x id None) is leads.step in
    sets_on law k image before now m (events.Close id) replies.Done slots later new.cursors limits joined (more_failures k image before now m slots joined more, (fine, done)) leads.stand
    (read_at image m new now slots later is leads.read)

pub advances : StepsStaySound → (k : Kept) (image : Image) (before now : ℕ) (m : Machine) (id n : ℕ) (slots later : List (Option Cursor)) → IsConfig k.config → KeptAndSlotsStandFor k image before slots m → before ≤ now
    → refusal k.config m (events.Advance id) ≡ None → StepsTo (Advances (record m { failures = now }) id n) (record m { failures = now }) image slots later → SlotsStepTo k m (events.Advance id) (replies.Advanced n) image now later
advances law k image before now m id n slots later limits joined more fine leads =
    let old : Machine = record m { failures = now } in
    let new = leads.machine in
    let is : new ≡ changed m now new.cursors =
    some_then (new ≡ changed m now new.cursors) (cursor_of id old) _ leads.step (λ c found. some_then (new ≡ changed m now new.cursors) (slice_get old.files c.file) _ found (λ f made. made.3.1)) in
    let done : Advances old id n (changed m now new.cursors) = subst (Advances old id n) is leads.step in
    sets_on law k image before now m (events.Advance id) (replies.Advanced n) slots later new.cursors limits joined (more_failures k image before now m slots joined more, (fine, done)) leads.stand
    (read_at image m new now slots later is leads.read)
