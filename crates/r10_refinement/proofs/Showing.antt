-- Steps that show plain more.
use Rattle.std.proofs.Common.{◌≡◌, ◌≤◌, ◌⊎◌, inl, inr, ℕ, Bool, true, false, cond, List, [], ◌∷◌, map, length, take, Option, Some, None, refl, ap, ◌∙◌, is_none, IsSomeAnd, slice_get}
use Rattle.std.specs.List.{AllByRecursion}
use Rattle.std.proofs.lemmas.List.{take-append-le}
use Rattle.r10_count.specs.Checks.{first_broken}
use Rattle.r10_body.specs.declared.entry.Entry.{Entry}
use Rattle.r10_body.specs.declared.refusal.Refusal.{Refusal}
use Rattle.r10_body.specs.declared.refusal.Refusal.TheVariants.{Medium, OutOfMemory}
use Rattle.r10_machine.specs.Config.{Config}
use Rattle.r10_machine.specs.Machine.{Cursor as MachineCursor, File, Machine, SetsCursor, Tick as MachineTick, change_last, cursor_of, lane_of, last_file, waiting_entries, with_entries, with_lane}
use Rattle.r10_machine.specs.Calls.{TicksIn, overflowed, time_entry}
use Rattle.r10_machine.specs.Checks.{is_recording, offer_checks}
use Rattle.r10_machine.specs.Needs.{shown_part}
use Rattle.r10_machine.specs.EventChecks.{refusal}
use Rattle.r10_machine.specs.Sound.{IsSound}
use Rattle.r10_machine.specs.Step.{Does, GivesUp, Refuses, Replies, Step, after_refusal}
use Rattle.r10_machine.specs.declared.mode.Mode.TheVariants.{Failed}
use Rattle.r10_machine.specs.declared.event.Event.{Event as EventValue}
use Rattle.r10_machine.specs.declared.event.Event.TheVariants.{Mount, Dismount, Tick, Start, Offer, Lose, Pump, Event, Commit, Stop, Seal, Erase, Files, Status, Cursor, Advance, Next, Close, Find, CountAt}
use Rattle.r10_machine.specs.declared.reply.Reply.{Reply as ReplyValue}
use Rattle.r10_machine.specs.declared.reply.Reply.TheVariants as replies
use Rattle.r10_refinement.specs.Quiet.{IsNoFailure, may_make}

abbrev shows : List File → List File
shows files = map shown_part files

-- entries after those that are shown show nothing
part_same : (f : File) (more : List Entry) → f.shown ≤ length f.entries → shown_part (with_entries more f) ≡ shown_part f
part_same f more within = ap (λ (es : List Entry). record f { entries = es }) (take-append-le f.shown f.entries more within)

last_shows : (more : List Entry) (files : List File) → AllByRecursion (λ f. f.shown ≤ length f.entries) files → shows (change_last (with_entries more) files) ≡ shows files
last_shows more [] all = refl
last_shows more (f ∷ []) all = ap (λ (p : File). p ∷ []) (part_same f more all.0)
last_shows more (f ∷ g ∷ files) all = ap (λ (ps : List File). shown_part f ∷ ps) (last_shows more (g ∷ files) all.1)

ticks_show : (b : Bool) (s : Config) (old new : Machine) (tick : MachineTick) → AllByRecursion (λ f. f.shown ≤ length f.entries) old.files → TicksIn b s old tick new → shows new.files ≡ shows old.files
ticks_show false s old new tick all is = ap (λ (m : Machine). shows m.files) is
ticks_show true s old new tick all (room, is) = ap (λ (m : Machine). shows m.files) is ∙ last_shows (time_entry s tick ∷ []) old.files all

some_of : {A : Type 0} (o : Option A) (P : A → Type 0) (Q : Type 0) → ((a : A) → P a → Q) → IsSomeAnd o P → Q
some_of None P Q gives is = absurd is
some_of (Some a) P Q gives is = gives a is

sets_show : (old new : Machine) (id : ℕ) (cursor : Option MachineCursor) → SetsCursor old new id cursor → shows new.files ≡ shows old.files
sets_show old new id cursor (sets, is) = ap (λ (m : Machine). shows m.files) is

does_show : (s : Config) (old : Machine) (event : EventValue) (reply : ReplyValue) (new : Machine) → AllByRecursion (λ f. f.shown ≤ length f.entries) old.files → may_make event ≡ false → Does s old event reply new → shows new.files ≡ shows old.files
does_show s old Mount replies.Done new all plain is = ap (λ (m : Machine). shows m.files) is
does_show s old Dismount replies.Done new all plain is = ap (λ (m : Machine). shows m.files) is
does_show s old (Tick count parts) replies.Done new all plain does = ticks_show (is_recording old.mode) s old new (record { count = count; civil = parts }) all does
does_show s old (Offer channel count message) replies.Done new all plain is = ap (λ (m : Machine). shows m.files) is
does_show s old (Lose channel lost) replies.Done new all plain is = ap (λ (m : Machine). shows m.files) is
does_show s old (Pump channel most) (replies.Moved n) new all plain does =
    some_of (lane_of channel old) _ (shows new.files ≡ shows old.files) (λ lane in_lane. some_of (last_file old) _ (shows new.files ≡ shows old.files)
    (λ f in_file. ap (λ (m : Machine). shows m.files) in_file.2 ∙ last_shows (take n (waiting_entries lane)) old.files all) in_lane) does
does_show s old (Event number count) replies.Done new all plain does =
    some_of (last_file old) _ (shows new.files ≡ shows old.files) (λ f in_file. ap (λ (m : Machine). shows m.files) in_file.1 ∙ last_shows _ old.files all) does
does_show s old Files (replies.Files files) new all plain (reported, is) = ap (λ (m : Machine). shows m.files) is
does_show s old Status (replies.Status status) new all plain (reported, is) = ap (λ (m : Machine). shows m.files) is
does_show s old (Cursor file channels from to) (replies.Cursor id) new all plain (free, sets) = sets_show old new id _ sets
does_show s old (Advance id) (replies.Advanced n) new all plain does =
    some_of (cursor_of id old) _ (shows new.files ≡ shows old.files) (λ c at. some_of (slice_get old.files c.file) _ (shows new.files ≡ shows old.files) (λ f in_file. sets_show old new id _ in_file.3) at) does
does_show s old (Next id) (replies.Next given) new all plain does =
    some_of (cursor_of id old) _ (shows new.files ≡ shows old.files) (λ c at. sets_show old new id _ at.1) does
does_show s old (Close id) replies.Done new all plain sets = sets_show old new id _ sets
does_show s old (Find file channel count) (replies.Found answer) new all plain (reported, is) = ap (λ (m : Machine). shows m.files) is
does_show s old (CountAt file parts) (replies.CountAt answer) new all plain (reported, is) = ap (λ (m : Machine). shows m.files) is
does_show s old (Start name setup) reply new all plain does = cc
does_show s old Commit reply new all plain does = cc
does_show s old Stop reply new all plain does = cc
does_show s old Seal reply new all plain does = cc
does_show s old Erase reply new all plain does = cc
does_show s old event reply new all plain does = absurd does

refused_shows : (event : EventValue) (old : Machine) → shows (after_refusal event old).files ≡ shows old.files
refused_shows (Offer channel count message) old = by (is_none (first_broken (offer_checks (lane_of channel old) count message)))
  where
    by : (b : Bool) → shows (cond b (with_lane channel overflowed old) old).files ≡ shows old.files
    by true = refl
    by false = refl
refused_shows event old = refl

gives_up_shows : (s : Config) (before : ℕ) (old : Machine) (event : EventValue) (r : Refusal) (new : Machine) → GivesUp s before old event r new → IsNoFailure (replies.Refused r) → shows new.files ≡ shows old.files
gives_up_shows s before old event Medium new given fine = absurd fine
gives_up_shows s before old event OutOfMemory new (asks, room, is) fine = ap (λ (m : Machine). shows m.files) is
gives_up_shows s before old event r new given fine = ap (λ (m : Machine). shows m.files) given.1

replies_show : (s : Config) (before : ℕ) (old : Machine) (event : EventValue) (reply : ReplyValue) (new : Machine) → AllByRecursion (λ f. f.shown ≤ length f.entries) old.files → may_make event ≡ false → IsNoFailure reply → Replies s before old event reply new
    → shows new.files ≡ shows old.files
replies_show s before old event (replies.Refused r) new all plain fine refuses = by (refusal s old event) refuses
  where
    by : (o : Option Refusal) → Refuses o s before old event r new → shows new.files ≡ shows old.files
    by None gives = gives_up_shows s before old event r new gives fine
    by (Some first) (same, after) = ap (λ (m : Machine). shows m.files) after ∙ refused_shows event old
replies_show s before old event reply new all plain fine (passed, does) = does_show s old event reply new all plain does

pub step_shows : (s : Config) (m : Machine) (event : EventValue) (reply : ReplyValue) (later : Machine) → IsSound s m → Step s m event reply later → may_make event ≡ false → IsNoFailure reply → shows later.files ≡ shows m.files
step_shows s m event reply later sound (more, replied) plain fine = replies_show s m.failures (record m { failures = later.failures }) event reply later sound.shown plain fine replied

-- ---- where a call is refused

-- a refusal leaves what is shown, or the machine failed
pub refused_shows_or_fails : (s : Config) (m : Machine) (event : EventValue) (r : Refusal) (later : Machine) → Step s m event (replies.Refused r) later
    → (later.mode ≡ Failed) ⊎ ((later.mode ≡ m.mode) × (shows later.files ≡ shows m.files))
refused_shows_or_fails s m event r later (more, refuses) = by (refusal s old event) refuses
  where
    old : Machine
    old = record m { failures = later.failures }

    mode_after : (event : EventValue) (old : Machine) → (after_refusal event old).mode ≡ old.mode
    mode_after (Offer channel count message) old = at (is_none (first_broken (offer_checks (lane_of channel old) count message)))
      where
        at : (b : Bool) → (cond b (with_lane channel overflowed old) old).mode ≡ old.mode
        at true = refl
        at false = refl
    mode_after event old = refl

    fails : (r : Refusal) → GivesUp s m.failures old event r later → (later.mode ≡ Failed) ⊎ ((later.mode ≡ m.mode) × (shows later.files ≡ shows m.files))
    fails Medium (uses, room, rose, given) = inl (ap (λ (x : Machine). x.mode) given.rest)
    fails OutOfMemory (asks, room, is) = inr (ap (λ (x : Machine). x.mode) is, ap (λ (x : Machine). shows x.files) is)
    fails r given = inr (ap (λ (x : Machine). x.mode) given.1, ap (λ (x : Machine). shows x.files) given.1)

    by : (o : Option Refusal) → Refuses o s m.failures old event r later → (later.mode ≡ Failed) ⊎ ((later.mode ≡ m.mode) × (shows later.files ≡ shows m.files))
    by None gives = fails r gives
    by (Some first) (same, after) = inr (ap (λ (x : Machine). x.mode) after ∙ mode_after event old, ap (λ (x : Machine). shows x.files) after ∙ refused_shows event old)
