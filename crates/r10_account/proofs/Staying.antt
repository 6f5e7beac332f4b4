-- Files that were found stay the first, with what they show.
use Rattle.std.proofs.Common.{◌≡◌, ◌≤◌, ◌⊎◌, inl, inr, ℕ, Bool, true, false, ◌||◌, List, [], ◌∷◌, ◌++◌, map, take, length, zip, Option, Some, None, refl, sym, ap, ◌∙◌, subst, arith, slice_get, true≢false}
use Rattle.std.specs.List.{AllByRecursion, last_or, list_any}
use Rattle.std.proofs.lemmas.List.{take_all}
use Rattle.r10_machine.specs.Checks.{is_recording, recording_checks, channel_checks}
use Rattle.r10_body.specs.declared.refusal.Refusal.{Refusal}
use Rattle.r10_body.specs.declared.refusal.Refusal.TheVariants as refusals
use Rattle.r10_medium.specs.Disk.{Image}
use Rattle.r10_machine.specs.Config.{Config}
use Rattle.r10_machine.specs.Limits.{IsConfig}
use Rattle.r10_machine.specs.Machine.{Machine, File, cursor_of, fresh, lane_of, last_size, change_last, waiting_entries, with_entries}
use Rattle.r10_machine.specs.Needs.{shown_part}
use Rattle.r10_machine.specs.Calls.{all_waiting, closed_whole, empty_file, shown_whole, time_entry, TicksIn}
use Rattle.r10_machine.specs.ControlCalls.{closed_in, event_entry}
use Rattle.r10_machine.specs.Sound.{IsFoundFile, IsSound}
use Rattle.r10_machine.specs.declared.event.Event.{Event as EventValue}
use Rattle.r10_machine.specs.declared.event.Event.TheVariants.{Mount, Dismount, Tick, Start, Offer, Lose, Pump, Event, Commit, Stop, Seal, Erase, Files, Status, Cursor, Advance, Next, Close, Find, CountAt}
use Rattle.r10_machine.specs.declared.reply.Reply.{Reply as ReplyValue}
use Rattle.r10_machine.specs.declared.reply.Reply.TheVariants as replies
use Rattle.r10_machine.specs.EventChecks.{refusal, event_checks, most_files}
use Rattle.r10_machine.specs.Step.{Does, Step, Run, Replies, Refuses, GivesUp, FailsIn}
use Rattle.r10_machine.proofs.Grown.{taping}
use Rattle.r10_machine.proofs.Steady.{records_of, rules_parts}
use Rattle.r10_account.specs.FilesOfOthers.{AreStillFirst, may_erase}
use Rattle.r10_account.proofs.Lanes.{heads}
use Rattle.std.proofs.lemmas.Option.{same_Some}
use Rattle.r10_machine.proofs.Keeping.{some_then}
use Rattle.r10_machine.proofs.Steps.{refused_files}

-- ---- files

stays_same : (found files news : List File) → news ≡ files → AreStillFirst found files → AreStillFirst found news
stays_same found files news is still = subst (AreStillFirst found) (sym is) still

-- an own file after them changes
own_changes : (change : File → File) (found files : List File) (f : File) → last_or None files ≡ Some f → f.own ≡ true → AreStillFirst found files → AreStillFirst found (change_last change files)
own_changes change [] files f last own still = tt
own_changes change (g ∷ found) [] f last own still = absurd still
own_changes change (g ∷ found) (x ∷ []) f last own (here, still) = absurd (true≢false (sym own ∙ sym (ap (λ (f : File). f.own) (same_Some _ _ last)) ∙ here.own))
own_changes change (g ∷ found) (x ∷ y ∷ ys) f last own (here, still) = (here, own_changes change found (y ∷ ys) f last own still)

-- the last file is closed
closes : (size : ℕ) (found files : List File) → AreStillFirst found files → AreStillFirst found (change_last (closed_in size) files)
closes size [] files still = tt
closes size (g ∷ found) [] still = absurd still
closes size (g ∷ found) (x ∷ []) (here, still) = (record { name = here.name; setup = here.setup; first_block = here.first_block; entries = here.entries; own = here.own }, still)
closes size (g ∷ found) (x ∷ y ∷ ys) (here, still) = (here, closes size found (y ∷ ys) still)

appended : (found files : List File) (g : File) → AreStillFirst found files → AreStillFirst found (files ++ g ∷ [])
appended [] files g still = tt
appended (f ∷ found) [] g still = absurd still
appended (f ∷ found) (x ∷ xs) g (here, still) = (here, appended found xs g still)

shown_still : (found ends news : List File) → map shown_part news ≡ map shown_part ends → AreStillFirst found ends → AreStillFirst found news
shown_still [] ends news same still = tt
shown_still (f ∷ found) [] news same still = absurd still
shown_still (f ∷ found) (e ∷ ends) [] same still = cc
shown_still (f ∷ found) (e ∷ ends) (n ∷ news) same (here, still) =
    let parts = heads same in (
      record {
        name = ap (λ (f : File). f.name) parts.0 ∙ here.name;
        setup = ap (λ (f : File). f.setup) parts.0 ∙ here.setup;
        first_block = ap (λ (f : File). f.first_block) parts.0 ∙ here.first_block;
        entries = ap (λ (f : File). f.entries) parts.0 ∙ here.entries;
        own = ap (λ (f : File). f.own) parts.0 ∙ here.own;
      },
      shown_still found ends news parts.1 still,
    )

-- ---- steps

abbrev OpensOwn : Machine → Type 0
OpensOwn m = is_recording m.mode ≡ true → (f : File) × (last_or None m.files ≡ Some f) × (f.own ≡ true)

abbrev is_erase : EventValue → Bool
is_erase event = elim event [ Erase ↦ true | _ ↦ false ]

records : (change : File → File) (found : List File) (old new : Machine) → OpensOwn old → is_recording old.mode ≡ true → new.files ≡ change_last change old.files → AreStillFirst found old.files → AreStillFirst found new.files
records change found old new opens rec is still =
    let o = opens rec in
    stays_same found (change_last change old.files) new.files is (own_changes change found old.files o.0 o.1 o.2 still)

does_still : (s : Config) (found : List File) (old : Machine) (event : EventValue) (reply : ReplyValue) (new : Machine) → OpensOwn old → refusal s old event ≡ None → is_erase event ≡ false → Does s old event reply new → AreStillFirst found old.files → AreStillFirst found new.files
does_still s found old Mount replies.Done new opens fine none is still = stays_same found old.files new.files (ap (λ (m : Machine). m.files) is) still
does_still s found old Dismount replies.Done new opens fine none is still = stays_same found old.files new.files (ap (λ (m : Machine). m.files) is) still
does_still s found old (Tick count parts) replies.Done new opens fine none does still = by (is_recording old.mode) refl does
  where
    by : (b : Bool) → is_recording old.mode ≡ b → TicksIn b s old (record { count = count; civil = parts }) new → AreStillFirst found new.files
    by false rec is = stays_same found old.files new.files (ap (λ (m : Machine). m.files) is) still
    by true rec (room, is) = records (with_entries (time_entry s (record { count = count; civil = parts }) ∷ [])) found old new opens rec (ap (λ (m : Machine). m.files) is) still
does_still s found old (Start name setup) replies.Done new opens fine none does still =
    some_then (AreStillFirst found new.files) old.tick _ does (λ tick is_tick made.
    let g : File = shown_whole (last_size new) (with_entries (time_entry s tick ∷ []) (empty_file s old.files name setup)) in
    stays_same found (old.files ++ g ∷ []) new.files (ap (λ (m : Machine). m.files) made.1) (appended found old.files g still))
does_still s found old (Offer id count message) replies.Done new opens fine none is still = stays_same found old.files new.files (ap (λ (m : Machine). m.files) is) still
does_still s found old (Lose id lost) replies.Done new opens fine none is still = stays_same found old.files new.files (ap (λ (m : Machine). m.files) is) still
does_still s found old (Pump id most) (replies.Moved n) new opens fine none does still =
    let rec = records_of old.mode (rules_parts (recording_checks old.mode) (channel_checks (lane_of id old)) fine).0 in
    some_then (AreStillFirst found new.files) (lane_of id old) _ does (λ lane is_lane pumps.
    some_then (AreStillFirst found new.files) (last_or None old.files) _ pumps (λ f last made.
    records (with_entries (take n (waiting_entries lane))) found old new opens rec (ap (λ (m : Machine). m.files) made.2) still))
does_still s found old (Event number count) replies.Done new opens fine none does still =
    let rec = records_of old.mode (rules_parts (recording_checks old.mode) (event_checks old.last_event number count) fine).0 in
    some_then (AreStillFirst found new.files) (last_or None old.files) _ does (λ f last made.
    records (with_entries (event_entry s number count f ∷ [])) found old new opens rec (ap (λ (m : Machine). m.files) made.1) still)
does_still s found old Commit replies.Done new opens fine none is still = records (shown_whole (last_size new)) found old new opens (records_of old.mode fine) (ap (λ (m : Machine). m.files) is) still
does_still s found old Stop (replies.Stopped stopped) new opens fine none does still =
    some_then (AreStillFirst found new.files) (last_or None old.files) _ does (λ f last made.
    records (λ f. closed_whole (last_size new) (with_entries (take stopped.taken (all_waiting old.lanes)) f)) found old new opens (records_of old.mode fine) (ap (λ (m : Machine). m.files) made.2) still)
does_still s found old Seal replies.Done new opens fine none does still =
    some_then (AreStillFirst found new.files) (last_or None old.files) _ does (λ f last made.
    stays_same found (change_last (closed_in (last_size new)) old.files) new.files (ap (λ (m : Machine). m.files) made.1) (closes (last_size new) found old.files still))
does_still s found old Erase replies.Done new opens fine none does still = absurd (true≢false none)
does_still s found old Files (replies.Files files) new opens fine none (reported, is) still = stays_same found old.files new.files (ap (λ (m : Machine). m.files) is) still
does_still s found old Status (replies.Status status) new opens fine none (reported, is) still = stays_same found old.files new.files (ap (λ (m : Machine). m.files) is) still
does_still s found old (Cursor file channels from to) (replies.Cursor id) new opens fine none (free, sets) still = stays_same found old.files new.files (ap (λ (m : Machine). m.files) sets.1) still
does_still s found old (Advance id) (replies.Advanced n) new opens fine none does still =
    some_then (AreStillFirst found new.files) (cursor_of id old) _ does (λ c is_c moves.
    some_then (AreStillFirst found new.files) (slice_get old.files c.file) _ moves (λ f is_f made. stays_same found old.files new.files (ap (λ (m : Machine). m.files) made.3.1) still))
does_still s found old (Next id) (replies.Next given) new opens fine none does still =
    some_then (AreStillFirst found new.files) (cursor_of id old) _ does (λ c is_c made. stays_same found old.files new.files (ap (λ (m : Machine). m.files) made.1.1) still)
does_still s found old (Close id) replies.Done new opens fine none sets still = stays_same found old.files new.files (ap (λ (m : Machine). m.files) sets.1) still
does_still s found old (Find file id count) (replies.Found answer) new opens fine none (reported, is) still = stays_same found old.files new.files (ap (λ (m : Machine). m.files) is) still
does_still s found old (CountAt file parts) (replies.CountAt answer) new opens fine none (reported, is) still = stays_same found old.files new.files (ap (λ (m : Machine). m.files) is) still
does_still s found old event reply new opens fine none does still = absurd does

-- what erases nothing is no erase, where it is done or the medium fails
no_erase : (event : EventValue) → may_erase (event, replies.Refused refusals.Medium) ≡ false → is_erase event ≡ false
no_erase Erase none = absurd (true≢false none)
no_erase event none = refl

fails_still : (s : Config) (found : List File) (old : Machine) (event : EventValue) (new : Machine) → OpensOwn old → refusal s old event ≡ None → is_erase event ≡ false → FailsIn s old event new → AreStillFirst found old.files → AreStillFirst found new.files
fails_still s found old event new opens fine none fails still = shown_still found fails.end.files new.files fails.files (by fails.either)
  where
    by : (fails.end ≡ old) ⊎ ((reply : ReplyValue) × Does s old event reply fails.end) → AreStillFirst found fails.end.files
    by (inl is) = stays_same found old.files fails.end.files (ap (λ (m : Machine). m.files) is) still
    by (inr (reply, does)) = does_still s found old event reply fails.end opens fine none does still

gives_up_still : (s : Config) (found : List File) (before : ℕ) (old : Machine) (event : EventValue) (r : Refusal) (new : Machine) → OpensOwn old → refusal s old event ≡ None → may_erase (event, replies.Refused r) ≡ false → GivesUp s before old event r new → AreStillFirst found old.files
    → AreStillFirst found new.files
gives_up_still s found before old event refusals.Medium new opens fine none (uses, room, rose, fails) still = fails_still s found old event new opens fine (no_erase event none) fails still
gives_up_still s found before old event refusals.OutOfMemory new opens fine none (asks, room, is) still = stays_same found old.files new.files (ap (λ (m : Machine). m.files) is) still
gives_up_still s found before old event r new opens fine none given still = stays_same found old.files new.files (ap (λ (m : Machine). m.files) given.1) still

done_still : (s : Config) (found : List File) (old : Machine) (event : EventValue) (reply : ReplyValue) (new : Machine) → OpensOwn old → refusal s old event ≡ None → may_erase (event, reply) ≡ false → Does s old event reply new → AreStillFirst found old.files → AreStillFirst found new.files
done_still s found old Erase replies.Done new opens fine none does still = absurd (true≢false none)
done_still s found old Erase reply new opens fine none does still = absurd does
done_still s found old event reply new opens fine none does still = does_still s found old event reply new opens fine refl does still

replies_still : (s : Config) (found : List File) (before : ℕ) (old : Machine) (event : EventValue) (reply : ReplyValue) (new : Machine) → OpensOwn old → may_erase (event, reply) ≡ false → Replies s before old event reply new → AreStillFirst found old.files → AreStillFirst found new.files
replies_still s found before old event (replies.Refused r) new opens none refuses still = by (refusal s old event) refl refuses
  where
    by : (o : Option Refusal) → refusal s old event ≡ o → Refuses o s before old event r new → AreStillFirst found new.files
    by None fine gives = gives_up_still s found before old event r new opens fine none gives still
    by (Some first) is (same, after) = stays_same found old.files new.files (ap (λ (m : Machine). m.files) after ∙ refused_files event old) still
replies_still s found before old event reply new opens none (fine, does) still = done_still s found old event reply new opens fine none does still

step_still : (s : Config) (found : List File) (old : Machine) (event : EventValue) (reply : ReplyValue) (new : Machine) → OpensOwn old → may_erase (event, reply) ≡ false → Step s old event reply new → AreStillFirst found old.files → AreStillFirst found new.files
step_still s found old event reply new opens none (more, replied) still = replies_still s found old.failures (record old { failures = new.failures }) event reply new opens none replied still

-- ---- runs

abbrev StepsStaySound : Type 0
StepsStaySound = (s : Config) (old : Machine) (event : EventValue) (reply : ReplyValue) (new : Machine) → IsConfig s → IsSound s old → Step s old event reply new → IsSound s new

run_still : StepsStaySound → (s : Config) (found : List File) (old : Machine) (events : List EventValue) (rs : List ReplyValue) (images : List Image) (new : Machine) → IsConfig s → IsSound s old → Run s old events rs images new → list_any may_erase (zip events rs) ≡ false
    → AreStillFirst found old.files → AreStillFirst found new.files
run_still law s found old [] [] [] new config sound same none still = stays_same found old.files new.files (ap (λ (m : Machine). m.files) same) still
run_still law s found old (event ∷ events) (reply ∷ rs) (image ∷ images) new config sound (mid, step, says, rest) none still =
    let parts = both (may_erase (event, reply)) (list_any may_erase (zip events rs)) none in
    run_still law s found mid events rs images new config (law s old event reply mid config sound step) rest parts.1
    (step_still s found old event reply mid (λ rec. let t = taping s old sound rec in (t.file, t.last, t.own)) parts.0 step still)
  where
    both : (a b : Bool) → (a || b) ≡ false → (a ≡ false) × (b ≡ false)
    both true b is = absurd (true≢false is)
    both false b is = (refl, is)
run_still law s found old events rs images new config sound same none still = absurd same

found_first : (files : List File) → AllByRecursion IsFoundFile files → AreStillFirst files files
found_first [] all = tt
found_first (f ∷ files) ((shown, own), all) =
    (record { name = refl; setup = refl; first_block = refl; entries = ap (λ (n : ℕ). take n f.entries) shown ∙ take_all (length f.entries) f.entries (omega arith); own = own }, found_first files all)

pub found_stay : StepsStaySound → ((s : Config) (files : List File) (failures : ℕ) → AllByRecursion IsFoundFile files → length files ≤ most_files s → IsSound s (fresh s.channels files failures))
    → (s : Config) (files : List File) (failures : ℕ) (events : List EventValue) (rs : List ReplyValue) (images : List Image) (new : Machine) → IsConfig s → AllByRecursion IsFoundFile files → length files ≤ most_files s
    → Run s (fresh s.channels files failures) events rs images new → list_any may_erase (zip events rs) ≡ false → AreStillFirst files new.files
found_stay law begins s files failures events rs images new config found most run none =
    run_still law s files (fresh s.channels files failures) events rs images new config (begins s files failures found most) run none (found_first files found)
