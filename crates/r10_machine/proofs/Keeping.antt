-- What each call keeps of the files and the generation.
use Rattle.std.proofs.Common.{◌≡◌, ◌≤◌, ℕ, ◌+◌, Bool, true, false, List, [], ◌∷◌, take, length, Option, Some, None, refl, sym, ap, ◌∙◌, subst, arith, IsSomeAnd, slice_get}
use Rattle.std.specs.List.{AllByRecursion, last_or}
use Rattle.std.proofs.lemmas.List.{length-append}
use Rattle.r10_machine.specs.Config.{Config}
use Rattle.r10_machine.specs.Machine.{Machine, File, Cursor as MachineCursor, SetsCursor, cursor_of, lane_of, with_entries, change_last, last_size, waiting_entries}
use Rattle.r10_machine.specs.Room.{fits}
use Rattle.r10_machine.specs.Checks.{is_recording}
use Rattle.r10_machine.specs.Calls.{TicksIn, closed_whole, shown_whole, all_waiting, time_entry}
use Rattle.r10_machine.proofs.Steady.{last_shows}
use Rattle.r10_machine.proofs.Growing.{append_there}
use Rattle.r10_machine.specs.declared.event.Event.{Event as EventValue}
use Rattle.r10_machine.specs.declared.event.Event.TheVariants.{Mount, Dismount, Tick, Start, Offer, Lose, Pump, Event, Commit, Stop, Seal, Erase, Files, Status, Cursor, Advance, Next, Close, Find, CountAt}
use Rattle.r10_machine.specs.declared.reply.Reply.{Reply as ReplyValue}
use Rattle.r10_machine.specs.declared.reply.Reply.TheVariants as replies
use Rattle.r10_machine.specs.ControlCalls.{closed_in, event_entry}
use Rattle.r10_machine.specs.Step.{Does}
use Rattle.r10_machine.specs.Sound.{IsSound}
use Rattle.r10_machine.proofs.Grown.{last_of}

-- a call doesn't go back to an earlier generation, and in the same one no file shows less
pub record Keeps (old new : Machine) : Type 0 where
  pub generation : old.generation ≤ new.generation
  pub files : new.generation ≡ old.generation → (i n : ℕ) → IsSomeAnd (slice_get old.files i) (λ f. n ≤ f.shown) → IsSomeAnd (slice_get new.files i) (λ f. n ≤ f.shown)

pub keeps_all : (old new : Machine) → new.generation ≡ old.generation → new.files ≡ old.files → Keeps old new
keeps_all old new generation same = record {
  generation = omega (arith, generation);
  files = λ again i n there. subst (λ (files : List File). IsSomeAnd (slice_get files i) (λ f. n ≤ f.shown)) (sym same) there;
}

pub keeps_same : (old new : Machine) → new ≡ old → Keeps old new
keeps_same old new is = keeps_all old new (ap (λ (m : Machine). m.generation) is) (ap (λ (m : Machine). m.files) is)

keeps_cursor : (old new : Machine) (id : ℕ) (cursor : Option MachineCursor) → SetsCursor old new id cursor → Keeps old new
keeps_cursor old new id cursor (sets, is) = keeps_all old new (ap (λ (m : Machine). m.generation) is) (ap (λ (m : Machine). m.files) is)

keeps_last : (old new : Machine) (change : File → File) (f : File) → last_or None old.files ≡ Some f → f.shown ≤ (change f).shown → new.generation ≡ old.generation → new.files ≡ change_last change old.files → Keeps old new
keeps_last old new change f last more generation same = record {
  generation = omega (arith, generation);
  files = λ again i n there. subst (λ (files : List File). IsSomeAnd (slice_get files i) (λ f. n ≤ f.shown)) (sym same) (last_shows change old.files f last more i n there);
}

pub some_then : {A : Type 0} (C : Type 0) (o : Option A) (P : A → Type 0) → IsSomeAnd o P → ((x : A) → o ≡ Some x → P x → C) → C
some_then C None P holds then = absurd holds
some_then C (Some x) P holds then = then x refl holds

shown_in : (s : Config) (old : Machine) (f : File) → IsSound s old → last_or None old.files ≡ Some f → f.shown ≤ length f.entries
shown_in s old f sound last = last_of (λ f. f.shown ≤ length f.entries) old.files f last sound.shown

-- where there is no file, a commit changes none
commits_keep : (old new : Machine) (size : ℕ) → AllByRecursion (λ f. f.shown ≤ length f.entries) old.files → new ≡ record old { files = change_last (shown_whole size) old.files } → Keeps old new
commits_keep old new size shown is = by (last_or None old.files) refl
  where
    none : (files : List File) → last_or None files ≡ None → change_last (shown_whole size) files ≡ files
    none [] last = refl
    none (x ∷ []) last = cc
    none (x ∷ y ∷ ys) last = ap (λ (l : List File). x ∷ l) (none (y ∷ ys) last)

    by : (o : Option File) → last_or None old.files ≡ o → Keeps old new
    by None last = keeps_all old new (ap (λ (m : Machine). m.generation) is) (ap (λ (m : Machine). m.files) is ∙ none old.files last)
    by (Some f) last = keeps_last old new (shown_whole size) f last (last_of (λ f. f.shown ≤ length f.entries) old.files f last shown) (ap (λ (m : Machine). m.generation) is) (ap (λ (m : Machine). m.files) is)

pub does_keeps : (s : Config) (old : Machine) (event : EventValue) (reply : ReplyValue) (new : Machine) → IsSound s old → Does s old event reply new → Keeps old new
does_keeps s old Mount replies.Done new sound is = keeps_all old new (ap (λ (m : Machine). m.generation) is) (ap (λ (m : Machine). m.files) is)
does_keeps s old Dismount replies.Done new sound is = keeps_all old new (ap (λ (m : Machine). m.generation) is) (ap (λ (m : Machine). m.files) is)
does_keeps s old (Tick count parts) replies.Done new sound does = by (is_recording old.mode) does
  where
    by : (b : Bool) → TicksIn b s old (record { count = count; civil = parts }) new → Keeps old new
    by false is = keeps_all old new (ap (λ (m : Machine). m.generation) is) (ap (λ (m : Machine). m.files) is)
    by true (room, is) =
        some_then (Keeps old new) (last_or None old.files) (λ f. fits s f (time_entry s (record { count = count; civil = parts })) ≡ true) room (λ f last has.
        keeps_last old new (with_entries (time_entry s (record { count = count; civil = parts }) ∷ [])) f last (omega arith) (ap (λ (m : Machine). m.generation) is) (ap (λ (m : Machine). m.files) is))
does_keeps s old (Start name setup) replies.Done new sound does =
    some_then (Keeps old new) old.tick _ does (λ tick is_tick made. record {
      generation = omega (arith, ap (λ (m : Machine). m.generation) made.1);
      files = λ again i n there. subst (λ (files : List File). IsSomeAnd (slice_get files i) (λ f. n ≤ f.shown)) (sym (ap (λ (m : Machine). m.files) made.1)) (append_there (λ f. n ≤ f.shown) old.files _ i there);
    })
does_keeps s old (Offer channel count message) replies.Done new sound is = keeps_all old new (ap (λ (m : Machine). m.generation) is) (ap (λ (m : Machine). m.files) is)
does_keeps s old (Lose channel lost) replies.Done new sound is = keeps_all old new (ap (λ (m : Machine). m.generation) is) (ap (λ (m : Machine). m.files) is)
does_keeps s old (Pump channel most) (replies.Moved n) new sound does =
    some_then (Keeps old new) (lane_of channel old) _ does (λ lane is_lane pumps.
    some_then (Keeps old new) (last_or None old.files) _ pumps (λ f last made.
    keeps_last old new (with_entries (take n (waiting_entries lane))) f last (omega arith) (ap (λ (m : Machine). m.generation) made.2) (ap (λ (m : Machine). m.files) made.2)))
does_keeps s old (Event number count) replies.Done new sound does =
    some_then (Keeps old new) (last_or None old.files) _ does (λ f last made.
    keeps_last old new (with_entries (event_entry s number count f ∷ [])) f last (omega arith) (ap (λ (m : Machine). m.generation) made.1) (ap (λ (m : Machine). m.files) made.1))
does_keeps s old Commit replies.Done new sound is = commits_keep old new (last_size new) sound.shown is
does_keeps s old Stop (replies.Stopped stopped) new sound does =
    some_then (Keeps old new) (last_or None old.files) _ does (λ f last made.
    keeps_last old new (λ f. closed_whole (last_size new) (with_entries (take stopped.taken (all_waiting old.lanes)) f)) f last
    (omega (arith, shown_in s old f sound last, length-append f.entries (take stopped.taken (all_waiting old.lanes))))
    (ap (λ (m : Machine). m.generation) made.2) (ap (λ (m : Machine). m.files) made.2))
does_keeps s old Seal replies.Done new sound does =
    some_then (Keeps old new) (last_or None old.files) _ does (λ f last made.
    keeps_last old new (closed_in (last_size new)) f last (omega arith) (ap (λ (m : Machine). m.generation) made.1) (ap (λ (m : Machine). m.files) made.1))
does_keeps s old Erase replies.Done new sound is =
    let next : new.generation ≡ old.generation + 1 = ap (λ (m : Machine). m.generation) is in
    record { generation = omega (arith, next); files = λ again i n there. absurd (omega (arith, next, again)) }
does_keeps s old Files (replies.Files files) new sound (reported, is) = keeps_same old new is
does_keeps s old Status (replies.Status status) new sound (reported, is) = keeps_same old new is
does_keeps s old (Cursor file channels from to) (replies.Cursor id) new sound (free, sets) = keeps_cursor old new id _ sets
does_keeps s old (Advance id) (replies.Advanced n) new sound does =
    some_then (Keeps old new) (cursor_of id old) _ does (λ c is_c moves. some_then (Keeps old new) (slice_get old.files c.file) _ moves (λ f is_f made. keeps_cursor old new id _ made.3))
does_keeps s old (Next id) (replies.Next given) new sound does =
    some_then (Keeps old new) (cursor_of id old) _ does (λ c is_c made. keeps_cursor old new id _ made.1)
does_keeps s old (Close id) replies.Done new sound sets = keeps_cursor old new id None sets
does_keeps s old (Find file channel count) (replies.Found answer) new sound (reported, is) = keeps_same old new is
does_keeps s old (CountAt file parts) (replies.CountAt answer) new sound (reported, is) = keeps_same old new is
does_keeps s old event reply new sound does = absurd does
