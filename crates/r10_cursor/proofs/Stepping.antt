-- What each step of the machine keeps of what its files show.
use Rattle.std.proofs.Common.{◌≡◌, ◌≤◌, ◌⊎◌, inl, inr, ℕ, ◌+◌, Bool, true, false, List, [], ◌∷◌, ◌++◌, map, take, length, Option, Some, None, refl, sym, ap, ◌∙◌, subst, arith, slice_get, cond, is_none}
use Rattle.std.specs.Prelude.{◌≢◌, IfSome, eqb}
use Rattle.std.specs.List.{AllByRecursion, last_or}
use Rattle.std.proofs.lemmas.Bool.Decides.{eqb_tells}
use Rattle.std.proofs.lemmas.List.{length-append, take-append-le, take-take}
use Rattle.r10_count.specs.Checks.{first_broken}
use Rattle.r10_body.specs.declared.entry.Entry.{Entry}
use Rattle.r10_body.specs.declared.refusal.Refusal.{Refusal}
use Rattle.r10_body.specs.declared.refusal.Refusal.TheVariants.{Medium, OutOfMemory}
use Rattle.r10_machine.specs.Config.{Config}
use Rattle.r10_machine.specs.Machine.{Machine, File, Cursor as MachineCursor, SetsCursor, cursor_at, cursor_of, lane_of, with_lane, with_entries, change_last, last_size, waiting_entries, shown_entries}
use Rattle.r10_machine.specs.Room.{fits}
use Rattle.r10_machine.specs.Checks.{is_recording, offer_checks}
use Rattle.r10_machine.specs.Calls.{TicksIn, closed_whole, overflowed, shown_whole, all_waiting, time_entry}
use Rattle.r10_machine.specs.SoundParts.{IsSoundCursor}
use Rattle.r10_machine.specs.Needs.{shown_part}
use Rattle.r10_medium.specs.Disk.{Image}
use Rattle.r10_machine.specs.declared.event.Event.{Event as EventValue}
use Rattle.r10_machine.specs.declared.event.Event.TheVariants.{Mount, Dismount, Tick, Start, Offer, Lose, Pump, Event, Commit, Stop, Seal, Erase, Files, Status, Cursor, Advance, Next, Close, Find, CountAt}
use Rattle.r10_machine.specs.declared.reply.Reply.{Reply as ReplyValue}
use Rattle.r10_machine.specs.declared.reply.Reply.TheVariants as replies
use Rattle.r10_machine.specs.ControlCalls.{closed_in, event_entry}
use Rattle.r10_machine.specs.EventChecks.{refusal}
use Rattle.r10_machine.specs.Says.{MediumSays}
use Rattle.r10_machine.specs.Sound.{IsSound}
use Rattle.r10_machine.specs.Step.{Does, FailsIn, GivesUp, Refuses, Replies, Step, after_refusal}
use Rattle.r10_machine.proofs.Grown.{last_of}
use Rattle.r10_cursor.specs.declared.cursor.Cursor.{Cursor as CursorValue}
use Rattle.r10_cursor.specs.Read.{HaveRead, KeepsBytes, ShowsMore, ShowMore}
use Rattle.r10_cursor.specs.Staying.{NoneShrinks}
use Rattle.r10_cursor.specs.RepresentedCursors.{SlotsStandFor}
use Rattle.r10_cursor.proofs.HowFar.{begun_anew, grown, grows, still}
use Rattle.r10_machine.proofs.Keeping.{some_then}
use Rattle.r10_machine.proofs.Steps.{refused_files}

all_still : (files : List File) → ShowMore files files
all_still [] = tt
all_still (f ∷ files) = (still f, all_still files)

same_files : (old new : Machine) → new.files ≡ old.files → ShowMore old.files new.files
same_files old new same = subst (ShowMore old.files) (sym same) (all_still old.files)

same_all : (old new : Machine) → new ≡ old → ShowMore old.files new.files
same_all old new is = same_files old new (ap (λ (m : Machine). m.files) is)

same_but_cursor : (old new : Machine) (id : ℕ) (cursor : Option MachineCursor) → SetsCursor old new id cursor → ShowMore old.files new.files
same_but_cursor old new id cursor (sets, is) = same_files old new (ap (λ (m : Machine). m.files) is)

one_behind : (files : List File) (g : File) → ShowMore files (files ++ g ∷ [])
one_behind [] g = tt
one_behind (f ∷ files) g = (still f, one_behind files g)

last_changed : (change : File → File) (files : List File) (f : File) → last_or None files ≡ Some f → ShowsMore f (change f) → ShowMore files (change_last change files)
last_changed change [] f last more = tt
last_changed change (x ∷ []) f last more = let here : f ≡ x = cc (last) in (subst (λ (g : File). ShowsMore g (change g)) here more, tt)
last_changed change (x ∷ y ∷ ys) f last more = (still x, last_changed change (y ∷ ys) f last more)

-- a machine whose last file was changed
last_file_changed : (old new : Machine) (change : File → File) (f : File) → last_or None old.files ≡ Some f → new.files ≡ change_last change old.files → ShowsMore f (change f) → ShowMore old.files new.files
last_file_changed old new change f last same more = subst (ShowMore old.files) (sym same) (last_changed change old.files f last more)

with_more : (f : File) (es : List Entry) → f.shown ≤ length f.entries → ShowsMore f (with_entries es f)
with_more f es inside = record { first = refl; shown = omega arith; entries = take-append-le f.shown f.entries es inside }

now_shown : (f : File) (size : ℕ) → f.shown ≤ length f.entries → ShowsMore f (shown_whole size f)
now_shown f size inside = record { first = refl; shown = inside; entries = refl }

now_closed : (f : File) (es : List Entry) (size : ℕ) → f.shown ≤ length f.entries → ShowsMore f (closed_whole size (with_entries es f))
now_closed f es size inside = record { first = refl; shown = omega (arith, inside, length-append f.entries es); entries = take-append-le f.shown f.entries es inside }

inside_last : (files : List File) (f : File) → AllByRecursion (λ f. f.shown ≤ length f.entries) files → last_or None files ≡ Some f → f.shown ≤ length f.entries
inside_last files f inside last = last_of (λ f. f.shown ≤ length f.entries) files f last inside

-- where there is no file, a commit changes none
commits_more : (old new : Machine) (size : ℕ) → AllByRecursion (λ f. f.shown ≤ length f.entries) old.files → new.files ≡ change_last (shown_whole size) old.files → ShowMore old.files new.files
commits_more old new size inside same = by (last_or None old.files) refl
  where
    none : (files : List File) → last_or None files ≡ None → change_last (shown_whole size) files ≡ files
    none [] last = refl
    none (x ∷ []) last = cc
    none (x ∷ y ∷ ys) last = ap (λ (l : List File). x ∷ l) (none (y ∷ ys) last)

    by : (o : Option File) → last_or None old.files ≡ o → ShowMore old.files new.files
    by None last = same_files old new (same ∙ none old.files last)
    by (Some f) last = last_file_changed old new (shown_whole size) f last same (now_shown f size (inside_last old.files f inside last))

does_more : (s : Config) (old : Machine) (event : EventValue) (reply : ReplyValue) (new : Machine) → AllByRecursion (λ f. f.shown ≤ length f.entries) old.files → Does s old event reply new → new.generation ≡ old.generation
    → ShowMore old.files new.files
does_more s old Mount replies.Done new inside is again = same_files old new (ap (λ (m : Machine). m.files) is)
does_more s old Dismount replies.Done new inside is again = same_files old new (ap (λ (m : Machine). m.files) is)
does_more s old (Tick count parts) replies.Done new inside does again = by (is_recording old.mode) does
  where
    by : (b : Bool) → TicksIn b s old (record { count = count; civil = parts }) new → ShowMore old.files new.files
    by false is = same_files old new (ap (λ (m : Machine). m.files) is)
    by true (room, is) =
        some_then (ShowMore old.files new.files) (last_or None old.files) (λ f. fits s f (time_entry s (record { count = count; civil = parts })) ≡ true) room (λ f last has.
        let es : List Entry = time_entry s (record { count = count; civil = parts }) ∷ [] in
        last_file_changed old new (with_entries es) f last (ap (λ (m : Machine). m.files) is) (with_more f es (inside_last old.files f inside last)))
does_more s old (Start name setup) replies.Done new inside does again =
    some_then (ShowMore old.files new.files) old.tick _ does (λ tick is_tick made. subst (ShowMore old.files) (sym (ap (λ (m : Machine). m.files) made.1)) (one_behind old.files _))
does_more s old (Offer channel count message) replies.Done new inside is again = same_files old new (ap (λ (m : Machine). m.files) is)
does_more s old (Lose channel lost) replies.Done new inside is again = same_files old new (ap (λ (m : Machine). m.files) is)
does_more s old (Pump channel most) (replies.Moved n) new inside does again =
    some_then (ShowMore old.files new.files) (lane_of channel old) _ does (λ lane is_lane pumps.
    some_then (ShowMore old.files new.files) (last_or None old.files) _ pumps (λ f last made.
    last_file_changed old new (with_entries (take n (waiting_entries lane))) f last (ap (λ (m : Machine). m.files) made.2) (with_more f (take n (waiting_entries lane)) (inside_last old.files f inside last))))
does_more s old (Event number count) replies.Done new inside does again =
    some_then (ShowMore old.files new.files) (last_or None old.files) _ does (λ f last made.
    last_file_changed old new (with_entries (event_entry s number count f ∷ [])) f last (ap (λ (m : Machine). m.files) made.1) (with_more f (event_entry s number count f ∷ []) (inside_last old.files f inside last)))
does_more s old Commit replies.Done new inside is again = commits_more old new (last_size new) inside (ap (λ (m : Machine). m.files) is)
does_more s old Stop (replies.Stopped stopped) new inside does again =
    some_then (ShowMore old.files new.files) (last_or None old.files) _ does (λ f last made.
    let es : List Entry = take stopped.taken (all_waiting old.lanes) in
    last_file_changed old new (λ f. closed_whole (last_size new) (with_entries es f)) f last (ap (λ (m : Machine). m.files) made.2) (now_closed f es (last_size new) (inside_last old.files f inside last)))
does_more s old Seal replies.Done new inside does again =
    some_then (ShowMore old.files new.files) (last_or None old.files) _ does (λ f last made.
    last_file_changed old new (closed_in (last_size new)) f last (ap (λ (m : Machine). m.files) made.1) (record { first = refl; shown = omega arith; entries = refl }))
does_more s old Erase replies.Done new inside is again = let next : new.generation ≡ old.generation + 1 = ap (λ (m : Machine). m.generation) is in absurd (omega (arith, next, again))
does_more s old Files (replies.Files files) new inside (reported, is) again = same_all old new is
does_more s old Status (replies.Status status) new inside (reported, is) again = same_all old new is
does_more s old (Cursor file channels from to) (replies.Cursor id) new inside (free, sets) again = same_but_cursor old new id _ sets
does_more s old (Advance id) (replies.Advanced n) new inside does again =
    some_then (ShowMore old.files new.files) (cursor_of id old) _ does (λ c is_c moves. some_then (ShowMore old.files new.files) (slice_get old.files c.file) _ moves (λ f is_f made. same_but_cursor old new id _ made.3))
does_more s old (Next id) (replies.Next given) new inside does again =
    some_then (ShowMore old.files new.files) (cursor_of id old) _ does (λ c is_c made. same_but_cursor old new id _ made.1)
does_more s old (Close id) replies.Done new inside sets again = same_but_cursor old new id None sets
does_more s old (Find file channel count) (replies.Found answer) new inside (reported, is) again = same_all old new is
does_more s old (CountAt file parts) (replies.CountAt answer) new inside (reported, is) again = same_all old new is
does_more s old event reply new inside does again = absurd does

-- ---- failures

part_more : (f e n : File) → ShowsMore f e → shown_part n ≡ shown_part e → ShowsMore f n
part_more f e n more same =
    let shown : n.shown ≡ e.shown = ap (λ (x : File). x.shown) same in
    let less : f.shown ≤ n.shown = omega (arith, more.shown, shown) in
    let entries : shown_entries n ≡ shown_entries e = ap (λ (x : File). x.entries) same in
    record {
      first = ap (λ (x : File). x.first_block) same ∙ more.first;
      shown = less;
      entries = sym (take-take f.shown n.shown n.entries less) ∙ ap (take f.shown) entries ∙ take-take f.shown e.shown e.entries more.shown ∙ more.entries;
    }

parts_more : (olds ends news : List File) → ShowMore olds ends → map shown_part news ≡ map shown_part ends → ShowMore olds news
parts_more [] ends news more same = tt
parts_more (f ∷ olds) [] news more same = absurd more
parts_more (f ∷ olds) (e ∷ ends) [] more same = cc
parts_more (f ∷ olds) (e ∷ ends) (n ∷ news) more same =
    let here : shown_part n ≡ shown_part e = cc in
    let rest : map shown_part news ≡ map shown_part ends = cc in
    (part_more f e n more.0 here, parts_more olds ends news more.1 rest)

fails_more : (s : Config) (old : Machine) (event : EventValue) (new : Machine) → AllByRecursion (λ f. f.shown ≤ length f.entries) old.files → FailsIn s old event new → new.generation ≡ old.generation → ShowMore old.files new.files
fails_more s old event new inside fails again =
    let end = fails.end in
    let same : end.generation ≡ old.generation = sym (ap (λ (m : Machine). m.generation) fails.rest) ∙ again in
    let more : ShowMore old.files end.files = elim fails.either [ inl is ↦ same_all old end is | inr done ↦ does_more s old event done.0 end inside done.1 same ] in
    parts_more old.files end.files new.files more fails.files

-- ---- steps

gives_up_more : (s : Config) (before : ℕ) (old : Machine) (event : EventValue) (r : Refusal) (new : Machine) → AllByRecursion (λ f. f.shown ≤ length f.entries) old.files → GivesUp s before old event r new
    → new.generation ≡ old.generation → ShowMore old.files new.files
gives_up_more s before old event Medium new inside (uses, room, rose, fails) again = fails_more s old event new inside fails again
gives_up_more s before old event OutOfMemory new inside (asks, room, is) again = same_all old new is
gives_up_more s before old event r new inside given again = same_all old new given.1

replies_more : (s : Config) (before : ℕ) (old : Machine) (event : EventValue) (reply : ReplyValue) (new : Machine) → AllByRecursion (λ f. f.shown ≤ length f.entries) old.files → Replies s before old event reply new
    → new.generation ≡ old.generation → ShowMore old.files new.files
replies_more s before old event (replies.Refused r) new inside refuses again = by (refusal s old event) refuses
  where
    by : (o : Option Refusal) → Refuses o s before old event r new → ShowMore old.files new.files
    by None gives = gives_up_more s before old event r new inside gives again
    by (Some first) (same, after) = same_files old new (ap (λ (m : Machine). m.files) after ∙ refused_files event old)
replies_more s before old event reply new inside (fine, does) again = does_more s old event reply new inside does again

pub step_more : (s : Config) (old : Machine) (event : EventValue) (reply : ReplyValue) (new : Machine) → AllByRecursion (λ f. f.shown ≤ length f.entries) old.files → Step s old event reply new
    → new.generation ≡ old.generation → ShowMore old.files new.files
step_more s old event reply new inside (more, replied) again = replies_more s old.failures (record old { failures = new.failures }) event reply new inside replied again

-- ---- generations

does_later : (s : Config) (old : Machine) (event : EventValue) (reply : ReplyValue) (new : Machine) → Does s old event reply new → old.generation ≤ new.generation
does_later s old Mount replies.Done new is = omega (arith, ap (λ (m : Machine). m.generation) is)
does_later s old Dismount replies.Done new is = omega (arith, ap (λ (m : Machine). m.generation) is)
does_later s old (Tick count parts) replies.Done new does = by (is_recording old.mode) does
  where
    by : (b : Bool) → TicksIn b s old (record { count = count; civil = parts }) new → old.generation ≤ new.generation
    by false is = omega (arith, ap (λ (m : Machine). m.generation) is)
    by true (room, is) = omega (arith, ap (λ (m : Machine). m.generation) is)
does_later s old (Start name setup) replies.Done new does = some_then (old.generation ≤ new.generation) old.tick _ does (λ tick is_tick made. omega (arith, ap (λ (m : Machine). m.generation) made.1))
does_later s old (Offer channel count message) replies.Done new is = omega (arith, ap (λ (m : Machine). m.generation) is)
does_later s old (Lose channel lost) replies.Done new is = omega (arith, ap (λ (m : Machine). m.generation) is)
does_later s old (Pump channel most) (replies.Moved n) new does =
    some_then (old.generation ≤ new.generation) (lane_of channel old) _ does (λ lane is_lane pumps.
    some_then (old.generation ≤ new.generation) (last_or None old.files) _ pumps (λ f last made. omega (arith, ap (λ (m : Machine). m.generation) made.2)))
does_later s old (Event number count) replies.Done new does = some_then (old.generation ≤ new.generation) (last_or None old.files) _ does (λ f last made. omega (arith, ap (λ (m : Machine). m.generation) made.1))
does_later s old Commit replies.Done new is = omega (arith, ap (λ (m : Machine). m.generation) is)
does_later s old Stop (replies.Stopped stopped) new does = some_then (old.generation ≤ new.generation) (last_or None old.files) _ does (λ f last made. omega (arith, ap (λ (m : Machine). m.generation) made.2))
does_later s old Seal replies.Done new does = some_then (old.generation ≤ new.generation) (last_or None old.files) _ does (λ f last made. omega (arith, ap (λ (m : Machine). m.generation) made.1))
does_later s old Erase replies.Done new is = omega (arith, ap (λ (m : Machine). m.generation) is)
does_later s old Files (replies.Files files) new (reported, is) = omega (arith, ap (λ (m : Machine). m.generation) is)
does_later s old Status (replies.Status status) new (reported, is) = omega (arith, ap (λ (m : Machine). m.generation) is)
does_later s old (Cursor file channels from to) (replies.Cursor id) new (free, (sets, is)) = omega (arith, ap (λ (m : Machine). m.generation) is)
does_later s old (Advance id) (replies.Advanced n) new does =
    some_then (old.generation ≤ new.generation) (cursor_of id old) _ does (λ c is_c moves.
    some_then (old.generation ≤ new.generation) (slice_get old.files c.file) _ moves (λ f is_f made. omega (arith, ap (λ (m : Machine). m.generation) made.3.1)))
does_later s old (Next id) (replies.Next given) new does = some_then (old.generation ≤ new.generation) (cursor_of id old) _ does (λ c is_c made. omega (arith, ap (λ (m : Machine). m.generation) made.1.1))
does_later s old (Close id) replies.Done new (sets, is) = omega (arith, ap (λ (m : Machine). m.generation) is)
does_later s old (Find file channel count) (replies.Found answer) new (reported, is) = omega (arith, ap (λ (m : Machine). m.generation) is)
does_later s old (CountAt file parts) (replies.CountAt answer) new (reported, is) = omega (arith, ap (λ (m : Machine). m.generation) is)
does_later s old event reply new does = absurd does

fails_later : (s : Config) (old : Machine) (event : EventValue) (new : Machine) → FailsIn s old event new → old.generation ≤ new.generation
fails_later s old event new fails =
    let end = fails.end in
    let first : old.generation ≤ end.generation = elim fails.either [ inl is ↦ omega (arith, ap (λ (m : Machine). m.generation) is) | inr done ↦ does_later s old event done.0 end done.1 ] in
    omega (arith, first, ap (λ (m : Machine). m.generation) fails.rest)

refused_generation : (event : EventValue) (m : Machine) → (after_refusal event m).generation ≡ m.generation
refused_generation Mount m = refl
refused_generation Dismount m = refl
refused_generation (Tick count parts) m = refl
refused_generation (Start name setup) m = refl
refused_generation (Offer channel count message) m = by (is_none (first_broken (offer_checks (lane_of channel m) count message)))
  where
    by : (b : Bool) → (cond b (with_lane channel overflowed m) m).generation ≡ m.generation
    by true = refl
    by false = refl
refused_generation (Lose channel lost) m = refl
refused_generation (Pump channel most) m = refl
refused_generation (Event number count) m = refl
refused_generation Commit m = refl
refused_generation Stop m = refl
refused_generation Seal m = refl
refused_generation Erase m = refl
refused_generation Files m = refl
refused_generation Status m = refl
refused_generation (Cursor file channels from to) m = refl
refused_generation (Advance id) m = refl
refused_generation (Next id) m = refl
refused_generation (Close id) m = refl
refused_generation (Find file channel count) m = refl
refused_generation (CountAt file parts) m = refl

gives_up_later : (s : Config) (before : ℕ) (old : Machine) (event : EventValue) (r : Refusal) (new : Machine) → GivesUp s before old event r new → old.generation ≤ new.generation
gives_up_later s before old event Medium new (uses, room, rose, fails) = fails_later s old event new fails
gives_up_later s before old event OutOfMemory new (asks, room, is) = omega (arith, ap (λ (m : Machine). m.generation) is)
gives_up_later s before old event r new given = omega (arith, ap (λ (m : Machine). m.generation) given.1)

replies_later : (s : Config) (before : ℕ) (old : Machine) (event : EventValue) (reply : ReplyValue) (new : Machine) → Replies s before old event reply new → old.generation ≤ new.generation
replies_later s before old event (replies.Refused r) new refuses = by (refusal s old event) refuses
  where
    by : (o : Option Refusal) → Refuses o s before old event r new → old.generation ≤ new.generation
    by None gives = gives_up_later s before old event r new gives
    by (Some first) (same, after) = omega (arith, ap (λ (m : Machine). m.generation) after, refused_generation event old)
replies_later s before old event reply new (fine, does) = does_later s old event reply new does

pub step_later : (s : Config) (old : Machine) (event : EventValue) (reply : ReplyValue) (new : Machine) → Step s old event reply new → old.generation ≤ new.generation
step_later s old event reply new (more, replied) = replies_later s old.failures (record old { failures = new.failures }) event reply new replied

-- ---- the cursors of a machine that takes a step of another kind

generations_before : (s : Config) (m : Machine) → IsSound s m → (id : ℕ) → IfSome (cursor_at m.cursors id) (λ c. c.generation ≤ m.generation)
generations_before s m sound id = by (cursor_at m.cursors id) (sound.cursors id)
  where
    by : (o : Option MachineCursor) → IfSome o (IsSoundCursor m) → IfSome o (λ c. c.generation ≤ m.generation)
    by None sound = tt
    by (Some c) sound = sound.0

pub stays : (s : Config) (old new : Image) (m later : Machine) (event : EventValue) (reply : ReplyValue) (slots : List (Option CursorValue)) → IsSound s m → Step s m event reply later → later.cursors ≡ m.cursors → MediumSays s new later.files
    → (later.generation ≡ m.generation → NoneShrinks m.files later.files × KeepsBytes old new m.files) → SlotsStandFor slots m.cursors → HaveRead old m.files m.generation slots m.cursors
    → SlotsStandFor slots later.cursors × HaveRead new later.files later.generation slots later.cursors
stays s old new m later event reply slots sound step same says keeps stand read =
    (subst (SlotsStandFor slots) (sym same) stand, subst (HaveRead new later.files later.generation slots) (sym same) (by (eqb_tells later.generation m.generation)))
  where
    by : ((eqb later.generation m.generation ≡ true) × (later.generation ≡ m.generation)) ⊎ ((eqb later.generation m.generation ≡ false) × (later.generation ≢ m.generation)) → HaveRead new later.files later.generation slots m.cursors
    by (inl (met, again)) =
        let kept = keeps again in
        let more : ShowMore m.files later.files = step_more s m event reply later sound.shown step again in
        subst (λ (g : ℕ). HaveRead new later.files g slots m.cursors) (sym again) (grown s old new m.files later.files m.generation slots m.cursors read (grows old new m.files later.files more kept.0 kept.1) says)
    by (inr (other, differs)) =
        begun_anew new later.files m.generation later.generation slots m.cursors stand (generations_before s m sound)
        (let least : m.generation ≤ later.generation = step_later s m event reply later step in omega (arith, least, differs))
