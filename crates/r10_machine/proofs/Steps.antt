-- A step from a sound state leads to a sound state.
use Rattle.std.proofs.Common.{◌≡◌, ◌≤◌, ◌<◌, inl, inr, ℕ, Bool, true, false, not, cond, List, [], ◌∷◌, map, length, zero, suc, Option, Some, None, refl, sym, ap, ◌∙◌, subst, arith, IsSomeAnd, slice_get, is_none, nat_lt}
use Rattle.std.specs.List.{AllByRecursion}
use Rattle.std.proofs.lemmas.List.{length-map, length-take}
use Rattle.std.proofs.lemmas.Bool.{ltb-true}
use Rattle.r10_count.specs.Checks.{first_broken}
use Rattle.r10_body.specs.declared.refusal.Refusal.{Refusal}
use Rattle.r10_body.specs.declared.refusal.Refusal.TheVariants.{Medium, OutOfMemory, NameTaken, Unsealed, DirectoryFull, CountRange, NoSuchFile}
use Rattle.r10_body.specs.declared.spec.ChannelSpec.{ChannelSpec}
use Rattle.r10_medium.specs.Disk.{Image}
use Rattle.r10_machine.specs.declared.mode.Mode.TheVariants as modes
use Rattle.r10_machine.specs.Config.{Config}
use Rattle.r10_machine.specs.Limits.{IsConfig}
use Rattle.r10_machine.specs.Machine.{Machine, Tick as MachineTick, Lane, File, cursor_of, lane_of, shown_entries, with_lane}
use Rattle.r10_machine.specs.Checks.{mounted_checks, idle_checks, recording_checks, begin_checks, tick_checks, cursor_checks, channel_checks, offer_checks, last_tick, is_taken, is_sealed, in_48_bits}
use Rattle.r10_machine.specs.Calls.{overflowed}
use Rattle.r10_machine.specs.Needs.{shown_part}
use Rattle.r10_machine.specs.SoundParts.{IsSoundLane, IsSoundCursor}
use Rattle.r10_machine.proofs.Steady.{some_each, records_of, idle_works}
use Rattle.r10_machine.proofs.Growing.{dropped_sound}
use Rattle.r10_machine.specs.declared.event.Event.{Event as EventValue}
use Rattle.r10_machine.specs.declared.event.Event.TheVariants.{Mount, Dismount, Tick, Start, Offer, Lose, Pump, Event, Commit, Stop, Seal, Erase, Files, Status, Cursor, Advance, Next, Close, Find, CountAt}
use Rattle.r10_machine.specs.declared.reply.Reply.{Reply as ReplyValue}
use Rattle.r10_machine.specs.declared.reply.Reply.TheVariants as replies
use Rattle.r10_machine.specs.EventChecks.{refusal, start_checks, file_checks, event_checks, seal_checks, erase_checks, most_files}
use Rattle.r10_machine.specs.Step.{Step, Run, Replies, Refuses, GivesUp, Does, FailsIn, LanesAfter, after_refusal}
use Rattle.r10_machine.specs.Sound.{IsSound}
use Rattle.r10_machine.proofs.Going.{sound_with, opens_sound, advances_sound, gives_sound, closes_sound, offers_sound, loses_sound, overflows_sound}
use Rattle.r10_machine.proofs.Turning.{mounts_sound, dismounts_sound, seals_sound, erases_sound}
use Rattle.r10_machine.proofs.Recording.{ticks_sound, marks_sound, commits_sound, pumps_sound, stops_sound, starts_sound}
use Rattle.r10_machine.proofs.Keeping.{Keeps, keeps_same, does_keeps}
use Rattle.r10_count.proofs.Rules.{none_broken, rules_parts}

few_files : (s : Config) (m : Machine) (name setup : List ℕ) → first_broken (start_checks s m name setup) ≡ None → length m.files < most_files s
few_files s m name setup fine =
    let a = rules_parts (begin_checks (elim m.tick [ None ↦ false | Some t ↦ true ]) name setup) (file_checks s m.files name) fine in
    let full = (nat_lt (length m.files) (most_files s), DirectoryFull) ∷ [] in
    let b = none_broken (not (is_taken name m.files)) NameTaken ((is_sealed m.files, Unsealed) ∷ full) a.1 in
    let c = none_broken (is_sealed m.files) Unsealed full b.1 in
    let d = none_broken (nat_lt (length m.files) (most_files s)) DirectoryFull [] c.1 in
    ltb-true (length m.files) (most_files s) d.0

file_there : (files file from to : ℕ) → first_broken (cursor_checks files file from to) ≡ None → file < files
file_there files file from to fine =
    let here = (nat_lt file files, NoSuchFile) ∷ [] in
    let a = none_broken (nat_lt from 281474976710656) CountRange (in_48_bits to ∷ here) fine in
    let b = none_broken (nat_lt to 281474976710656) CountRange here a.1 in
    let c = none_broken (nat_lt file files) NoSuchFile [] b.1 in
    ltb-true file files c.0

-- ---- what a call does

does_sound : (s : Config) (old : Machine) (event : EventValue) (reply : ReplyValue) (new : Machine) → IsConfig s → IsSound s old → refusal s old event ≡ None → Does s old event reply new → IsSound s new
does_sound s old Mount replies.Done new config sound fine is = subst (IsSound s) (sym is) (mounts_sound s old sound fine)
does_sound s old Dismount replies.Done new config sound fine is = subst (IsSound s) (sym is) (dismounts_sound s old sound fine)
does_sound s old (Tick count parts) replies.Done new config sound fine does =
    let tick : MachineTick = record { count = count; civil = parts } in
    ticks_sound s old tick new config sound (rules_parts (mounted_checks old.mode) (tick_checks (last_tick old) count parts) fine).1 does
does_sound s old (Start name setup) replies.Done new config sound fine does =
    let parts = rules_parts (idle_checks old.mode) (start_checks s old name setup) fine in
    starts_sound s old name setup new config sound (idle_works old.mode parts.0) (few_files s old name setup parts.1) does
does_sound s old (Offer channel count message) replies.Done new config sound fine is = subst (IsSound s) (sym is) (offers_sound s old channel count message sound fine)
does_sound s old (Lose channel lost) replies.Done new config sound fine is = subst (IsSound s) (sym is) (loses_sound s old channel lost sound)
does_sound s old (Pump channel most) (replies.Moved n) new config sound fine does =
    pumps_sound s old channel most n new config sound (records_of old.mode (rules_parts (recording_checks old.mode) (channel_checks (lane_of channel old)) fine).0) does
does_sound s old (Event number count) replies.Done new config sound fine does =
    let parts = rules_parts (recording_checks old.mode) (event_checks old.last_event number count) fine in
    marks_sound s old number count new config sound (records_of old.mode parts.0) parts.1 does
does_sound s old Commit replies.Done new config sound fine does = commits_sound s old new sound (records_of old.mode fine) does
does_sound s old Stop (replies.Stopped stopped) new config sound fine does = stops_sound s old stopped new config sound (records_of old.mode fine) does
does_sound s old Seal replies.Done new config sound fine does =
    let parts = rules_parts (idle_checks old.mode) (seal_checks old.files) fine in
    seals_sound s old new sound parts.0 parts.1 does
does_sound s old Erase replies.Done new config sound fine does =
    let parts = rules_parts (idle_checks old.mode) (erase_checks old.generation) fine in
    erases_sound s old new sound parts.0 parts.1 does
does_sound s old Files (replies.Files files) new config sound fine (reported, is) = subst (IsSound s) (sym is) sound
does_sound s old Status (replies.Status status) new config sound fine (reported, is) = subst (IsSound s) (sym is) sound
does_sound s old (Cursor file channels from to) (replies.Cursor id) new config sound fine does =
    opens_sound s old file channels from to id new sound (file_there (length old.files) file from to (rules_parts (mounted_checks old.mode) (cursor_checks (length old.files) file from to) fine).1) does
does_sound s old (Advance id) (replies.Advanced n) new config sound fine does = advances_sound s old id n new sound does
does_sound s old (Next id) (replies.Next given) new config sound fine does = gives_sound s old id given new sound does
does_sound s old (Close id) replies.Done new config sound fine does = closes_sound s old id new sound does
does_sound s old (Find file channel count) (replies.Found answer) new config sound fine (reported, is) = subst (IsSound s) (sym is) sound
does_sound s old (CountAt file parts) (replies.CountAt answer) new config sound fine (reported, is) = subst (IsSound s) (sym is) sound
does_sound s old event reply new config sound fine does = absurd does

-- ---- refusals

refusal_sound : (s : Config) (event : EventValue) (old : Machine) → IsSound s old → IsSound s (after_refusal event old)
refusal_sound s (Offer channel count message) old sound = by (is_none (first_broken (offer_checks (lane_of channel old) count message)))
  where
    by : (b : Bool) → IsSound s (cond b (with_lane channel overflowed old) old)
    by true = overflows_sound s old channel sound
    by false = sound
refusal_sound s event old sound = sound

-- what is refused leaves the files
pub refused_files : (event : EventValue) (m : Machine) → (after_refusal event m).files ≡ m.files
refused_files (Offer channel count message) m = by (is_none (first_broken (offer_checks (lane_of channel m) count message)))
  where
    by : (b : Bool) → (cond b (with_lane channel overflowed m) m).files ≡ m.files
    by true = refl
    by false = refl
refused_files event m = refl

-- ---- failures of the medium

lost_specs : (event : EventValue) (olds ends news : List Lane) → LanesAfter event olds ends news → map (λ lane. lane.spec) news ≡ map (λ lane. lane.spec) olds
lost_specs event [] [] [] after = refl
lost_specs event (old ∷ olds) (end ∷ ends) (new ∷ news) ((n, most, is), after) =
    let here : new.spec ≡ old.spec = ap (λ (l : Lane). l.spec) is in
    let rest : map (λ lane. lane.spec) news ≡ map (λ lane. lane.spec) olds = lost_specs event olds ends news after in
    ap (λ (c : ChannelSpec). c ∷ map (λ lane. lane.spec) news) here ∙ ap (λ (l : List ChannelSpec). old.spec ∷ l) rest
lost_specs event olds ends news after = absurd after

lost_sound : (event : EventValue) (olds ends news : List Lane) → LanesAfter event olds ends news → AllByRecursion IsSoundLane olds → AllByRecursion IsSoundLane news
lost_sound event [] [] [] after all = tt
lost_sound event (old ∷ olds) (end ∷ ends) (new ∷ news) ((n, most, is), after) (here, all) =
    let less = dropped_sound n old here in
    (subst IsSoundLane (sym is) (record { held = less.held; messages = less.messages; counts = less.counts; gaps = less.gaps; missed = less.missed }), lost_sound event olds ends news after all)
lost_sound event olds ends news after all = absurd after

-- files that show the same
pub same_heads : (new end : File) (news ends : List File) → map shown_part (new ∷ news) ≡ map shown_part (end ∷ ends) → (shown_part new ≡ shown_part end) × (map shown_part news ≡ map shown_part ends)
same_heads new end news ends same = (cc, cc)

parts_shown : (news ends : List File) → map shown_part news ≡ map shown_part ends → AllByRecursion (λ f. f.shown ≤ length f.entries) ends → AllByRecursion (λ f. f.shown ≤ length f.entries) news
parts_shown [] ends same all = tt
parts_shown (new ∷ news) [] same all = cc
parts_shown (new ∷ news) (end ∷ ends) same (here, all) =
    let parts = same_heads new end news ends same in
    let shown : new.shown ≡ end.shown = ap (λ (f : File). f.shown) parts.0 in
    let long : length (shown_entries new) ≡ length (shown_entries end) = ap (λ (f : File). length f.entries) parts.0 in
    (omega (arith, shown, long, here, length-take new.shown new.entries, length-take end.shown end.entries), parts_shown news ends parts.1 all)

parts_there : (news ends : List File) → map shown_part news ≡ map shown_part ends → (i n : ℕ) → IsSomeAnd (slice_get ends i) (λ f. n ≤ f.shown) → IsSomeAnd (slice_get news i) (λ f. n ≤ f.shown)
parts_there [] [] same i n there = there
parts_there [] (end ∷ ends) same i n there = cc
parts_there (new ∷ news) [] same i n there = cc
parts_there (new ∷ news) (end ∷ ends) same zero n there =
    let parts = same_heads new end news ends same in
    let shown : new.shown ≡ end.shown = ap (λ (f : File). f.shown) parts.0 in
    omega (arith, shown, there)
parts_there (new ∷ news) (end ∷ ends) same (suc i) n there = parts_there news ends (same_heads new end news ends same).1 i n there

fails_sound : (s : Config) (old : Machine) (event : EventValue) (new : Machine) → IsConfig s → IsSound s old → refusal s old event ≡ None → FailsIn s old event new → IsSound s new
fails_sound s old event new config sound fine fails =
    let end = fails.end in
    let ends : IsSound s end = elim fails.either [ inl is ↦ subst (IsSound s) (sym is) sound | inr done ↦ does_sound s old event done.0 end config sound fine done.1 ] in
    let keeps : Keeps old end = elim fails.either [ inl is ↦ keeps_same old end is | inr done ↦ does_keeps s old event done.0 end sound done.1 ] in
    subst (IsSound s) (sym fails.rest) (record {
      channels = lost_specs event old.lanes end.lanes new.lanes fails.lanes ∙ sound.channels;
      lanes = lost_sound event old.lanes end.lanes new.lanes fails.lanes sound.lanes;
      tick = ends.tick;
      event = ends.event;
      most = omega (arith, ends.most, sym (length-map new.files shown_part) ∙ ap length fails.files ∙ length-map end.files shown_part);
      shown = parts_shown new.files end.files fails.files ends.shown;
      generation = ends.generation;
      cursors = λ id. some_each (IsSoundCursor old) (IsSoundCursor (record end { mode = modes.Failed; lanes = new.lanes; files = new.files; cursors = old.cursors }))
          (λ c before. (
            omega (arith, before.0, keeps.generation),
            λ same.
                let again : end.generation ≡ old.generation = omega (arith, before.0, keeps.generation, same) in
                parts_there new.files end.files fails.files c.file c.covered (keeps.files again c.file c.covered (before.1 (same ∙ again))),
          ))
          (cursor_of id old) (sound.cursors id);
      work = tt;
    })

-- ---- steps

gives_up_sound : (s : Config) (before : ℕ) (old : Machine) (event : EventValue) (r : Refusal) (new : Machine) → IsConfig s → IsSound s old → refusal s old event ≡ None → GivesUp s before old event r new → IsSound s new
gives_up_sound s before old event Medium new config sound fine (uses, room, rose, fails) = fails_sound s old event new config sound fine fails
gives_up_sound s before old event OutOfMemory new config sound fine (asks, room, is) = subst (IsSound s) (sym is) sound
gives_up_sound s before old event r new config sound fine given = subst (IsSound s) (sym given.1) sound

replies_sound : (s : Config) (before : ℕ) (old : Machine) (event : EventValue) (reply : ReplyValue) (new : Machine) → IsConfig s → IsSound s old → Replies s before old event reply new → IsSound s new
replies_sound s before old event (replies.Refused r) new config sound refuses = by (refusal s old event) refl refuses
  where
    by : (o : Option Refusal) → refusal s old event ≡ o → Refuses o s before old event r new → IsSound s new
    by None fine gives = gives_up_sound s before old event r new config sound fine gives
    by (Some first) is (same, after) = subst (IsSound s) (sym after) (refusal_sound s event old sound)
replies_sound s before old event reply new config sound (fine, does) = does_sound s old event reply new config sound fine does

pub step_sound : (s : Config) (old : Machine) (event : EventValue) (reply : ReplyValue) (new : Machine) → IsConfig s → IsSound s old → Step s old event reply new → IsSound s new
step_sound s old event reply new config sound (more, replied) =
    replies_sound s old.failures (record old { failures = new.failures }) event reply new config (sound_with s old old.cursors new.failures sound sound.cursors) replied

pub run_sound : (s : Config) (old : Machine) (events : List EventValue) (rs : List ReplyValue) (images : List Image) (new : Machine) → IsConfig s → IsSound s old → Run s old events rs images new → IsSound s new
run_sound s old [] [] [] new config sound is = subst (IsSound s) (sym is) sound
run_sound s old (e ∷ events) (r ∷ rs) (i ∷ images) new config sound (mid, step, says, rest) = run_sound s mid events rs images new config (step_sound s old e r mid config sound step) rest
run_sound s old events rs images new config sound is = absurd is
