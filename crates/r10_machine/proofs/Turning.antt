-- Mounts, dismounts, seals and erases keep a recorder sound.
use Rattle.std.proofs.Common.{◌≡◌, ◌≤◌, ◌<◌, ℕ, ◌+◌, ◌-◌, ◌^◌, Bool, true, false, not, ◌&&◌, List, [], ◌∷◌, ◌++◌, map, length, Option, Some, None, refl, sym, ap, ◌∙◌, subst, arith, IsSomeAnd, true≢false, nat_lt}
use Rattle.std.specs.List.{AllByRecursion, last_or}
use Rattle.std.proofs.lemmas.Bool.{ltb-true, not-true}
use Rattle.r10_count.specs.Checks.{first_broken}
use Rattle.r10_body.specs.declared.spec.ChannelSpec.{ChannelSpec}
use Rattle.r10_body.specs.declared.refusal.Refusal.TheVariants.{Stale, NoSuchFile}
use Rattle.r10_machine.specs.declared.mode.Mode.{Mode}
use Rattle.r10_machine.specs.declared.mode.Mode.TheVariants as modes
use Rattle.r10_machine.specs.Config.{Config}
use Rattle.r10_machine.specs.Machine.{Machine, Lane, File, cursor_of, change_last, last_size}
use Rattle.r10_machine.specs.Room.{cost_of, area}
use Rattle.r10_machine.specs.Checks.{is_recording, is_working, is_sealed, unmounted_checks, idle_checks}
use Rattle.r10_machine.specs.SoundParts.{IsSoundLane, IsSoundCursor, LaneClimbs, Climbs, is_open, own_files, counts_on, count_or_0}
use Rattle.r10_machine.proofs.Steady.{some_each, last_shows}
use Rattle.r10_machine.specs.EventChecks.{erase_checks, seal_checks}
use Rattle.r10_machine.specs.ControlCalls.{Seals, Erases, closed_in, erased_with}
use Rattle.r10_machine.specs.Sound.{IsSound, IsOwnFile, IsOthersFile}
use Rattle.r10_machine.proofs.LastFiles.{others_change, counts_same, climb_same, last_each, last_length, last_last, shown_files}
use Rattle.r10_machine.proofs.Grown.{work_is, work_of, turns_sound, last_of}
use Rattle.r10_count.proofs.Rules.{none_broken}

-- ---- mounts

-- what the checks say of the mode
record Resting (mode : Mode) : Type 0 where
  works : is_working mode ≡ true
  rests : is_recording mode ≡ false

unmounted : (mode : Mode) → first_broken (unmounted_checks mode) ≡ None → Resting mode
unmounted modes.Failed fine = cc
unmounted modes.Unmounted fine = record { works = refl; rests = refl }
unmounted modes.Idle fine = cc
unmounted modes.Recording fine = cc

idle : (mode : Mode) → first_broken (idle_checks mode) ≡ None → Resting mode
idle modes.Failed fine = cc
idle modes.Unmounted fine = cc
idle modes.Idle fine = record { works = refl; rests = refl }
idle modes.Recording fine = cc

pub mounts_sound : (s : Config) (m : Machine) → IsSound s m → first_broken (unmounted_checks m.mode) ≡ None → IsSound s (record m { mode = modes.Idle })
mounts_sound s m sound fine = let r = unmounted m.mode fine in turns_sound s m modes.Idle sound r.works (sym r.rests)

pub dismounts_sound : (s : Config) (m : Machine) → IsSound s m → first_broken (idle_checks m.mode) ≡ None → IsSound s (record m { mode = modes.Unmounted })
dismounts_sound s m sound fine = let r = idle m.mode fine in turns_sound s m modes.Unmounted sound r.works (sym r.rests)

-- ---- seals

-- a file that isn't its own may be closed
close_others : (s : Config) (m : Machine) (f : File) (size : ℕ) → IsSound s m → Resting m.mode → last_or None m.files ≡ Some f → f.own ≡ false → IsSound s (record m { files = change_last (closed_in size) m.files })
close_others s m f size sound r last foreign =
    let work = work_of m.mode s m r.works sound.work in
    let new : Machine = record m { files = change_last (closed_in size) m.files } in
    let same : own_files new.files ≡ own_files m.files = others_change (closed_in size) (λ f. refl) m.files f last foreign in
    record {
      channels = sound.channels;
      lanes = sound.lanes;
      tick = sound.tick;
      event = sound.event;
      most = omega (arith, sound.most, last_length (closed_in size) m.files);
      shown = shown_files (closed_in size) m.files f last sound.shown (last_of (λ f. f.shown ≤ length f.entries) m.files f last sound.shown);
      generation = sound.generation;
      cursors = λ id. some_each (IsSoundCursor m) (IsSoundCursor new)
          (λ c before. (before.0, λ same. last_shows (closed_in size) m.files f last (omega arith) c.file c.covered (before.1 same))) (cursor_of id m) (sound.cursors id);
      work = work_is m.mode s new (record {
        recording = r.rests ∙ sym (ap (λ (o : Option File). elim o as (λ o. Bool) [ None ↦ false | Some f ↦ is_open f ]) (last_last (closed_in size) m.files f last) ∙ never f.own);
        own = subst (AllByRecursion (IsOwnFile s)) (sym same) work.own;
        others = last_each IsOthersFile (closed_in size) m.files f last work.others (λ before. before);
        lanes = climb_same m.files new.files same m.lanes work.lanes;
        times = subst (λ (l : List ℕ). Climbs 0 l (count_or_0 (elim m.tick as (λ o. Option ℕ) [ None ↦ None | Some tick ↦ Some tick.count ]))) (sym (counts_same s.time m.files new.files same)) work.times;
        events = subst (λ (l : List ℕ). Climbs 0 l (count_or_0 m.last_event)) (sym (counts_same s.event m.files new.files same)) work.events;
      });
    }
  where
    never : (b : Bool) → (b && false) ≡ false
    never true = refl
    never false = refl

-- the last file of a recorder that rests is closed or another's
foreign_is : (a b : Bool) → (a && not b) ≡ false → b ≡ false → a ≡ false
foreign_is false b closed unclosed = refl
foreign_is true false closed unclosed = absurd (true≢false closed)
foreign_is true true closed unclosed = absurd (true≢false unclosed)

pub seals_sound : (s : Config) (m new : Machine) → IsSound s m → first_broken (idle_checks m.mode) ≡ None → first_broken (seal_checks m.files) ≡ None → Seals s m new → IsSound s new
seals_sound s m new sound fine unsealed seals =
    let r = idle m.mode fine in
    let work = work_of m.mode s m r.works sound.work in
    let a = none_broken (not (is_sealed m.files)) NoSuchFile [] unsealed in
    by r (last_or None m.files) refl (sym work.recording ∙ r.rests) (not-true (is_sealed m.files) a.0) seals
  where
    by : Resting m.mode → (o : Option File) → last_or None m.files ≡ o → elim o as (λ o. Bool) [ None ↦ false | Some f ↦ is_open f ] ≡ false → elim o as (λ o. Bool) [ None ↦ true | Some f ↦ f.closed ] ≡ false
        → IsSomeAnd o (λ f. (cost_of f ≤ area s f) × (new ≡ record m { files = change_last (closed_in (last_size new)) m.files })) → IsSound s new
    by r None last closed unclosed seals = absurd seals
    by r (Some f) last closed unclosed (room, is) =
        subst (IsSound s) (sym is) (close_others s m f (last_size new) sound r last (foreign_is f.own f.closed closed unclosed))

-- ---- erases

-- what waits climbs on without the files
climbs_from : (low : ℕ) (ys : List ℕ) (high : ℕ) → Climbs low ys high → Climbs 0 ys high
climbs_from low [] high climbs = omega arith
climbs_from low (y ∷ ys) high (first, climbs) = (omega arith, climbs)

climbs_last : (low : ℕ) (xs ys : List ℕ) (high : ℕ) → Climbs low (xs ++ ys) high → Climbs 0 ys high
climbs_last low [] ys high climbs = climbs_from low ys high climbs
climbs_last low (x ∷ xs) ys high (first, climbs) = climbs_last x xs ys high climbs

erased_specs : (files : List File) (lanes : List Lane) → map (λ lane. lane.spec) (map (erased_with files) lanes) ≡ map (λ lane. lane.spec) lanes
erased_specs files [] = refl
erased_specs files (lane ∷ lanes) = ap (λ (l : List ChannelSpec). lane.spec ∷ l) (erased_specs files lanes)

erased_sound : (files : List File) (lanes : List Lane) → AllByRecursion IsSoundLane lanes → AllByRecursion IsSoundLane (map (erased_with files) lanes)
erased_sound files [] all = tt
erased_sound files (lane ∷ lanes) (here, all) = (record { held = here.held; messages = here.messages; counts = here.counts; gaps = here.gaps; missed = here.missed }, erased_sound files lanes all)

erased_climb : (files : List File) (lanes : List Lane) → AllByRecursion (LaneClimbs files) lanes → AllByRecursion (LaneClimbs []) (map (erased_with files) lanes)
erased_climb files [] all = tt
erased_climb files (lane ∷ lanes) (here, all) =
    (climbs_last 0 (counts_on lane.spec.id files) (map (λ x. x.count) lane.waiting) (count_or_0 lane.last) here, erased_climb files lanes all)

-- there is a number after it
next_below : (n most : ℕ) → n < most - 1 → n + 1 < most
next_below n most below = omega (arith, below)

pub erases_sound : (s : Config) (m new : Machine) → IsSound s m → first_broken (idle_checks m.mode) ≡ None → first_broken (erase_checks m.generation) ≡ None → Erases m new → IsSound s new
erases_sound s m new sound fine next is =
    let r = idle m.mode fine in
    let work = work_of m.mode s m r.works sound.work in
    let a = none_broken (nat_lt m.generation (2 ^ 64 - 1)) Stale [] next in
    let empty : Machine = record m { files = []; generation = m.generation + 1; lanes = map (erased_with m.files) m.lanes } in
    subst (IsSound s) (sym is) (record {
      channels = erased_specs m.files m.lanes ∙ sound.channels;
      lanes = erased_sound m.files m.lanes sound.lanes;
      tick = sound.tick;
      event = sound.event;
      most = omega arith;
      shown = tt;
      generation = next_below m.generation (2 ^ 64) (ltb-true m.generation (2 ^ 64 - 1) a.0);
      cursors = λ id. some_each (IsSoundCursor m) (IsSoundCursor empty) (λ c before. (omega (arith, before.0), λ same. absurd (omega (arith, before.0, same)))) (cursor_of id m) (sound.cursors id);
      work = work_is m.mode s empty (record { recording = r.rests; own = tt; others = tt; lanes = erased_climb m.files m.lanes work.lanes; times = omega arith; events = omega arith });
    })
