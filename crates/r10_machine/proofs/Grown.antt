-- A recording that takes in entries stays sound, and so does a state of which little changes.
use Rattle.std.proofs.Common.{◌≡◌, ◌≤◌, ℕ, Bool, true, false, not, ◌&&◌, List, [], ◌∷◌, ◌++◌, map, length, Option, Some, None, refl, sym, ap, ◌∙◌, subst, arith, IfSome, true≢false, cond}
use Rattle.std.specs.List.{AllByRecursion, last_or}
use Rattle.std.proofs.lemmas.Bool.{and_parts, not-true}
use Rattle.r10_count.specs.Count.{IsCount}
use Rattle.r10_count.specs.Civil.{IsCivil}
use Rattle.r10_body.specs.Files.{on_channel}
use Rattle.r10_body.specs.declared.entry.Entry.{Entry}
use Rattle.r10_machine.specs.declared.mode.Mode.{Mode}
use Rattle.r10_machine.specs.declared.mode.Mode.TheVariants as modes
use Rattle.r10_machine.specs.Config.{Config}
use Rattle.r10_machine.specs.Machine.{Machine, Tick, Lane, File, cursor_of, change_last}
use Rattle.r10_machine.specs.Checks.{is_recording, is_working}
use Rattle.r10_machine.specs.SoundParts.{IsSoundLane, IsSoundCursor, Climbs, is_open, has_open, own_files, counts_on, count_or_0}
use Rattle.r10_machine.proofs.Climbing.{entry_counts}
use Rattle.r10_machine.proofs.Steady.{some_each, last_shows}
use Rattle.r10_machine.proofs.Growing.{ClimbsWith, each_climb}
use Rattle.r10_machine.specs.Sound.{IsSound, IsSoundWork, SoundWork, IsOwnFile, IsOthersFile}
use Rattle.r10_machine.proofs.LastFiles.{last_counts, last_own, last_each, last_length, last_last, shown_files}
use Rattle.std.proofs.lemmas.Option.{same_Some}

-- ---- modes

pub work_is : (mode : Mode) (s : Config) (m : Machine) → IsSoundWork s m → SoundWork mode s m
work_is modes.Failed s m work = tt
work_is modes.Unmounted s m work = work
work_is modes.Idle s m work = work
work_is modes.Recording s m work = work

pub work_of : (mode : Mode) (s : Config) (m : Machine) → is_working mode ≡ true → SoundWork mode s m → IsSoundWork s m
work_of modes.Failed s m fine work = cc
work_of modes.Unmounted s m fine work = work
work_of modes.Idle s m fine work = work
work_of modes.Recording s m fine work = work

-- what the work becomes where there is any
pub work_moved : (mode : Mode) (s : Config) (m new : Machine) → SoundWork mode s m → (IsSoundWork s m → IsSoundWork s new) → SoundWork mode s new
work_moved modes.Failed s m new work then = tt
work_moved modes.Unmounted s m new work then = then work
work_moved modes.Idle s m new work then = then work
work_moved modes.Recording s m new work then = then work

-- another mode, where nothing is recorded before and afterwards
pub turns_sound : (s : Config) (m : Machine) (mode : Mode) → IsSound s m → is_working m.mode ≡ true → is_recording mode ≡ is_recording m.mode → IsSound s (record m { mode = mode })
turns_sound s m mode sound works same =
    let work : IsSoundWork s m = work_of m.mode s m works sound.work in
    record {
      channels = sound.channels;
      lanes = sound.lanes;
      tick = sound.tick;
      event = sound.event;
      most = sound.most;
      shown = sound.shown;
      generation = sound.generation;
      cursors = sound.cursors;
      work = work_is mode s (record m { mode = mode }) (record { recording = same ∙ work.recording; own = work.own; others = work.others; lanes = work.lanes; times = work.times; events = work.events });
    }

-- ---- the file that is being recorded

pub record Open (m : Machine) : Type 0 where
  pub file : File
  pub last : last_or None m.files ≡ Some file
  pub own : file.own ≡ true
  pub unclosed : file.closed ≡ false

open_file : (m : Machine) → has_open m ≡ true → Open m
open_file m is = by (last_or None m.files) refl is
  where
    by : (o : Option File) → last_or None m.files ≡ o → elim o as (λ o. Bool) [ None ↦ false | Some f ↦ is_open f ] ≡ true → Open m
    by None last is = cc
    by (Some f) last is =
        let parts = and_parts f.own (not f.closed) is in
        record { file = f; last = last; own = parts.0; unclosed = not-true f.closed parts.1 }

pub recording_works : (mode : Mode) → is_recording mode ≡ true → is_working mode ≡ true
recording_works modes.Failed fine = cc
recording_works modes.Unmounted fine = refl
recording_works modes.Idle fine = refl
recording_works modes.Recording fine = refl

pub last_is_own : (s : Config) (files : List File) (f : File) → last_or None files ≡ Some f → f.own ≡ true → AllByRecursion (IsOwnFile s) (own_files files) → IsOwnFile s f
last_is_own s [] f is own all = cc
last_is_own s (x ∷ []) f is own all = subst (IsOwnFile s) (same_Some _ _ is) (alone x.own (ap (λ (g : File). g.own) (same_Some _ _ is) ∙ own) all)
  where
    alone : (b : Bool) → b ≡ true → AllByRecursion (IsOwnFile s) (cond b (x ∷ []) []) → IsOwnFile s x
    alone true is (first, all) = first
    alone false is all = cc
last_is_own s (x ∷ y ∷ ys) f is own all = by x.own all (last_is_own s (y ∷ ys) f is own)
  where
    by : (b : Bool) → AllByRecursion (IsOwnFile s) (cond b (x ∷ own_files (y ∷ ys)) (own_files (y ∷ ys))) → (AllByRecursion (IsOwnFile s) (own_files (y ∷ ys)) → IsOwnFile s f) → IsOwnFile s f
    by true (first, all) rest = rest all
    by false all rest = rest all

-- it, and what is known of it and of the whole
pub record Taping (s : Config) (m : Machine) : Type 0 where
  pub file : File
  pub last : last_or None m.files ≡ Some file
  pub own : file.own ≡ true
  pub unclosed : file.closed ≡ false
  pub open_is : is_open file ≡ true
  pub works : is_working m.mode ≡ true
  pub work : IsSoundWork s m
  pub its : IsOwnFile s file
  pub shown : file.shown ≤ length file.entries

pub last_of : (P : File → Type 0) (files : List File) (f : File) → last_or None files ≡ Some f → AllByRecursion P files → P f
last_of P [] f is all = cc
last_of P (x ∷ []) f is (first, all) = subst P (same_Some _ _ is) first
last_of P (x ∷ y ∷ ys) f is (first, all) = last_of P (y ∷ ys) f is all

pub taping : (s : Config) (m : Machine) → IsSound s m → is_recording m.mode ≡ true → Taping s m
taping s m sound rec =
    let works = recording_works m.mode rec in
    let work = work_of m.mode s m works sound.work in
    let o = open_file m (sym work.recording ∙ rec) in
    record {
      file = o.file;
      last = o.last;
      own = o.own;
      unclosed = o.unclosed;
      open_is = is_open_now o.file.own o.file.closed o.own o.unclosed;
      works = works;
      work = work;
      its = last_is_own s m.files o.file o.last o.own work.own;
      shown = last_of (λ f. f.shown ≤ length f.entries) m.files o.file o.last sound.shown;
    }
  where
    is_open_now : (a b : Bool) → a ≡ true → b ≡ false → (a && not b) ≡ true
    is_open_now true false one two = refl
    is_open_now true true one two = absurd (true≢false two)
    is_open_now false b one two = absurd (true≢false (sym one))

-- it takes in entries, and what waits, the last tick and the last event change with it
pub record Grown (s : Config) (m : Machine) (mode : Mode) (tick : Option Tick) (event : Option ℕ) (lanes : List Lane) (change : File → File) (es : List Entry) : Type 0 where
  pub tape : Taping s m
  pub same : (f : File) → ((change f).own ≡ f.own) × ((change f).entries ≡ f.entries ++ es)
  pub shows : tape.file.shown ≤ (change tape.file).shown
  pub within : (change tape.file).shown ≤ length (change tape.file).entries
  pub fine : IsOwnFile s (change tape.file)
  pub mode_is : is_recording mode ≡ is_open (change tape.file)
  pub specs : map (λ lane. lane.spec) lanes ≡ map (λ lane. lane.spec) m.lanes
  pub sound_lanes : AllByRecursion IsSoundLane lanes
  pub ticked : IfSome tick (λ tick. IsCount tick.count × IsCivil tick.civil)
  pub marked : IfSome event IsCount
  pub climbs : AllByRecursion (ClimbsWith m.files es) lanes
  pub times : Climbs 0 (counts_on s.time m.files ++ entry_counts (on_channel s.time es)) (count_or_0 (elim tick as (λ o. Option ℕ) [ None ↦ None | Some tick ↦ Some tick.count ]))
  pub events : Climbs 0 (counts_on s.event m.files ++ entry_counts (on_channel s.event es)) (count_or_0 event)

pub grown_sound : (s : Config) (m : Machine) (mode : Mode) (tick : Option Tick) (event : Option ℕ) (lanes : List Lane) (change : File → File) (es : List Entry) → IsSound s m
    → Grown s m mode tick event lanes change es → IsSound s (record m { mode = mode; tick = tick; last_event = event; lanes = lanes; files = change_last change m.files })
grown_sound s m mode tick event lanes change es sound grown =
    let t = grown.tape in
    let work = t.work in
    let counts : (channel : ℕ) → counts_on channel (change_last change m.files) ≡ counts_on channel m.files ++ entry_counts (on_channel channel es) = λ channel. last_counts channel change es grown.same m.files t.file t.last t.own in
    let new : Machine = record m { mode = mode; tick = tick; last_event = event; lanes = lanes; files = change_last change m.files } in
    record {
      channels = grown.specs ∙ sound.channels;
      lanes = grown.sound_lanes;
      tick = grown.ticked;
      event = grown.marked;
      most = omega (arith, sound.most, last_length change m.files);
      shown = shown_files change m.files t.file t.last sound.shown grown.within;
      generation = sound.generation;
      cursors = λ id. some_each (IsSoundCursor m) (IsSoundCursor new)
          (λ c before. (before.0, λ same. last_shows change m.files t.file t.last grown.shows c.file c.covered (before.1 same))) (cursor_of id m) (sound.cursors id);
      work = work_is mode s new (record {
        recording = grown.mode_is ∙ sym (ap (λ (o : Option File). elim o as (λ o. Bool) [ None ↦ false | Some f ↦ is_open f ]) (last_last change m.files t.file t.last));
        own = last_own (IsOwnFile s) change (λ f. (grown.same f).0) m.files t.file t.last work.own (λ before. grown.fine);
        others = last_each IsOthersFile change m.files t.file t.last work.others (λ before foreign. absurd (true≢false (sym ((grown.same t.file).0 ∙ t.own) ∙ foreign)));
        lanes = each_climb m.files (change_last change m.files) es counts lanes grown.climbs;
        times = subst (λ (l : List ℕ). Climbs 0 l (count_or_0 (elim tick as (λ o. Option ℕ) [ None ↦ None | Some tick ↦ Some tick.count ]))) (sym (counts s.time)) grown.times;
        events = subst (λ (l : List ℕ). Climbs 0 l (count_or_0 event)) (sym (counts s.event)) grown.events;
      });
    }
