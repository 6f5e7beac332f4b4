-- What is recorded keeps a recorder sound.
use Rattle.std.proofs.Common.{◌≡◌, ◌≤◌, ◌<◌, ℕ, ◌+◌, Bool, true, false, ◌&&◌, cond, List, [], ◌∷◌, ◌++◌, map, take, length, suc, Option, Some, None, refl, sym, ap, ◌∙◌, subst, arith, IfSome, IsSomeAnd, true≢false, nat_lt, nat_le, lit<, lit≤}
use Rattle.std.proofs.lemmas.List.{length-append, length-take, take-take, append-nil}
use Rattle.std.proofs.lemmas.Bool.{leb-true, ltb-true}
use Rattle.r10_count.specs.Count.{IsCount}
use Rattle.r10_count.specs.Civil.{IsCivil, is_civil}
use Rattle.r10_count.specs.Checks.{first_broken}
use Rattle.r10_body.specs.Cost.{entry_cost}
use Rattle.r10_body.specs.Files.{on_channel}
use Rattle.r10_body.specs.declared.entry.Entry.{Entry}
use Rattle.r10_body.specs.declared.refusal.Refusal.TheVariants.{CountRange, CountBack, BadCivil}
use Rattle.r10_machine.specs.declared.mode.Mode.TheVariants as modes
use Rattle.r10_machine.specs.declared.mode.Stopped.{Stopped}
use Rattle.r10_machine.specs.Config.{Config}
use Rattle.r10_machine.specs.Limits.{IsConfig}
use Rattle.r10_machine.specs.Machine.{Machine, Tick, Lane, File, cursor_of, lane_of, last_file, with_entries, with_last, with_lane, change_last, change_first, is_channel, waiting_entries, last_size}
use Rattle.r10_machine.specs.Room.{cost_of, area, fits, fitting, room_for, TakesIn}
use Rattle.r10_machine.specs.Checks.{is_recording, is_working, tick_checks, count_checks, is_not_before, last_tick}
use Rattle.r10_machine.specs.Calls.{time_entry, Ticks, TicksIn, Pumps, Stops, Starts, empty_file, shown_whole, waiting_count, without, all_waiting, lanes_without, closed_whole}
use Rattle.r10_machine.specs.SoundParts.{IsSoundLane, IsSoundCursor, Climbs, is_open, counts_on, count_or_0}
use Rattle.r10_machine.proofs.Climbing.{climbs_raised, entry_counts}
use Rattle.r10_machine.proofs.Steady.{same_specs, changed_all, some_each}
use Rattle.r10_machine.proofs.Growing.{cost_more, one_more, fitting_room, time_climbs, times_climb, times_kept, pump_climbs, front_fits, dropped_sound, no_times_of, no_times, stopped_climb, stopped_sound, stopped_specs, waiting_fits, append_counts, append_own, append_last, append_there, each_climb}
use Rattle.r10_machine.specs.EventChecks.{most_files, event_checks}
use Rattle.r10_machine.specs.ControlCalls.{event_entry, Marks, Commits}
use Rattle.r10_machine.specs.Sound.{IsSound, IsOwnFile, IsOthersFile}
use Rattle.r10_machine.proofs.Entering.{apart_of, are_entries, own_grows, own_closes, own_shows, marking, event_is_entry, nowhere_else, one_climbs, none_climb, events_climb}
use Rattle.r10_machine.proofs.Grown.{grown_sound, taping, work_of, work_moved}
use Rattle.std.proofs.lemmas.Option.{same_Some}
use Rattle.r10_count.proofs.Rules.{none_broken, rules_parts}
use Rattle.r10_count.proofs.Lists.{all_joined, all_taken}

-- the settings with the channel of events in the place of that of times
abbrev turned : Config → Config
turned s = record s { time = s.event }

-- what is not on the channel of events leaves its counts
events_kept : (s : Config) (files : List File) (es : List Entry) (high : ℕ) → on_channel s.event es ≡ [] → Climbs 0 (counts_on s.event files) high → Climbs 0 (counts_on s.event files ++ entry_counts (on_channel s.event es)) high
events_kept s files es high none climbs = times_kept (turned s) files es high none climbs

-- ---- ticks

record Ticking (m : Machine) (tick : Tick) : Type 0 where
  range : IsCount tick.count
  order : count_or_0 (last_tick m) ≤ tick.count
  civil : IsCivil tick.civil

ticking : (m : Machine) (tick : Tick) → first_broken (tick_checks (last_tick m) tick.count tick.civil) ≡ None → Ticking m tick
ticking m tick fine =
    let a = rules_parts (count_checks (last_tick m) tick.count) ((is_civil tick.civil, BadCivil) ∷ []) fine in
    let b = none_broken (nat_lt tick.count 281474976710656) CountRange ((is_not_before (last_tick m) tick.count, CountBack) ∷ []) a.0 in
    let c = none_broken (is_not_before (last_tick m) tick.count) CountBack [] b.1 in
    let d = none_broken (is_civil tick.civil) BadCivil [] a.1 in
    record { range = ltb-true tick.count 281474976710656 b.0; order = after (last_tick m) c.0; civil = d.0 }
  where
    after : (last : Option ℕ) → is_not_before last tick.count ≡ true → count_or_0 last ≤ tick.count
    after None fine = omega arith
    after (Some n) fine = leb-true n tick.count fine

pub ticks_sound : (s : Config) (m : Machine) (tick : Tick) (new : Machine) → IsConfig s → IsSound s m
    → first_broken (tick_checks (last_tick m) tick.count tick.civil) ≡ None → Ticks s m tick new → IsSound s new
ticks_sound s m tick new config sound fine ticks = by (is_recording m.mode) refl ticks
  where
    facts : Ticking m tick
    facts = ticking m tick fine

    by : (b : Bool) → is_recording m.mode ≡ b → TicksIn b s m tick new → IsSound s new
    by false rec is = subst (IsSound s) (sym is) (record {
      channels = sound.channels;
      lanes = sound.lanes;
      tick = (facts.range, facts.civil);
      event = sound.event;
      most = sound.most;
      shown = sound.shown;
      generation = sound.generation;
      cursors = sound.cursors;
      work = work_moved m.mode s m (record m { tick = Some tick }) sound.work (λ work. record {
        recording = work.recording;
        own = work.own;
        others = work.others;
        lanes = work.lanes;
        times = climbs_raised 0 (counts_on s.time m.files) (count_or_0 (last_tick m)) tick.count facts.order work.times;
        events = work.events;
      });
    })
    by true rec (room, is) =
        let t = taping s m sound rec in
        let e = time_entry s tick in
        let apart = apart_of s m.lanes config sound.channels in
        let has : fits s t.file e ≡ true = subst (λ (f : Option File). IsSomeAnd f (λ f. fits s f e ≡ true)) t.last room in
        subst (IsSound s) (sym is) (grown_sound s m m.mode (Some tick) m.last_event m.lanes (with_entries (e ∷ [])) (e ∷ []) sound (record {
          tape = t;
          same = λ f. (refl, refl);
          shows = omega arith;
          within = omega (arith, t.shown, length-append t.file.entries (e ∷ []));
          fine = own_grows s t.file (e ∷ []) t.its t.unclosed (are_entries s (e ∷ []) ((facts.range, tt, (refl, facts.civil, refl)), tt)) (one_more s t.file e has);
          mode_is = rec ∙ sym t.open_is;
          specs = refl;
          sound_lanes = sound.lanes;
          ticked = (facts.range, facts.civil);
          marked = sound.event;
          climbs = time_climbs s tick m.files m.lanes apart.time t.work.lanes;
          times = times_climb s tick m.files (count_or_0 (last_tick m)) facts.order t.work.times;
          events = events_kept s m.files (e ∷ []) (count_or_0 m.last_event) (nowhere_else s.event e apart.times) t.work.events;
        }))

-- ---- recording events

pub marks_sound : (s : Config) (m : Machine) (number count : ℕ) (new : Machine) → IsConfig s → IsSound s m → is_recording m.mode ≡ true
    → first_broken (event_checks m.last_event number count) ≡ None → Marks s m number count new → IsSound s new
marks_sound s m number count new config sound rec fine marks =
    let t = taping s m sound rec in
    let f = t.file in
    let e = event_entry s number count f in
    let facts = marking m.last_event number count fine in
    let apart = apart_of s m.lanes config sound.channels in
    let made : (fits s f e ≡ true) × (new ≡ with_last (with_entries (e ∷ [])) (record m { last_event = Some count })) =
    subst (λ (o : Option File). IsSomeAnd o (λ f. (fits s f (event_entry s number count f) ≡ true) × (new ≡ with_last (with_entries (event_entry s number count f ∷ [])) (record m { last_event = Some count })))) t.last marks in
    subst (IsSound s) (sym made.1) (grown_sound s m m.mode m.tick (Some count) m.lanes (with_entries (e ∷ [])) (e ∷ []) sound (record {
      tape = t;
      same = λ f. (refl, refl);
      shows = omega arith;
      within = omega (arith, t.shown, length-append f.entries (e ∷ []));
      fine = own_grows s f (e ∷ []) t.its t.unclosed (event_is_entry s number count f facts.range facts.number_is, tt) (one_more s f e made.0);
      mode_is = rec ∙ sym t.open_is;
      specs = refl;
      sound_lanes = sound.lanes;
      ticked = sound.tick;
      marked = facts.range;
      climbs = one_climbs m.files e m.lanes apart.event t.work.lanes;
      times = times_kept s m.files (e ∷ []) (count_or_0 (last_tick m)) (nowhere_else s.time e apart.events) t.work.times;
      events = events_climb s e m.files (count_or_0 m.last_event) refl facts.order t.work.events;
    }))

-- ---- commits

pub commits_sound : (s : Config) (m new : Machine) → IsSound s m → is_recording m.mode ≡ true → Commits m new → IsSound s new
commits_sound s m new sound rec is =
    let t = taping s m sound rec in
    subst (IsSound s) (sym is) (grown_sound s m m.mode m.tick m.last_event m.lanes (shown_whole (last_size new)) [] sound (record {
      tape = t;
      same = λ f. (refl, sym (append-nil f.entries));
      shows = t.shown;
      within = omega arith;
      fine = own_shows s t.file (last_size new) t.its;
      mode_is = rec ∙ sym t.open_is;
      specs = refl;
      sound_lanes = sound.lanes;
      ticked = sound.tick;
      marked = sound.event;
      climbs = none_climb m.files m.lanes t.work.lanes;
      times = times_kept s m.files [] (count_or_0 (last_tick m)) refl t.work.times;
      events = events_kept s m.files [] (count_or_0 m.last_event) refl t.work.events;
    }))

-- ---- pumps

pub fitting_short : (room cost : ℕ) (es : List Entry) → fitting room cost es ≤ length es
fitting_short room cost [] = omega arith
fitting_short room cost (e ∷ es) = by (nat_le (cost + entry_cost e) room) (fitting_short room (cost + entry_cost e) es)
  where
    by : (b : Bool) → fitting room (cost + entry_cost e) es ≤ length es → cond b (suc (fitting room (cost + entry_cost e) es)) 0 ≤ length (e ∷ es)
    by true rest = omega (arith, rest)
    by false rest = omega arith

room_taken : (s : Config) (f : File) (es : List Entry) (n : ℕ) → cost_of f ≤ area s f → n ≤ room_for s f es → cost_of (with_entries (take n es) f) ≤ area s f
room_taken s f es n within fine = omega (arith, cost_more f (take n es), fitting_room (area s f) (cost_of f) es n within fine)

pump_specs : (channel n : ℕ) (lanes : List Lane) → map (λ lane. lane.spec) (change_first (is_channel channel) (without n) lanes) ≡ map (λ lane. lane.spec) lanes
pump_specs channel n lanes = same_specs (is_channel channel) (without n) (λ lane. refl) lanes

pub pumps_sound : (s : Config) (m : Machine) (channel most n : ℕ) (new : Machine) → IsConfig s → IsSound s m → is_recording m.mode ≡ true → Pumps s m channel most n new → IsSound s new
pumps_sound s m channel most n new config sound rec pumps = by (lane_of channel m) refl (last_file m) refl pumps
  where
    by : (l : Option Lane) → lane_of channel m ≡ l → (o : Option File) → last_file m ≡ o
        → IsSomeAnd l (λ lane. IsSomeAnd o (λ f. TakesIn s f (take most (waiting_entries lane)) n × (0 < length (take most (waiting_entries lane)) → 0 < n)
        × (new ≡ with_last (with_entries (take n (waiting_entries lane))) (with_lane channel (without n) m)))) → IsSound s new
    by None there o last pumps = absurd pumps
    by (Some lane) there None last pumps = absurd pumps
    by (Some lane) there (Some f) last (takes, some, is) =
        let t = taping s m sound rec in
        let es = take n (waiting_entries lane) in
        let apart = apart_of s m.lanes config sound.channels in
        let same : f ≡ t.file = same_Some _ _ (sym last ∙ t.last) in
        let fine : n ≤ room_for s t.file (take most (waiting_entries lane)) = subst (λ (f : File). n ≤ room_for s f (take most (waiting_entries lane))) same (omega (arith, takes)) in
        let short : n ≤ most = omega (arith, fine, fitting_short (area s t.file) (cost_of t.file) (take most (waiting_entries lane)), length-take most (waiting_entries lane)) in
        let room : cost_of (with_entries es t.file) ≤ area s t.file =
        subst (λ (l : List Entry). cost_of (with_entries l t.file) ≤ area s t.file) (take-take n most (waiting_entries lane) short) (room_taken s t.file (take most (waiting_entries lane)) n t.its.room fine) in
        subst (IsSound s) (sym is) (grown_sound s m m.mode m.tick m.last_event (change_first (is_channel channel) (without n) m.lanes) (with_entries es) es sound (record {
          tape = t;
          same = λ f. (refl, refl);
          shows = omega arith;
          within = omega (arith, t.shown, length-append t.file.entries es);
          fine = own_grows s t.file es t.its t.unclosed (are_entries s es (front_fits s m.lanes channel n lane sound.channels sound.lanes there)) room;
          mode_is = rec ∙ sym t.open_is;
          specs = pump_specs channel n m.lanes;
          sound_lanes = changed_all IsSoundLane (is_channel channel) (without n) m.lanes sound.lanes (λ lane there sound. dropped_sound n lane sound);
          ticked = sound.tick;
          marked = sound.event;
          climbs = pump_climbs m.files channel n m.lanes lane apart.lanes_differ there t.work.lanes;
          times = times_kept s m.files es (count_or_0 (last_tick m)) (no_times_of s m.lanes channel n lane apart.time there) t.work.times;
          events = events_kept s m.files es (count_or_0 m.last_event) (no_times_of (turned s) m.lanes channel n lane apart.event there) t.work.events;
        }))

-- ---- stops

and_false : (b : Bool) → (b && false) ≡ false
and_false true = refl
and_false false = refl

pub stops_sound : (s : Config) (m : Machine) (stopped : Stopped) (new : Machine) → IsConfig s → IsSound s m → is_recording m.mode ≡ true → Stops s m stopped new → IsSound s new
stops_sound s m stopped new config sound rec stops = by (last_file m) refl stops
  where
    by : (o : Option File) → last_file m ≡ o
        → IsSomeAnd o (λ f. TakesIn s f (all_waiting m.lanes) stopped.taken × (stopped.left ≡ waiting_count new.lanes)
        × (new ≡ record m {
          mode = modes.Idle;
          lanes = lanes_without (take stopped.taken (all_waiting m.lanes)) m.lanes;
          files = change_last (λ f. closed_whole (last_size new) (with_entries (take stopped.taken (all_waiting m.lanes)) f)) m.files;
        })) → IsSound s new
    by None last stops = absurd stops
    by (Some f) last (takes, left, is) =
        let t = taping s m sound rec in
        let taken = take stopped.taken (all_waiting m.lanes) in
        let apart = apart_of s m.lanes config sound.channels in
        let same : f ≡ t.file = same_Some _ _ (sym last ∙ t.last) in
        let fine : stopped.taken ≤ room_for s t.file (all_waiting m.lanes) = subst (λ (f : File). stopped.taken ≤ room_for s f (all_waiting m.lanes)) same (omega (arith, takes)) in
        let room : cost_of (with_entries taken t.file) ≤ area s t.file = room_taken s t.file (all_waiting m.lanes) stopped.taken t.its.room fine in
        subst (IsSound s) (sym is) (grown_sound s m modes.Idle m.tick m.last_event (lanes_without taken m.lanes) (λ f. closed_whole (last_size new) (with_entries taken f)) taken sound (record {
          tape = t;
          same = λ f. (refl, refl);
          shows = omega (arith, t.shown, length-append t.file.entries taken);
          within = omega arith;
          fine = own_closes s t.file taken (last_size new) t.its (are_entries s taken (all_taken _ stopped.taken (all_waiting m.lanes) (waiting_fits s m.lanes sound.channels sound.lanes))) room;
          mode_is = sym (and_false t.file.own);
          specs = stopped_specs taken m.lanes;
          sound_lanes = stopped_sound taken m.lanes sound.lanes;
          ticked = sound.tick;
          marked = sound.event;
          climbs = stopped_climb m.files m.lanes stopped.taken apart.lanes_differ sound.lanes t.work.lanes;
          times = times_kept s m.files taken (count_or_0 (last_tick m)) (no_times s m.lanes apart.time stopped.taken) t.work.times;
          events = events_kept s m.files taken (count_or_0 m.last_event) (no_times (turned s) m.lanes apart.event stopped.taken) t.work.events;
        }))

-- ---- starts

pub starts_sound : (s : Config) (m : Machine) (name setup : List ℕ) (new : Machine) → IsConfig s → IsSound s m → is_working m.mode ≡ true → length m.files < most_files s → Starts s m name setup new → IsSound s new
starts_sound s m name setup new config sound works few starts = by m.tick refl sound.tick starts
  where
    by : (t : Option Tick) → m.tick ≡ t → IfSome t (λ tick. IsCount tick.count × IsCivil tick.civil)
        → IsSomeAnd t (λ tick. (fits s (empty_file s m.files name setup) (time_entry s tick) ≡ true)
        × (new ≡ record m { mode = modes.Recording; files = m.files ++ shown_whole (last_size new) (with_entries (time_entry s tick ∷ []) (empty_file s m.files name setup)) ∷ [] })) → IsSound s new
    by None ticked fine starts = absurd starts
    by (Some tick) ticked (range, civil) (has, is) =
        let work = work_of m.mode s m works sound.work in
        let e = time_entry s tick in
        let f : File = empty_file s m.files name setup in
        let g : File = shown_whole (last_size new) (with_entries (e ∷ []) f) in
        let counts : (channel : ℕ) → counts_on channel (m.files ++ g ∷ []) ≡ counts_on channel m.files ++ entry_counts (on_channel channel (e ∷ [])) = λ channel. append_counts channel m.files g refl in
        let last_is : last_tick m ≡ Some tick.count = ap (λ (o : Option Tick). elim o as (λ o. Option ℕ) [ None ↦ None | Some t ↦ Some t.count ]) ticked in
        let order : count_or_0 (last_tick m) ≤ tick.count = subst (λ (o : Option ℕ). count_or_0 o ≤ tick.count) (sym last_is) (omega arith) in
        let apart = apart_of s m.lanes config sound.channels in
        let own : IsOwnFile s g = record {
          first = refl;
          begun = lit< tt;
          entries = are_entries s (e ∷ []) ((range, tt, (refl, civil, refl)), tt);
          room = one_more s f e has;
          whole = λ closed. absurd (true≢false (sym closed));
        } in
        subst (IsSound s) (sym is) (record {
          channels = sound.channels;
          lanes = sound.lanes;
          tick = sound.tick;
          event = sound.event;
          most = omega (arith, few, length-append m.files (g ∷ []));
          shown = all_joined (λ f. f.shown ≤ length f.entries) m.files (g ∷ []) sound.shown (lit≤ tt, tt);
          generation = sound.generation;
          cursors = λ id. some_each (IsSoundCursor m) (IsSoundCursor (record m { mode = modes.Recording; files = m.files ++ g ∷ [] }))
              (λ c before. (before.0, λ same. append_there (λ f. c.covered ≤ f.shown) m.files g c.file (before.1 same))) (cursor_of id m) (sound.cursors id);
          work = record {
            recording = sym (ap (λ (o : Option File). elim o as (λ o. Bool) [ None ↦ false | Some f ↦ is_open f ]) (append_last None m.files g));
            own = append_own (IsOwnFile s) m.files g work.own own;
            others = all_joined IsOthersFile m.files (g ∷ []) work.others (λ foreign. refl, tt);
            lanes = each_climb m.files (m.files ++ g ∷ []) (e ∷ []) counts m.lanes (time_climbs s tick m.files m.lanes apart.time work.lanes);
            times = subst (λ (l : List ℕ). Climbs 0 l (count_or_0 (last_tick m))) (sym (counts s.time))
                (subst (λ (o : Option ℕ). Climbs 0 (counts_on s.time m.files ++ entry_counts (on_channel s.time (e ∷ []))) (count_or_0 o)) (sym last_is) (times_climb s tick m.files (count_or_0 (last_tick m)) order work.times));
            events = subst (λ (l : List ℕ). Climbs 0 l (count_or_0 m.last_event)) (sym (counts s.event)) (events_kept s m.files (e ∷ []) (count_or_0 m.last_event) (nowhere_else s.event e apart.times) work.events);
          };
        })
