-- The account of a channel over runs.
use Rattle.std.proofs.Common.{◌≡◌, ◌≤◌, ℕ, ◌+◌, ◌-◌, ◌^◌, Bool, true, false, cond, List, [], ◌∷◌, ◌++◌, map, length, zip, Option, Some, None, option_map, is_some, refl, sym, ap, ◌∙◌, subst, arith, true≢false, ◌==◌}
use Rattle.std.specs.List.{AllByRecursion, IsDistinct, flat_map}
use Rattle.std.proofs.lemmas.List.{append_assoc, append-nil, length-append}
use Rattle.r10_body.specs.Channels.{spec_of}
use Rattle.r10_body.specs.Files.{on_channel}
use Rattle.r10_body.specs.declared.entry.Entry.{Entry}
use Rattle.r10_body.specs.declared.spec.ChannelSpec.{ChannelSpec}
use Rattle.r10_medium.specs.Disk.{Image}
use Rattle.r10_machine.specs.Config.{Config}
use Rattle.r10_machine.specs.Limits.{IsConfig, channel_ids}
use Rattle.r10_machine.specs.Machine.{Machine, Lane, File, fresh, fresh_lane, lane_in, saturated, shown_entries}
use Rattle.r10_machine.specs.Checks.{is_working}
use Rattle.r10_machine.specs.ControlCalls.{own_entries}
use Rattle.r10_machine.specs.SoundParts.{IsSoundLane}
use Rattle.r10_machine.specs.Sound.{IsFoundFile, IsSound}
use Rattle.r10_machine.specs.Step.{Run, Step}
use Rattle.r10_machine.specs.EventChecks.{most_files}
use Rattle.r10_machine.specs.declared.event.Event.{Event as EventValue}
use Rattle.r10_machine.specs.declared.reply.Reply.{Reply as ReplyValue}
use Rattle.r10_machine.proofs.Ranges.{parts_of, ids_distinct}
use Rattle.r10_machine.proofs.Growing.{lane_sound, lanes_distinct, time_apart}
use Rattle.r10_machine.proofs.Grown.{last_is_own, taping, work_of}
use Rattle.r10_machine.proofs.Taking.{lane_has}
use Rattle.r10_account.specs.Accepted.{Exchange, lost_since, entries_behind, entry_with, accepted_entries}
use Rattle.r10_account.specs.Account.{GoesOver, IsAccount, StandsInFront, StandsLast, waiting_in, waiting_of, missed_in, missed_of, erased_in, erased_of, shown_own}
use Rattle.r10_account.proofs.Accounting.{StepAccounts, IsApart, missed_behind, missed_on}
use Rattle.r10_account.proofs.Doing.{Known}
use Rattle.r10_account.proofs.Exchanges.{lost_next}
use Rattle.r10_account.proofs.Files.{AllBehind, none_behind, shown_front}
use Rattle.r10_account.proofs.Lanes.{lane_of_spec}
use Rattle.r10_account.proofs.Numbers.{at_first, same_number, small_again, twice}
use Rattle.r10_account.proofs.Stepping.{FailsTo, FailedSteps, WorkSteps, work_steps, failed_steps}
use Rattle.r10_account.proofs.Stepping.WorkSteps.{on, failing}
use Rattle.r10_machine.proofs.Newness.{none_own}

-- the law of a step
abbrev StepsStaySound : Type 0
StepsStaySound = (s : Config) (old : Machine) (event : EventValue) (reply : ReplyValue) (new : Machine) → IsConfig s → IsSound s old → Step s old event reply new → IsSound s new

-- ---- a channel of the settings

record HasLane (channel : ℕ) (lanes : List Lane) : Type 0 where
  lane : Lane
  there : lane_in channel lanes ≡ Some lane
  its : lane.spec.id ≡ channel

has_lane : (s : Config) (channel : ℕ) (m : Machine) → IsSound s m → is_some (spec_of s.channels channel) ≡ true → HasLane channel m.lanes
has_lane s channel m sound is = by (lane_in channel m.lanes) refl (lane_of_spec channel m.lanes ∙ ap (λ (specs : List ChannelSpec). spec_of specs channel) sound.channels)
  where
    by : (o : Option Lane) → lane_in channel m.lanes ≡ o → option_map (λ (lane : Lane). lane.spec) o ≡ spec_of s.channels channel → HasLane channel m.lanes
    by None there same = absurd (true≢false (sym is ∙ ap (λ (o : Option ChannelSpec). is_some o) (sym same)))
    by (Some lane) there same = record { lane = lane; there = there; its = lane_has channel m.lanes lane there }

event_apart : (s : Config) (lanes : List Lane) → IsConfig s → map (λ lane. lane.spec) lanes ≡ s.channels → AllByRecursion (λ lane. (s.event == lane.spec.id) ≡ false) lanes
unfolding IsDistinct
event_apart s lanes config is =
    let distinct = ids_distinct [] (s.time ∷ s.event ∷ channel_ids s.channels) (parts_of s config).ids in
    each lanes (subst (λ (specs : List ChannelSpec). AllByRecursion (λ (id : ℕ). (s.event == id) ≡ false) (channel_ids specs)) (sym is) distinct.1.0)
  where
    each : (lanes : List Lane) → AllByRecursion (λ (id : ℕ). (s.event == id) ≡ false) (channel_ids (map (λ lane. lane.spec) lanes)) → AllByRecursion (λ lane. (s.event == lane.spec.id) ≡ false) lanes
    each [] all = tt
    each (lane ∷ lanes) (here, all) = (here, each lanes all)

known_of : (s : Config) (channel : ℕ) (m : Machine) → IsConfig s → IsSound s m → is_some (spec_of s.channels channel) ≡ true → is_working m.mode ≡ true → Known s channel m.mode m.lanes m.files
known_of s channel m config sound is works =
    let h = has_lane s channel m sound is in
    let work = work_of m.mode s m works sound.work in
    record {
      lane = h.lane;
      there = h.there;
      its = h.its;
      held = (lane_sound IsSoundLane channel m.lanes h.lane h.there sound.lanes).held;
      time = subst (λ (c : ℕ). (s.time == c) ≡ false) h.its (lane_sound (λ lane. (s.time == lane.spec.id) ≡ false) channel m.lanes h.lane h.there (time_apart s m.lanes config sound.channels));
      event = subst (λ (c : ℕ). (s.event == c) ≡ false) h.its (lane_sound (λ lane. (s.event == lane.spec.id) ≡ false) channel m.lanes h.lane h.there (event_apart s m.lanes config sound.channels));
      distinct = lanes_distinct s m.lanes config sound.channels;
      open_file = λ rec. let t = taping s m sound rec in (t.file, t.last, t.own);
      closed_shows = λ f last own closed. (last_is_own s m.files f last own work.own).whole closed;
    }

-- ---- what stands of an account

-- with a premise for what is shown, and one for the number of those that are gone
record Stands (P E : Type 0) (channel start : ℕ) (m : Machine) (taken gone : List Entry) : Type 0 where
  each : is_working m.mode ≡ true → gone ++ own_entries channel m.files ++ waiting_of channel m.lanes ≡ taken
  behind : P → is_working m.mode ≡ true → AllBehind m.files
  shown : P → StandsInFront (gone ++ shown_own channel m.files) taken
  waits : StandsLast (waiting_of channel m.lanes) taken
  erased : E → erased_of channel m.lanes ≡ saturated (start + length gone)

first_more : (front taken more : List Entry) → StandsInFront front taken → StandsInFront front (taken ++ more)
first_more front taken more (rest, is) = (rest ++ more, sym (append_assoc front rest more) ∙ ap (λ (l : List Entry). l ++ more) is)

last_more : (back taken more : List Entry) → StandsLast back taken → StandsLast (back ++ more) (taken ++ more)
last_more back taken more (front, is) = (front, sym (append_assoc front back more) ∙ ap (λ (l : List Entry). l ++ more) is)

-- what is known of each gives what stands first
front_of : (channel : ℕ) (files : List File) (gone waiting taken : List Entry) → AllBehind files → gone ++ own_entries channel files ++ waiting ≡ taken → StandsInFront (gone ++ shown_own channel files) taken
front_of channel files gone waiting taken behind is =
    let front = shown_front channel files behind in (
      front.0 ++ waiting,
      sym (append_assoc (gone ++ shown_own channel files) front.0 waiting)
          ∙ ap (λ (l : List Entry). l ++ waiting) (append_assoc gone (shown_own channel files) front.0 ∙ ap (λ (l : List Entry). gone ++ l) front.1)
          ∙ is,
    )

number_on : (start was now : ℕ) (gone more : List Entry) → was ≡ saturated (start + length gone) → (was ≤ 2 ^ 64 - 1 → now ≡ saturated (was + length more)) → now ≡ saturated (start + length (gone ++ more))
number_on start was now gone more is then =
    let small : was ≤ 2 ^ 64 - 1 = subst (λ (n : ℕ). n ≤ 2 ^ 64 - 1) (sym is) (small_again (start + length gone) (2 ^ 64 - 1)) in
    let sum : start + length gone + length more ≡ start + length (gone ++ more) = omega (arith, length-append gone more) in
    then small ∙ ap (λ (n : ℕ). saturated (n + length more)) is ∙ twice (start + length gone) (length more) (2 ^ 64 - 1) ∙ ap saturated sum

-- ---- a step

record StandsOn (P E : Type 0) (channel start : ℕ) (new : Machine) (taken gone : List Entry) : Type 0 where
  more : List Entry
  stands : Stands P E channel start new taken (gone ++ more)

-- lanes and files before a step, with what was taken and is gone by then
record Before (P E : Type 0) (channel start : ℕ) (lanes : List Lane) (files : List File) (taken gone : List Entry) : Type 0 where
  each : gone ++ own_entries channel files ++ waiting_of channel lanes ≡ taken
  behind : P → AllBehind files
  erased : E → erased_of channel lanes ≡ saturated (start + length gone)

works_on : (P E : Type 0) (channel start : ℕ) (lanes : List Lane) (files : List File) (x : Exchange) (new : Machine) (taken gone : List Entry) → Before P E channel start lanes files taken gone
    → StepAccounts channel lanes files x new.lanes new.files → StandsOn P E channel start new (taken ++ entry_with channel (missed_of channel lanes) x) gone
works_on P E channel start lanes files x new taken gone b a =
    let entry = entry_with channel (missed_of channel lanes) x in
    let own = own_entries channel files in
    let waiting = waiting_of channel lanes in
    let own' = own_entries channel new.files in
    let waiting' = waiting_of channel new.lanes in
    let all : gone ++ a.gone ++ own' ++ waiting' ≡ taken ++ entry =
    ap (λ (l : List Entry). l ++ waiting') (append_assoc gone a.gone own')
    ∙ append_assoc gone (a.gone ++ own') waiting'
    ∙ ap (λ (l : List Entry). gone ++ l) a.each
    ∙ sym (append_assoc gone (own ++ waiting) entry)
    ∙ ap (λ (l : List Entry). l ++ entry) (sym (append_assoc gone own waiting) ∙ b.each) in
    record {
      more = a.gone;
      stands = record {
        each = λ works. all;
        behind = λ p works. a.behind (b.behind p);
        shown = λ p. front_of channel new.files (gone ++ a.gone) waiting' (taken ++ entry) (a.behind (b.behind p)) all;
        waits = (gone ++ a.gone ++ own', all);
        erased = λ p. number_on start (erased_of channel lanes) (erased_of channel new.lanes) gone a.gone (b.erased p) a.erased;
      };
    }

fails_on : (P E : Type 0) (channel start : ℕ) (lanes : List Lane) (files : List File) (x : Exchange) (new : Machine) (taken gone : List Entry) → Before P E channel start lanes files taken gone
    → IsApart channel x → is_working new.mode ≡ false → FailsTo channel lanes files new.lanes new.files → StandsOn P E channel start new (taken ++ entry_with channel (missed_of channel lanes) x) gone
fails_on P E channel start lanes files x new taken gone b apart failed f =
    let own = own_entries channel files in
    let waiting = waiting_of channel lanes in
    let waiting' = waiting_of channel new.lanes in
    let shown' = shown_own channel new.files in
    subst (λ (entry : List Entry). StandsOn P E channel start new (taken ++ entry) gone) (sym (apart.makes_none (missed_of channel lanes)))
    (subst (λ (l : List Entry). StandsOn P E channel start new l gone) (sym (append-nil taken)) (record {
      more = f.gone;
      stands = record {
        each = λ works. absurd (true≢false (sym works ∙ failed));
        behind = λ p works. absurd (true≢false (sym works ∙ failed));
        shown = λ p.
            let s = f.shown (b.behind p) in (
              s.0,
              ap (λ (l : List Entry). l ++ s.0) (append_assoc gone f.gone shown')
                  ∙ append_assoc gone (f.gone ++ shown') s.0
                  ∙ ap (λ (l : List Entry). gone ++ l) s.1
                  ∙ sym (append_assoc gone own waiting)
                  ∙ b.each,
            );
        waits = (
          gone ++ own ++ f.waits.0,
          append_assoc (gone ++ own) f.waits.0 waiting' ∙ ap (λ (l : List Entry). gone ++ own ++ l) f.waits.1 ∙ b.each,
        );
        erased = λ p. number_on start (erased_of channel lanes) (erased_of channel new.lanes) gone f.gone (b.erased p) f.erased;
      };
    }))

stays_on : (P E : Type 0) (channel start : ℕ) (old : Machine) (x : Exchange) (new : Machine) (taken gone : List Entry) → Stands P E channel start old taken gone
    → FailedSteps channel old.lanes old.files x new.lanes new.files new.mode → StandsOn P E channel start new (taken ++ entry_with channel (missed_of channel old.lanes) x) gone
stays_on P E channel start old x new taken gone b f =
    let entry = entry_with channel (missed_of channel old.lanes) x in
    record {
      more = [];
      stands = subst (λ (g : List Entry). Stands P E channel start new (taken ++ entry) g) (sym (append-nil gone)) (record {
        each = λ works. absurd (true≢false (sym works ∙ f.failed));
        behind = λ p works. absurd (true≢false (sym works ∙ f.failed));
        shown = λ p. first_more (gone ++ shown_own channel new.files) taken entry (subst (λ (fs : List File). StandsInFront (gone ++ shown_own channel fs) taken) (sym f.waits.files_stay) (b.shown p));
        waits = subst (λ (l : List Entry). StandsLast l (taken ++ entry)) (sym f.waits.waits) (last_more (waiting_of channel old.lanes) taken entry b.waits);
        erased = λ p. f.waits.erased ∙ b.erased p;
      });
    }

record OneStep (P E : Type 0) (channel start : ℕ) (old : Machine) (x : Exchange) (new : Machine) (taken gone : List Entry) : Type 0 where
  on : StandsOn P E channel start new (taken ++ entry_with channel (missed_of channel old.lanes) x) gone
  missed : missed_of channel new.lanes ≡ missed_behind channel (missed_of channel old.lanes) x

one_step : (P E : Type 0) (s : Config) (channel start : ℕ) (old : Machine) (event : EventValue) (reply : ReplyValue) (new : Machine) (taken gone : List Entry) → IsConfig s → IsSound s old → is_some (spec_of s.channels channel) ≡ true
    → Stands P E channel start old taken gone → Step s old event reply new → OneStep P E channel start old (event, reply) new taken gone
one_step P E s channel start old event reply new taken gone config sound is b step = by (is_working old.mode) refl
  where
    working : Before P E channel start old.lanes old.files taken gone → WorkSteps channel (record old { failures = new.failures }) (event, reply) new → OneStep P E channel start old (event, reply) new taken gone
    working before (on a) = record { on = works_on P E channel start old.lanes old.files (event, reply) new taken gone before a; missed = a.missed }
    working before (failing apart failed f) = record {
      on = fails_on P E channel start old.lanes old.files (event, reply) new taken gone before apart failed f;
      missed = f.missed ∙ missed_on channel (missed_of channel old.lanes) (event, reply) apart;
    }

    by : (w : Bool) → is_working old.mode ≡ w → OneStep P E channel start old (event, reply) new taken gone
    by true works =
        working (record { each = b.each works; behind = λ p. b.behind p works; erased = b.erased })
        (work_steps s channel old event reply new (known_of s channel old config sound is works) step)
    by false failed =
        let h = has_lane s channel old sound is in
        let f = failed_steps s channel old event reply new h.lane h.there h.its failed step in
        record { on = stays_on P E channel start old (event, reply) new taken gone b f; missed = f.waits.missed }

-- ---- runs

runs_on : (P E : Type 0) (s : Config) (channel start first : ℕ) → StepsStaySound → IsConfig s → is_some (spec_of s.channels channel) ≡ true → (before : List Exchange) (old : Machine) (events : List EventValue) (rs : List ReplyValue) (images : List Image) (new : Machine)
    → (taken gone : List Entry) → IsSound s old → missed_of channel old.lanes ≡ lost_since channel first before → Stands P E channel start old taken gone → Run s old events rs images new
    → StandsOn P E channel start new (taken ++ entries_behind channel first before (zip events rs)) gone
runs_on P E s channel start first law config is before old [] [] [] new taken gone sound missed b same = record {
  more = [];
  stands = subst (λ (m : Machine). Stands P E channel start m (taken ++ []) (gone ++ [])) (sym same)
      (subst (λ (g : List Entry). Stands P E channel start old (taken ++ []) g) (sym (append-nil gone)) (subst (λ (t : List Entry). Stands P E channel start old t gone) (sym (append-nil taken)) b));
}
runs_on P E s channel start first law config is before old (event ∷ events) (reply ∷ rs) (image ∷ images) new taken gone sound missed b (mid, step, says, rest) =
    let x : Exchange = (event, reply) in
    let one = one_step P E s channel start old event reply mid taken gone config sound is b step in
    let entry = entry_with channel (missed_of channel old.lanes) x in
    let next : missed_of channel mid.lanes ≡ lost_since channel first (before ++ x ∷ []) =
    one.missed ∙ ap (λ (m : ℕ). missed_behind channel m x) missed ∙ sym (lost_next channel first before x) in
    let all = runs_on P E s channel start first law config is (before ++ x ∷ []) mid events rs images new (taken ++ entry) (gone ++ one.on.more) (law s old event reply mid config sound step) next one.on.stands rest in
    let behind = entries_behind channel first (before ++ x ∷ []) (zip events rs) in
    let same : taken ++ entry ++ behind ≡ taken ++ (entry_with channel (lost_since channel first before) x ++ behind) =
    append_assoc taken entry behind ∙ ap (λ (lost : ℕ). taken ++ (entry_with channel lost x ++ behind)) missed in
    record {
      more = one.on.more ++ all.more;
      stands = subst (λ (t : List Entry). Stands P E channel start new t (gone ++ (one.on.more ++ all.more))) same
          (subst (λ (g : List Entry). Stands P E channel start new (taken ++ entry ++ behind) g) (append_assoc gone one.on.more all.more) all.stands);
    }
runs_on P E s channel start first law config is before old events rs images new taken gone sound missed b same = absurd same

-- ---- laws

-- a run keeps each
pub run_goes_over : StepsStaySound → (s : Config) (channel : ℕ) (old : Machine) (events : List EventValue) (rs : List ReplyValue) (images : List Image) (new : Machine) → IsConfig s → IsSound s old → is_some (spec_of s.channels channel) ≡ true
    → is_working old.mode ≡ true → is_working new.mode ≡ true → Run s old events rs images new → GoesOver channel old new (accepted_entries channel (missed_of channel old.lanes) events rs)
run_goes_over law s channel old events rs images new config sound is works ends run =
    let had = own_entries channel old.files ++ waiting_of channel old.lanes in
    let start = erased_of channel old.lanes in
    let stands : Stands ⊥ (start ≤ 2 ^ 64 - 1) channel start old had [] = record {
      each = λ works. refl;
      behind = λ p. absurd p;
      shown = λ p. absurd p;
      waits = (own_entries channel old.files, refl);
      erased = λ small. same_number start start (2 ^ 64 - 1) small refl;
    } in
    let all = runs_on ⊥ (start ≤ 2 ^ 64 - 1) s channel start (missed_of channel old.lanes) law config is [] old events rs images new had [] sound (none_before (lane_in channel old.lanes) refl) stands run in
    record { gone = all.more; each = all.stands.each ends; erased = all.stands.erased }
  where
    none_before : (o : Option Lane) → lane_in channel old.lanes ≡ o → missed_of channel old.lanes ≡ lost_since channel (missed_of channel old.lanes) []
    none_before None there = ap (λ (o : Option Lane). missed_in o) there ∙ sym (ap (λ (o : Option Lane). lost_since channel (missed_in o) []) there)
    none_before (Some lane) there =
        let small : lane.missed ≤ 2 ^ 64 - 1 = omega (arith, (lane_sound IsSoundLane channel old.lanes lane there sound.lanes).missed) in
        ap (λ (o : Option Lane). missed_in o) there ∙ at_first lane.missed (2 ^ 64 - 1) small ∙ sym (ap (λ (o : Option Lane). lost_since channel (missed_in o) []) there)

fresh_same : {X : Type 0} (channel : ℕ) (say : Option Lane → X) (none : X) → say None ≡ none → ((spec : ChannelSpec) → say (Some (fresh_lane spec)) ≡ none) → (specs : List ChannelSpec) → say (lane_in channel (map fresh_lane specs)) ≡ none
fresh_same channel say none at each [] = at
fresh_same channel say none at each (spec ∷ specs) = by (spec.id == channel) (fresh_same channel say none at each specs)
  where
    by : (b : Bool) → say (lane_in channel (map fresh_lane specs)) ≡ none → say (cond b (Some (fresh_lane spec)) (lane_in channel (map fresh_lane specs))) ≡ none
    by true rest = each spec
    by false rest = rest

pub recording_accounts : StepsStaySound → ((s : Config) (files : List File) (failures : ℕ) → AllByRecursion IsFoundFile files → length files ≤ most_files s → IsSound s (fresh s.channels files failures))
    → (s : Config) (channel : ℕ) (files : List File) (failures : ℕ) (events : List EventValue) (rs : List ReplyValue) (images : List Image) (new : Machine) → IsConfig s → AllByRecursion IsFoundFile files → length files ≤ most_files s
    → is_some (spec_of s.channels channel) ≡ true → Run s (fresh s.channels files failures) events rs images new → IsAccount channel new (accepted_entries channel 0 events rs)
recording_accounts law begins s channel files failures events rs images new config found most is run =
    let old = fresh s.channels files failures in
    let none = none_own files found in
    let own : own_entries channel files ≡ [] = ap (λ (fs : List File). on_channel channel (flat_map (λ (f : File). f.entries) fs)) none in
    let shown : shown_own channel files ≡ [] = ap (λ (fs : List File). on_channel channel (flat_map shown_entries fs)) none in
    let waiting : waiting_of channel old.lanes ≡ [] = fresh_same channel waiting_in [] refl (λ spec. refl) s.channels in
    let missed : missed_of channel old.lanes ≡ 0 = fresh_same channel missed_in 0 refl (λ spec. refl) s.channels in
    let erased : erased_of channel old.lanes ≡ 0 = fresh_same channel erased_in 0 refl (λ spec. refl) s.channels in
    let stands : Stands (Unit {0}) (Unit {0}) channel 0 old [] [] = record {
      each = λ works. ap (λ (l : List Entry). l ++ waiting_of channel old.lanes) own ∙ waiting;
      behind = λ p works. none_behind files none;
      shown = λ p. ([], ap (λ (l : List Entry). l ++ []) shown);
      waits = ([], waiting);
      erased = λ p. erased;
    } in
    let all = runs_on (Unit {0}) (Unit {0}) s channel 0 0 law config is [] old events rs images new [] [] (begins s files failures found most) (missed ∙ none_before) stands run in
    record {
      gone = all.more;
      each = all.stands.each;
      shown = all.stands.shown tt;
      waits = all.stands.waits;
      erased = all.stands.erased tt ∙ number (length all.more);
    }
  where
    none_before : 0 ≡ lost_since channel 0 []
    none_before = refl

    number : (n : ℕ) → saturated (0 + n) ≡ saturated n
    number n = let same : 0 + n ≡ n = omega arith in ap saturated same
