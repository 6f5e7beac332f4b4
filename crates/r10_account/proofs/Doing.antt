-- What calls that are neither refused nor fail do to the account of a channel.
use Rattle.std.proofs.Common.{◌≡◌, ◌≤◌, ℕ, ◌+◌, Bool, true, false, not, cond, List, [], ◌∷◌, ◌++◌, map, take, drop, length, count_by, Option, Some, None, option_map, refl, sym, ap, ◌∙◌, subst, arith, slice_get, ◌==◌, nat_lt}
use Rattle.std.specs.List.{IsDistinct, last_or}
use Rattle.std.proofs.lemmas.Bool.{eqb-true}
use Rattle.std.proofs.lemmas.List.{append-nil, take-append-drop, take_all, take-map, drop-map, map-append, length-map}
use Rattle.r10_machine.specs.Checks.{first_broken, is_recording, is_sealed, idle_checks, recording_checks, channel_checks, begin_checks, is_taken}
use Rattle.r10_body.specs.Files.{on_channel}
use Rattle.r10_body.specs.Gaps.{gap_after}
use Rattle.r10_body.specs.Rules.{is_entry_on}
use Rattle.r10_body.specs.declared.entry.Entry.{Entry}
use Rattle.r10_body.specs.declared.entry.Sample.{Sample}
use Rattle.r10_body.specs.declared.message.Message.{Message}
use Rattle.r10_machine.specs.declared.mode.Mode.{Mode}
use Rattle.r10_machine.specs.Config.{Config}
use Rattle.r10_machine.specs.Machine.{Machine, Lane, File, lane_in, lane_of, last_size, with_entries, change_first, change_last, is_channel, entry_of, waiting_entries, saturated, cursor_of}
use Rattle.r10_machine.specs.Calls.{accepted, losing, overflowed, without, time_entry, empty_file, shown_whole, closed_whole, all_waiting, lanes_without, TicksIn}
use Rattle.r10_machine.specs.ControlCalls.{own_entries, event_entry, closed_in, erased_with}
use Rattle.r10_machine.specs.declared.event.Event.{Event as EventValue}
use Rattle.r10_machine.specs.declared.event.Event.TheVariants.{Mount, Dismount, Tick, Start, Offer, Lose, Pump, Event, Commit, Stop, Seal, Erase, Files, Status, Cursor, Advance, Next, Close, Find, CountAt}
use Rattle.r10_machine.specs.declared.reply.Reply.{Reply as ReplyValue}
use Rattle.r10_machine.specs.declared.reply.Reply.TheVariants as replies
use Rattle.r10_machine.specs.EventChecks.{refusal, start_checks, event_checks, file_checks, most_files}
use Rattle.r10_machine.specs.Step.{Does}
use Rattle.r10_body.specs.declared.refusal.Refusal.TheVariants.{NameTaken, Overflow, Unsealed, DirectoryFull}
use Rattle.r10_machine.proofs.Steady.{records_of, same_specs, none_broken, rules_parts}
use Rattle.r10_machine.proofs.Taking.{on_its_own, on_another, lane_has, taken_on}
use Rattle.r10_account.specs.Accepted.{Exchange, entry_with, was_accepted}
use Rattle.r10_account.specs.Account.{waiting_in, waiting_of, missed_in, missed_of, erased_in, erased_of}
use Rattle.r10_account.proofs.Accounting.{StepAccounts, WaitsMore, IsApart, is_loss, missed_behind, waits_accounts, same_waits, missed_on, shifts, files_change}
use Rattle.r10_account.proofs.Files.{AllBehind, own_more, own_kept, own_appended, behind_kept, behind_appended}
use Rattle.r10_account.proofs.Lanes.{lane_changed, lane_stays, lane_mapped, mapped_specs}
use Rattle.r10_machine.proofs.Entering.{nowhere_else}
use Rattle.r10_machine.proofs.Keeping.{some_then}

-- what is known of a recorder that works, of a channel and of its lane
pub record Known (s : Config) (channel : ℕ) (mode : Mode) (lanes : List Lane) (files : List File) : Type 0 where
  pub lane : Lane
  pub there : lane_in channel lanes ≡ Some lane
  pub its : lane.spec.id ≡ channel
  pub held : length lane.waiting ≤ lane.spec.capacity
  pub time : (s.time == channel) ≡ false
  pub event : (s.event == channel) ≡ false
  pub distinct : IsDistinct (λ a b. a == b) (map (λ l. l.spec.id) lanes)
  pub open_file : is_recording mode ≡ true → (f : File) × (last_or None files ≡ Some f) × (f.own ≡ true)
  pub closed_shows : (f : File) → last_or None files ≡ Some f → f.own ≡ true → f.closed ≡ true → f.shown ≡ length f.entries

-- ---- offers

-- the entry that an offer makes
offered : (channel id count : ℕ) (message : Message) (lanes : List Lane) (lane : Lane) → lane_in channel lanes ≡ Some lane → lane.spec.id ≡ channel → (b : Bool) → (id == channel) ≡ b
    → waiting_of channel (change_first (is_channel id) (accepted count message) lanes) ≡ waiting_of channel lanes ++ cond b (record { channel = channel; count = count; message = message; gap = gap_after (missed_of channel lanes) } ∷ []) []
offered channel id count message lanes lane there its true is =
    let sample : Sample = record { count = count; message = message; gap = gap_after lane.missed } in
    ap waiting_in (lane_changed channel id (accepted count message) (λ lane. refl) lanes is ∙ ap (option_map (accepted count message)) there)
    ∙ map-append (entry_of lane.spec.id) lane.waiting (sample ∷ [])
    ∙ ap (λ (c : ℕ). waiting_entries lane ++ record { channel = c; count = count; message = message; gap = gap_after lane.missed } ∷ []) its
    ∙ sym (ap (λ (o : Option Lane). waiting_in o ++ record { channel = channel; count = count; message = message; gap = gap_after (missed_in o) } ∷ []) there)
offered channel id count message lanes lane there its false other =
    ap waiting_in (lane_stays channel id (accepted count message) (λ lane. refl) lanes other) ∙ sym (append-nil (waiting_of channel lanes))

offer_missed : (channel id count : ℕ) (message : Message) (lanes : List Lane) (lane : Lane) → lane_in channel lanes ≡ Some lane → (b : Bool) → (id == channel) ≡ b
    → missed_of channel (change_first (is_channel id) (accepted count message) lanes) ≡ cond b 0 (missed_of channel lanes)
offer_missed channel id count message lanes lane there true is = ap missed_in (lane_changed channel id (accepted count message) (λ lane. refl) lanes is ∙ ap (option_map (accepted count message)) there)
offer_missed channel id count message lanes lane there false other = ap missed_in (lane_stays channel id (accepted count message) (λ lane. refl) lanes other)

offer_erased : (channel id count : ℕ) (message : Message) (lanes : List Lane) (b : Bool) → (id == channel) ≡ b
    → erased_of channel (change_first (is_channel id) (accepted count message) lanes) ≡ erased_of channel lanes
offer_erased channel id count message lanes true is = ap erased_in (lane_changed channel id (accepted count message) (λ lane. refl) lanes is) ∙ kept (lane_in channel lanes)
  where
    kept : (o : Option Lane) → erased_in (option_map (accepted count message) o) ≡ erased_in o
    kept None = refl
    kept (Some lane) = refl
offer_erased channel id count message lanes false other = ap erased_in (lane_stays channel id (accepted count message) (λ lane. refl) lanes other)

pub offer_waits : (channel id count : ℕ) (message : Message) (lanes : List Lane) (files : List File) (lane : Lane) → lane_in channel lanes ≡ Some lane → lane.spec.id ≡ channel
    → WaitsMore channel lanes files (Offer id count message, replies.Done) (change_first (is_channel id) (accepted count message) lanes) files
offer_waits channel id count message lanes files lane there its = record {
  files_stay = refl;
  waits = offered channel id count message lanes lane there its (id == channel) refl;
  missed = offer_missed channel id count message lanes lane there (id == channel) refl;
  erased = offer_erased channel id count message lanes (id == channel) refl;
  specs = same_specs (is_channel id) (accepted count message) (λ lane. refl) lanes;
}

pub waits_at : (channel : ℕ) (lanes : List Lane) (files : List File) (x : Exchange) (later later' : List Lane) (news news' : List File) → later' ≡ later → news' ≡ news → WaitsMore channel lanes files x later news → WaitsMore channel lanes files x later' news'
waits_at channel lanes files x later later' news news' same stay more =
    subst (λ (fs : List File). WaitsMore channel lanes files x later' fs) (sym stay) (subst (λ (ls : List Lane). WaitsMore channel lanes files x ls news) (sym same) more)

accounts_at : (channel : ℕ) (lanes : List Lane) (files : List File) (x : Exchange) (later later' : List Lane) (news news' : List File) → later' ≡ later → news' ≡ news → StepAccounts channel lanes files x later news → StepAccounts channel lanes files x later' news'
accounts_at channel lanes files x later later' news news' same stay more =
    subst (λ (fs : List File). StepAccounts channel lanes files x later' fs) (sym stay) (subst (λ (ls : List Lane). StepAccounts channel lanes files x ls news) (sym same) more)

-- ---- losses

-- a lane that lost so many messages
lost_missed : (channel id n : ℕ) (lanes : List Lane) (lane : Lane) → lane_in channel lanes ≡ Some lane → (b : Bool) → (id == channel) ≡ b
    → missed_of channel (change_first (is_channel id) (losing n) lanes) ≡ cond b (saturated (missed_of channel lanes + cond b n 0)) (missed_of channel lanes)
lost_missed channel id n lanes lane there true is =
    ap missed_in (lane_changed channel id (losing n) (λ lane. refl) lanes is ∙ ap (option_map (losing n)) there) ∙ sym (ap (λ (o : Option Lane). saturated (missed_in o + n)) there)
lost_missed channel id n lanes lane there false other = ap missed_in (lane_stays channel id (losing n) (λ lane. refl) lanes other)

-- what the lane says but for what was missed
lost_same : {X : Type 0} (channel id n : ℕ) (lanes : List Lane) (say : Option Lane → X) → ((o : Option Lane) → say (option_map (losing n) o) ≡ say o) → (b : Bool) → (id == channel) ≡ b
    → say (lane_in channel (change_first (is_channel id) (losing n) lanes)) ≡ say (lane_in channel lanes)
lost_same channel id n lanes say same true is = ap say (lane_changed channel id (losing n) (λ lane. refl) lanes is) ∙ same (lane_in channel lanes)
lost_same channel id n lanes say same false other = ap say (lane_stays channel id (losing n) (λ lane. refl) lanes other)

-- an exchange that makes no entry and loses so many, on whatever channel
loss_waits : (channel id n : ℕ) (lanes : List Lane) (files : List File) (lane : Lane) → lane_in channel lanes ≡ Some lane → (x : Exchange) → entry_with channel (missed_of channel lanes) x ≡ []
    → missed_behind channel (missed_of channel lanes) x ≡ cond (id == channel) (saturated (missed_of channel lanes + cond (id == channel) n 0)) (missed_of channel lanes)
    → WaitsMore channel lanes files x (change_first (is_channel id) (losing n) lanes) files
loss_waits channel id n lanes files lane there x makes behind = record {
  files_stay = refl;
  waits = lost_same channel id n lanes waiting_in waiting (id == channel) refl ∙ sym (ap (λ (l : List Entry). waiting_of channel lanes ++ l) makes ∙ append-nil (waiting_of channel lanes));
  missed = lost_missed channel id n lanes lane there (id == channel) refl ∙ sym behind;
  erased = lost_same channel id n lanes erased_in erased (id == channel) refl;
  specs = same_specs (is_channel id) (losing n) (λ lane. refl) lanes;
}
  where
    waiting : (o : Option Lane) → waiting_in (option_map (losing n) o) ≡ waiting_in o
    waiting None = refl
    waiting (Some lane) = refl

    erased : (o : Option Lane) → erased_in (option_map (losing n) o) ≡ erased_in o
    erased None = refl
    erased (Some lane) = refl

-- an overflow loses one
pub overflow_waits : (channel id count : ℕ) (message : Message) (lanes : List Lane) (files : List File) (lane : Lane) → lane_in channel lanes ≡ Some lane
    → WaitsMore channel lanes files (Offer id count message, replies.Refused Overflow) (change_first (is_channel id) overflowed lanes) files
overflow_waits channel id count message lanes files lane there = loss_waits channel id 1 lanes files lane there (Offer id count message, replies.Refused Overflow) refl refl

-- and a loss as many as it tells
pub told_waits : (channel id lost : ℕ) (lanes : List Lane) (files : List File) (lane : Lane) → lane_in channel lanes ≡ Some lane
    → WaitsMore channel lanes files (Lose id lost, replies.Done) (change_first (is_channel id) (losing lost) lanes) files
told_waits channel id lost lanes files lane there = loss_waits channel id lost lanes files lane there (Lose id lost, replies.Done) refl refl

-- ---- what goes into the open file

puts_apart : (s : Config) (channel : ℕ) (mode : Mode) (lanes : List Lane) (files : List File) (x : Exchange) (e : Entry) (later : List Lane) (news : List File) → Known s channel mode lanes files → IsApart channel x → (e.channel == channel) ≡ false
    → is_recording mode ≡ true → later ≡ lanes → news ≡ change_last (with_entries (e ∷ [])) files → StepAccounts channel lanes files x later news
puts_apart s channel mode lanes files x e later news known apart differ rec same is =
    let o = known.open_file rec in
    files_change channel lanes files x later news apart
    (ap (own_entries channel) is ∙ own_more channel (with_entries (e ∷ [])) (e ∷ []) (λ f. (refl, refl)) files o.0 o.1 o.2
    ∙ ap (λ (l : List Entry). own_entries channel files ++ l) (nowhere_else channel e differ) ∙ append-nil (own_entries channel files)) same
    (λ all. subst AllBehind (sym is) (behind_kept (with_entries (e ∷ [])) files all))

-- ---- pumps

-- what the lane of the channel gives
record LaneGives (channel : ℕ) (lanes later : List Lane) (es : List Entry) : Type 0 where
  moved : List Entry
  on : on_channel channel es ≡ moved
  waits : moved ++ waiting_of channel later ≡ waiting_of channel lanes
  missed : missed_of channel later ≡ missed_of channel lanes
  erased : erased_of channel later ≡ erased_of channel lanes

pub front_moves : (id n : ℕ) (xs : List Sample) → take n (map (entry_of id) xs) ++ map (entry_of id) (drop n xs) ≡ map (entry_of id) xs
front_moves id n xs = ap (λ (l : List Entry). take n (map (entry_of id) xs) ++ l) (sym (drop-map (entry_of id) n xs)) ∙ take-append-drop n (map (entry_of id) xs)

front_on : (id n : ℕ) (xs : List Sample) → on_channel id (take n (map (entry_of id) xs)) ≡ take n (map (entry_of id) xs)
front_on id n xs = ap (on_channel id) (take-map (entry_of id) n xs) ∙ on_its_own id (take n xs) ∙ sym (take-map (entry_of id) n xs)

lane_gives : (channel id n : ℕ) (lanes : List Lane) (lane : Lane) → lane_in id lanes ≡ Some lane → (b : Bool) → (id == channel) ≡ b → LaneGives channel lanes (change_first (is_channel id) (without n) lanes) (take n (waiting_entries lane))
lane_gives channel id n lanes lane there true is =
    let here : id ≡ channel = eqb-true id channel is in
    let its : lane.spec.id ≡ channel = lane_has id lanes lane there ∙ here in
    let at : lane_in channel lanes ≡ Some lane = subst (λ (c : ℕ). lane_in c lanes ≡ Some lane) here there in
    let later : lane_in channel (change_first (is_channel id) (without n) lanes) ≡ Some (without n lane) = lane_changed channel id (without n) (λ lane. refl) lanes is ∙ ap (option_map (without n)) at in
    record {
      moved = take n (waiting_entries lane);
      on = subst (λ (c : ℕ). on_channel c (take n (waiting_entries lane)) ≡ take n (waiting_entries lane)) its (front_on lane.spec.id n lane.waiting);
      waits = ap (λ (o : Option Lane). take n (waiting_entries lane) ++ waiting_in o) later ∙ front_moves lane.spec.id n lane.waiting ∙ sym (ap waiting_in at);
      missed = ap missed_in later ∙ sym (ap missed_in at);
      erased = ap erased_in later ∙ sym (ap erased_in at);
    }
lane_gives channel id n lanes lane there false other =
    let differ : (lane.spec.id == channel) ≡ false = ap (λ (c : ℕ). c == channel) (lane_has id lanes lane there) ∙ other in
    let later : lane_in channel (change_first (is_channel id) (without n) lanes) ≡ lane_in channel lanes = lane_stays channel id (without n) (λ lane. refl) lanes other in
    record {
      moved = [];
      on = ap (on_channel channel) (take-map (entry_of lane.spec.id) n lane.waiting) ∙ on_another channel lane.spec.id differ (take n lane.waiting);
      waits = ap waiting_in later;
      missed = ap missed_in later;
      erased = ap erased_in later;
    }

-- ---- stops

stop_gives : (s : Config) (channel : ℕ) (mode : Mode) (lanes : List Lane) (files : List File) (n : ℕ) → Known s channel mode lanes files → LaneGives channel lanes (lanes_without (take n (all_waiting lanes)) lanes) (take n (all_waiting lanes))
stop_gives s channel mode lanes files n known =
    let lane = known.lane in
    let es = take n (all_waiting lanes) in
    let change : Lane → Lane = λ lane. without (count_by (is_entry_on lane.spec.id) es) lane in
    let k = count_by (is_entry_on channel) es in
    let long : length (waiting_entries lane) ≤ lane.spec.capacity = omega (arith, known.held, length-map lane.waiting (entry_of lane.spec.id)) in
    let later : lane_in channel (lanes_without es lanes) ≡ Some (without k lane) =
    lane_mapped channel change (λ lane. refl) lanes ∙ ap (option_map change) known.there ∙ ap (λ (c : ℕ). Some (without (count_by (is_entry_on c) es) lane)) known.its in
    record {
      moved = take k (waiting_entries lane);
      on = taken_on lanes n channel lane known.distinct known.there ∙ ap (take k) (take_all lane.spec.capacity (waiting_entries lane) long);
      waits = ap (λ (o : Option Lane). take k (waiting_entries lane) ++ waiting_in o) later ∙ front_moves lane.spec.id k lane.waiting ∙ sym (ap waiting_in known.there);
      missed = ap missed_in later ∙ sym (ap missed_in known.there);
      erased = ap erased_in later ∙ sym (ap erased_in known.there);
    }

-- ---- erases

erase_accounts : (s : Config) (channel : ℕ) (mode : Mode) (lanes : List Lane) (files : List File) (x : Exchange) → Known s channel mode lanes files → IsApart channel x → StepAccounts channel lanes files x (map (erased_with files) lanes) []
erase_accounts s channel mode lanes files x known apart =
    let lane = known.lane in
    let later : lane_in channel (map (erased_with files) lanes) ≡ Some (erased_with files lane) = lane_mapped channel (erased_with files) (λ lane. refl) lanes ∙ ap (option_map (erased_with files)) known.there in
    record {
      gone = own_entries channel files;
      each = ap (λ (l : List Entry). l ++ waiting_of channel (map (erased_with files) lanes)) (append-nil (own_entries channel files))
          ∙ ap (λ (l : List Entry). own_entries channel files ++ l) (ap waiting_in later ∙ sym (ap waiting_in known.there))
          ∙ sym (ap (λ (l : List Entry). own_entries channel files ++ waiting_of channel lanes ++ l) (apart.makes_none (missed_of channel lanes)) ∙ append-nil (own_entries channel files ++ waiting_of channel lanes));
      missed = ap missed_in later ∙ sym (ap missed_in known.there) ∙ missed_on channel (missed_of channel lanes) x apart;
      erased = λ small. ap erased_in later ∙ ap (λ (c : ℕ). saturated (lane.erased + length (own_entries c files))) known.its ∙ sym (ap (λ (o : Option Lane). saturated (erased_in o + length (own_entries channel files))) known.there);
      specs = mapped_specs (erased_with files) (λ lane. refl) lanes;
      behind = λ all. tt;
    }

-- ---- starts

is_closed : (s : Config) (m : Machine) (name setup : List ℕ) → first_broken (start_checks s m name setup) ≡ None → is_sealed m.files ≡ true
is_closed s m name setup fine =
    let a = rules_parts (begin_checks (elim m.tick [ None ↦ false | Some t ↦ true ]) name setup) (file_checks s m.files name) fine in
    let full = (nat_lt (length m.files) (most_files s), DirectoryFull) ∷ [] in
    let b = none_broken (not (is_taken name m.files)) NameTaken ((is_sealed m.files, Unsealed) ∷ full) a.1 in
    (none_broken (is_sealed m.files) Unsealed full b.1).0

last_closed : (files : List File) (f : File) → last_or None files ≡ Some f → is_sealed files ≡ true → f.closed ≡ true
last_closed files f is sealed = subst (λ (o : Option File). elim o as (λ o. Bool) [ None ↦ true | Some f ↦ f.closed ] ≡ true) is sealed

-- ---- all

quiet : (channel : ℕ) (old : Machine) (x : Exchange) (new : Machine) → IsApart channel x → new.lanes ≡ old.lanes → new.files ≡ old.files → StepAccounts channel old.lanes old.files x new.lanes new.files
quiet channel old x new apart lanes files = waits_accounts channel old.lanes old.files x new.lanes new.files (same_waits channel old.lanes old.files x new.lanes new.files apart lanes files)

pub unchanged : (channel : ℕ) (old : Machine) (x : Exchange) (new : Machine) → IsApart channel x → new ≡ old → StepAccounts channel old.lanes old.files x new.lanes new.files
unchanged channel old x new apart is = quiet channel old x new apart (ap (λ (m : Machine). m.lanes) is) (ap (λ (m : Machine). m.files) is)

abbrev apart_is : {channel : ℕ} {x : Exchange} → ((lost : ℕ) → entry_with channel lost x ≡ []) → was_accepted channel x ≡ false → is_loss channel x ≡ false → IsApart channel x
apart_is makes accepts loses = record { makes_none = makes; accepts_none = accepts; loses_none = loses }

pub does_accounts : (s : Config) (channel : ℕ) (old : Machine) (event : EventValue) (reply : ReplyValue) (new : Machine) → Known s channel old.mode old.lanes old.files → refusal s old event ≡ None → Does s old event reply new
    → StepAccounts channel old.lanes old.files (event, reply) new.lanes new.files
does_accounts s channel old Mount replies.Done new known fine is = quiet channel old (Mount, replies.Done) new (apart_is (λ lost. refl) refl refl) (ap (λ (m : Machine). m.lanes) is) (ap (λ (m : Machine). m.files) is)
does_accounts s channel old Dismount replies.Done new known fine is = quiet channel old (Dismount, replies.Done) new (apart_is (λ lost. refl) refl refl) (ap (λ (m : Machine). m.lanes) is) (ap (λ (m : Machine). m.files) is)
does_accounts s channel old (Tick count parts) replies.Done new known fine does = by (is_recording old.mode) refl does
  where
    by : (b : Bool) → is_recording old.mode ≡ b → TicksIn b s old (record { count = count; civil = parts }) new → StepAccounts channel old.lanes old.files (Tick count parts, replies.Done) new.lanes new.files
    by false rec is = quiet channel old (Tick count parts, replies.Done) new (apart_is (λ lost. refl) refl refl) (ap (λ (m : Machine). m.lanes) is) (ap (λ (m : Machine). m.files) is)
    by true rec (room, is) =
        puts_apart s channel old.mode old.lanes old.files (Tick count parts, replies.Done) (time_entry s (record { count = count; civil = parts })) new.lanes new.files known (apart_is (λ lost. refl) refl refl) known.time rec
        (ap (λ (m : Machine). m.lanes) is) (ap (λ (m : Machine). m.files) is)
does_accounts s channel old (Start name setup) replies.Done new known fine does =
    let sealed = is_closed s old name setup (rules_parts (idle_checks old.mode) (start_checks s old name setup) fine).1 in
    some_then (StepAccounts channel old.lanes old.files (Start name setup, replies.Done) new.lanes new.files) old.tick _ does (λ tick is_tick made.
    let e = time_entry s tick in
    let g : File = shown_whole (last_size new) (with_entries (e ∷ []) (empty_file s old.files name setup)) in
    let files : new.files ≡ old.files ++ g ∷ [] = ap (λ (m : Machine). m.files) made.1 in
    files_change channel old.lanes old.files (Start name setup, replies.Done) new.lanes new.files (apart_is (λ lost. refl) refl refl)
    (ap (own_entries channel) files ∙ own_appended channel old.files g refl ∙ ap (λ (l : List Entry). own_entries channel old.files ++ l) (nowhere_else channel e known.time) ∙ append-nil (own_entries channel old.files))
    (ap (λ (m : Machine). m.lanes) made.1)
    (λ all. subst AllBehind (sym files) (behind_appended old.files g (λ f last own. known.closed_shows f last own (last_closed old.files f last sealed)) all)))
does_accounts s channel old (Offer id count message) replies.Done new known fine is =
    waits_accounts channel old.lanes old.files (Offer id count message, replies.Done) new.lanes new.files
    (waits_at channel old.lanes old.files (Offer id count message, replies.Done) (change_first (is_channel id) (accepted count message) old.lanes) new.lanes old.files new.files
    (ap (λ (m : Machine). m.lanes) is) (ap (λ (m : Machine). m.files) is) (offer_waits channel id count message old.lanes old.files known.lane known.there known.its))
does_accounts s channel old (Lose id lost) replies.Done new known fine is =
    waits_accounts channel old.lanes old.files (Lose id lost, replies.Done) new.lanes new.files
    (waits_at channel old.lanes old.files (Lose id lost, replies.Done) (change_first (is_channel id) (losing lost) old.lanes) new.lanes old.files new.files
    (ap (λ (m : Machine). m.lanes) is) (ap (λ (m : Machine). m.files) is) (told_waits channel id lost old.lanes old.files known.lane known.there))
does_accounts s channel old (Pump id most) (replies.Moved n) new known fine does =
    let o = known.open_file (records_of old.mode (rules_parts (recording_checks old.mode) (channel_checks (lane_of id old)) fine).0) in
    some_then (StepAccounts channel old.lanes old.files (Pump id most, replies.Moved n) new.lanes new.files) (lane_of id old) _ does (λ lane is_lane pumps.
    some_then (StepAccounts channel old.lanes old.files (Pump id most, replies.Moved n) new.lanes new.files) (last_or None old.files) _ pumps (λ f last made.
    let es = take n (waiting_entries lane) in
    let g = lane_gives channel id n old.lanes lane is_lane (id == channel) refl in
    accounts_at channel old.lanes old.files (Pump id most, replies.Moved n) (change_first (is_channel id) (without n) old.lanes) new.lanes (change_last (with_entries es) old.files) new.files
    (ap (λ (m : Machine). m.lanes) made.2) (ap (λ (m : Machine). m.files) made.2)
    (shifts channel old.lanes old.files (Pump id most, replies.Moved n) (change_first (is_channel id) (without n) old.lanes) (change_last (with_entries es) old.files) g.moved (apart_is (λ lost. refl) refl refl)
    (own_more channel (with_entries es) es (λ f. (refl, refl)) old.files o.0 o.1 o.2 ∙ ap (λ (l : List Entry). own_entries channel old.files ++ l) g.on)
    g.waits g.missed g.erased (same_specs (is_channel id) (without n) (λ lane. refl) old.lanes) (behind_kept (with_entries es) old.files))))
does_accounts s channel old (Event number count) replies.Done new known fine does =
    let rec = records_of old.mode (rules_parts (recording_checks old.mode) (event_checks old.last_event number count) fine).0 in
    some_then (StepAccounts channel old.lanes old.files (Event number count, replies.Done) new.lanes new.files) (last_or None old.files) _ does (λ f last made.
    puts_apart s channel old.mode old.lanes old.files (Event number count, replies.Done) (event_entry s number count f) new.lanes new.files known (apart_is (λ lost. refl) refl refl) known.event rec
    (ap (λ (m : Machine). m.lanes) made.1) (ap (λ (m : Machine). m.files) made.1))
does_accounts s channel old Commit replies.Done new known fine is =
    let files : new.files ≡ change_last (shown_whole (last_size new)) old.files = ap (λ (m : Machine). m.files) is in
    files_change channel old.lanes old.files (Commit, replies.Done) new.lanes new.files (apart_is (λ lost. refl) refl refl)
    (ap (own_entries channel) files ∙ own_kept channel (shown_whole (last_size new)) (λ f. (refl, refl)) old.files) (ap (λ (m : Machine). m.lanes) is)
    (λ all. subst AllBehind (sym files) (behind_kept (shown_whole (last_size new)) old.files all))
does_accounts s channel old Stop (replies.Stopped stopped) new known fine does =
    let o = known.open_file (records_of old.mode fine) in
    some_then (StepAccounts channel old.lanes old.files (Stop, replies.Stopped stopped) new.lanes new.files) (last_or None old.files) _ does (λ f last made.
    let es = take stopped.taken (all_waiting old.lanes) in
    let change : File → File = λ f. closed_whole (last_size new) (with_entries es f) in
    let g = stop_gives s channel old.mode old.lanes old.files stopped.taken known in
    accounts_at channel old.lanes old.files (Stop, replies.Stopped stopped) (lanes_without es old.lanes) new.lanes (change_last change old.files) new.files
    (ap (λ (m : Machine). m.lanes) made.2) (ap (λ (m : Machine). m.files) made.2)
    (shifts channel old.lanes old.files (Stop, replies.Stopped stopped) (lanes_without es old.lanes) (change_last change old.files) g.moved (apart_is (λ lost. refl) refl refl)
    (own_more channel change es (λ f. (refl, refl)) old.files o.0 o.1 o.2 ∙ ap (λ (l : List Entry). own_entries channel old.files ++ l) g.on)
    g.waits g.missed g.erased (mapped_specs (λ lane. without (count_by (is_entry_on lane.spec.id) es) lane) (λ lane. refl) old.lanes) (behind_kept change old.files)))
does_accounts s channel old Seal replies.Done new known fine does =
    some_then (StepAccounts channel old.lanes old.files (Seal, replies.Done) new.lanes new.files) (last_or None old.files) _ does (λ f last made.
    let files : new.files ≡ change_last (closed_in (last_size new)) old.files = ap (λ (m : Machine). m.files) made.1 in
    files_change channel old.lanes old.files (Seal, replies.Done) new.lanes new.files (apart_is (λ lost. refl) refl refl)
    (ap (own_entries channel) files ∙ own_kept channel (closed_in (last_size new)) (λ f. (refl, refl)) old.files) (ap (λ (m : Machine). m.lanes) made.1)
    (λ all. subst AllBehind (sym files) (behind_kept (closed_in (last_size new)) old.files all)))
does_accounts s channel old Erase replies.Done new known fine is =
    accounts_at channel old.lanes old.files (Erase, replies.Done) (map (erased_with old.files) old.lanes) new.lanes [] new.files (ap (λ (m : Machine). m.lanes) is) (ap (λ (m : Machine). m.files) is)
    (erase_accounts s channel old.mode old.lanes old.files (Erase, replies.Done) known (apart_is (λ lost. refl) refl refl))
does_accounts s channel old Files (replies.Files files) new known fine (reported, is) = unchanged channel old (Files, replies.Files files) new (apart_is (λ lost. refl) refl refl) is
does_accounts s channel old Status (replies.Status status) new known fine (reported, is) = unchanged channel old (Status, replies.Status status) new (apart_is (λ lost. refl) refl refl) is
does_accounts s channel old (Cursor file channels from to) (replies.Cursor id) new known fine (free, sets) =
    quiet channel old (Cursor file channels from to, replies.Cursor id) new (apart_is (λ lost. refl) refl refl) (ap (λ (m : Machine). m.lanes) sets.1) (ap (λ (m : Machine). m.files) sets.1)
does_accounts s channel old (Advance id) (replies.Advanced n) new known fine does =
    some_then (StepAccounts channel old.lanes old.files (Advance id, replies.Advanced n) new.lanes new.files) (cursor_of id old) _ does (λ c is_c moves.
    some_then (StepAccounts channel old.lanes old.files (Advance id, replies.Advanced n) new.lanes new.files) (slice_get old.files c.file) _ moves (λ f is_f made.
    quiet channel old (Advance id, replies.Advanced n) new (apart_is (λ lost. refl) refl refl) (ap (λ (m : Machine). m.lanes) made.3.1) (ap (λ (m : Machine). m.files) made.3.1)))
does_accounts s channel old (Next id) (replies.Next given) new known fine does =
    some_then (StepAccounts channel old.lanes old.files (Next id, replies.Next given) new.lanes new.files) (cursor_of id old) _ does (λ c is_c made.
    quiet channel old (Next id, replies.Next given) new (apart_is (λ lost. refl) refl refl) (ap (λ (m : Machine). m.lanes) made.1.1) (ap (λ (m : Machine). m.files) made.1.1))
does_accounts s channel old (Close id) replies.Done new known fine sets =
    quiet channel old (Close id, replies.Done) new (apart_is (λ lost. refl) refl refl) (ap (λ (m : Machine). m.lanes) sets.1) (ap (λ (m : Machine). m.files) sets.1)
does_accounts s channel old (Find file id count) (replies.Found answer) new known fine (reported, is) = unchanged channel old (Find file id count, replies.Found answer) new (apart_is (λ lost. refl) refl refl) is
does_accounts s channel old (CountAt file parts) (replies.CountAt answer) new known fine (reported, is) = unchanged channel old (CountAt file parts, replies.CountAt answer) new (apart_is (λ lost. refl) refl refl) is
does_accounts s channel old event reply new known fine does = absurd does
