-- What a step does to the account of a channel.
use Rattle.std.proofs.Common.{◌≡◌, ◌≤◌, ℕ, ◌+◌, ◌-◌, ◌^◌, ◌⊎◌, inl, inr, Bool, true, false, not, cond, List, [], ◌∷◌, ◌++◌, take, length, Option, Some, None, is_none, refl, sym, ap, ◌∙◌, subst, true≢false}
use Rattle.std.specs.List.{AllByRecursion}
use Rattle.std.proofs.lemmas.List.{append_assoc, append-nil}
use Rattle.r10_machine.specs.Checks.{first_broken, Check, is_working, is_full, offer_checks, room_checks}
use Rattle.r10_body.specs.declared.entry.Entry.{Entry}
use Rattle.r10_body.specs.declared.message.Message.{Message}
use Rattle.r10_body.specs.declared.refusal.Refusal.{Refusal}
use Rattle.r10_body.specs.declared.refusal.Refusal.TheVariants as refusals
use Rattle.r10_machine.specs.declared.mode.Mode.{Mode}
use Rattle.r10_machine.specs.Config.{Config}
use Rattle.r10_machine.specs.Machine.{Machine, Lane, File, lane_in, lane_of, with_lane, change_first, is_channel, waiting_entries, saturated, cursor_of}
use Rattle.r10_machine.specs.Calls.{accepted, losing, overflowed}
use Rattle.r10_machine.specs.ControlCalls.{own_entries}
use Rattle.r10_machine.specs.declared.event.Event.{Event as EventValue}
use Rattle.r10_machine.specs.declared.event.Event.TheVariants.{Offer, Lose, Status, Next, Close}
use Rattle.r10_machine.specs.declared.reply.Reply.{Reply as ReplyValue}
use Rattle.r10_machine.specs.declared.reply.Reply.TheVariants as replies
use Rattle.r10_machine.specs.EventChecks.{refusal}
use Rattle.r10_machine.specs.Step.{Does, Step, Replies, Refuses, GivesUp, FailsIn, after_refusal, uses_medium}
use Rattle.r10_account.specs.Accepted.{Exchange, entry_with, was_accepted}
use Rattle.r10_account.specs.Account.{waiting_in, waiting_of, missed_in, missed_of, erased_in, erased_of, shown_own}
use Rattle.r10_account.proofs.Accounting.{StepAccounts, WaitsMore, IsApart, is_loss, same_waits, waits_accounts}
use Rattle.r10_account.proofs.Doing.{Known, does_accounts, front_moves, offer_waits, overflow_waits, told_waits, waits_at, unchanged}
use Rattle.r10_account.proofs.Files.{AllBehind, shown_front, shown_same}
use Rattle.r10_account.proofs.Lanes.{lost_front}
use Rattle.std.proofs.lemmas.Option.{same_Some}
use Rattle.r10_machine.proofs.Keeping.{some_then}
use Rattle.r10_machine.proofs.Steady.{none_broken, rules_pass, rules_stop}

-- ---- exchanges apart

abbrev is_overflow : Refusal → Bool
is_overflow r = elim r [ refusals.Overflow ↦ true | _ ↦ false ]

-- what is refused otherwise loses nothing
refused_apart : (channel : ℕ) (event : EventValue) (r : Refusal) → is_overflow r ≡ false → IsApart channel (event, replies.Refused r)
refused_apart channel event r differs = record { makes_none = makes event; accepts_none = accepts event; loses_none = loses event r differs }
  where
    makes : (event : EventValue) (lost : ℕ) → entry_with channel lost (event, replies.Refused r) ≡ []
    makes (Offer id count message) lost = refl
    makes event lost = refl

    accepts : (event : EventValue) → was_accepted channel (event, replies.Refused r) ≡ false
    accepts (Offer id count message) = refl
    accepts event = refl

    loses : (event : EventValue) (r : Refusal) → is_overflow r ≡ false → is_loss channel (event, replies.Refused r) ≡ false
    loses (Offer id count message) refusals.Overflow differs = absurd (true≢false differs)
    loses (Offer id count message) r differs = refl
    loses event r differs = refl

-- nor does what uses the medium
used_apart : (channel : ℕ) (event : EventValue) (reply : ReplyValue) → uses_medium event ≡ true → IsApart channel (event, reply)
used_apart channel (Offer id count message) reply uses = absurd (true≢false (sym uses))
used_apart channel (Lose id lost) reply uses = absurd (true≢false (sym uses))
used_apart channel event reply uses = record { makes_none = λ lost. refl; accepts_none = refl; loses_none = refl }

-- ---- refusals by a check

no_overflow : (xs : List Check) (f : Refusal) → AllByRecursion (λ x. is_overflow x.1 ≡ false) xs → first_broken xs ≡ Some f → is_overflow f ≡ false
no_overflow [] f all is = cc
no_overflow ((true, g) ∷ xs) f (here, all) is = no_overflow xs f all is
no_overflow ((false, g) ∷ xs) f (here, all) is = subst (λ (r : Refusal). is_overflow r ≡ false) (same_Some _ _ is) here

front_apart : (o : Option Lane) (count : ℕ) (message : Message) (f : Refusal) → first_broken (offer_checks o count message) ≡ Some f → is_overflow f ≡ false
front_apart None count message f is = no_overflow (offer_checks None count message) f (refl, tt) is
front_apart (Some lane) count message f is = no_overflow (offer_checks (Some lane) count message) f (refl, (refl, (refl, (refl, (refl, tt))))) is

offer_refused : (channel : ℕ) (old : Machine) (lane : Lane) → lane_in channel old.lanes ≡ Some lane → (id count : ℕ) (message : Message) (first : Refusal)
    → (o : Option Lane) (p : Option Refusal) → first_broken (offer_checks o count message) ≡ p → first_broken (offer_checks o count message ++ room_checks o) ≡ Some first
    → WaitsMore channel old.lanes old.files (Offer id count message, replies.Refused first) (cond (is_none p) (with_lane id overflowed old) old).lanes (cond (is_none p) (with_lane id overflowed old) old).files
offer_refused channel old lane there id count message first o (Some f) broken is =
    let same : f ≡ first = same_Some _ _ (sym (rules_stop (offer_checks o count message) (room_checks o) f broken) ∙ is) in
    same_waits channel old.lanes old.files (Offer id count message, replies.Refused first) old.lanes old.files
    (refused_apart channel (Offer id count message) first (subst (λ (r : Refusal). is_overflow r ≡ false) same (front_apart o count message f broken))) refl refl
offer_refused channel old lane there id count message first None None broken is = cc
offer_refused channel old lane there id count message first (Some l) None broken is =
    let over : refusals.Overflow ≡ first = full (not (is_full l)) (sym (rules_pass (offer_checks (Some l) count message) (room_checks (Some l)) broken) ∙ is) in
    subst (λ (r : Refusal). WaitsMore channel old.lanes old.files (Offer id count message, replies.Refused r) (change_first (is_channel id) overflowed old.lanes) old.files) over
    (overflow_waits channel id count message old.lanes old.files lane there)
  where
    full : (b : Bool) → first_broken ((b, refusals.Overflow) ∷ []) ≡ Some first → refusals.Overflow ≡ first
    full true is = cc
    full false is = same_Some _ _ is

refused_waits : (s : Config) (channel : ℕ) (old : Machine) (lane : Lane) → lane_in channel old.lanes ≡ Some lane → (event : EventValue) (first : Refusal) → refusal s old event ≡ Some first
    → WaitsMore channel old.lanes old.files (event, replies.Refused first) (after_refusal event old).lanes (after_refusal event old).files
refused_waits s channel old lane there (Offer id count message) first is =
    offer_refused channel old lane there id count message first (lane_of id old) (first_broken (offer_checks (lane_of id old) count message)) refl is
refused_waits s channel old lane there event first is =
    same_waits channel old.lanes old.files (event, replies.Refused first) old.lanes old.files (record { makes_none = λ lost. refl; accepts_none = refl; loses_none = refl }) refl refl

after_mode : (event : EventValue) (m : Machine) → (after_refusal event m).mode ≡ m.mode
after_mode (Offer id count message) m = by (is_none (first_broken (offer_checks (lane_of id m) count message)))
  where
    by : (b : Bool) → (cond b (with_lane id overflowed m) m).mode ≡ m.mode
    by true = refl
    by false = refl
after_mode event m = refl

refused_at : (s : Config) (channel : ℕ) (old : Machine) (lane : Lane) → lane_in channel old.lanes ≡ Some lane → (event : EventValue) (r first : Refusal) (new : Machine) → refusal s old event ≡ Some first → r ≡ first → new ≡ after_refusal event old
    → WaitsMore channel old.lanes old.files (event, replies.Refused r) new.lanes new.files
refused_at s channel old lane there event r first new is same after =
    subst (λ (r : Refusal). WaitsMore channel old.lanes old.files (event, replies.Refused r) new.lanes new.files) (sym same)
    (waits_at channel old.lanes old.files (event, replies.Refused first) (after_refusal event old).lanes new.lanes (after_refusal event old).files new.files
    (ap (λ (m : Machine). m.lanes) after) (ap (λ (m : Machine). m.files) after) (refused_waits s channel old lane there event first is))

-- ---- failures of the medium

-- what erases took, and what is shown, still stands first; what waits stands last
pub record FailsTo (channel : ℕ) (lanes : List Lane) (files : List File) (later : List Lane) (news : List File) : Type 0 where
  pub gone : List Entry
  pub shown : AllBehind files → (rest : List Entry) × (gone ++ shown_own channel news ++ rest ≡ own_entries channel files ++ waiting_of channel lanes)
  pub waits : (front : List Entry) × (front ++ waiting_of channel later ≡ waiting_of channel lanes)
  pub missed : missed_of channel later ≡ missed_of channel lanes
  pub erased : erased_of channel lanes ≤ 2 ^ 64 - 1 → erased_of channel later ≡ saturated (erased_of channel lanes + length gone)

-- the state whose files are shown
record EndAccounts (channel : ℕ) (old end : Machine) : Type 0 where
  x : Exchange
  apart : IsApart channel x
  account : StepAccounts channel old.lanes old.files x end.lanes end.files

end_accounts : (s : Config) (channel : ℕ) (old : Machine) (event : EventValue) (end : Machine) → Known s channel old.mode old.lanes old.files → refusal s old event ≡ None → uses_medium event ≡ true
    → (end ≡ old) ⊎ ((reply : ReplyValue) × Does s old event reply end) → EndAccounts channel old end
end_accounts s channel old event end known fine uses (inl is) =
    let x : Exchange = (event, replies.Refused refusals.Medium) in
    let apart = used_apart channel event (replies.Refused refusals.Medium) uses in
    record {
      x = x;
      apart = apart;
      account = waits_accounts channel old.lanes old.files x end.lanes end.files
          (same_waits channel old.lanes old.files x end.lanes end.files apart (ap (λ (m : Machine). m.lanes) is) (ap (λ (m : Machine). m.files) is));
    }
end_accounts s channel old event end known fine uses (inr (reply, does)) = record {
  x = (event, reply);
  apart = used_apart channel event reply uses;
  account = does_accounts s channel old event reply end known fine does;
}

fails_to : (s : Config) (channel : ℕ) (old : Machine) (event : EventValue) (new : Machine) → Known s channel old.mode old.lanes old.files → refusal s old event ≡ None → uses_medium event ≡ true → FailsIn s old event new
    → FailsTo channel old.lanes old.files new.lanes new.files
fails_to s channel old event new known fine uses fails =
    let end = fails.end in
    let ends = end_accounts s channel old event end known fine uses fails.either in
    let a = ends.account in
    let lane = known.lane in
    let lost = lost_front channel event old.lanes end.lanes new.lanes lane a.specs fails.lanes known.there in
    let missed = missed_of channel old.lanes in
    let all : a.gone ++ own_entries channel end.files ++ waiting_of channel end.lanes ≡ own_entries channel old.files ++ waiting_of channel old.lanes =
    a.each ∙ ap (λ (l : List Entry). own_entries channel old.files ++ waiting_of channel old.lanes ++ l) (ends.apart.makes_none missed) ∙ append-nil (own_entries channel old.files ++ waiting_of channel old.lanes) in
    record {
      gone = a.gone;
      shown = λ behind.
          let front = shown_front channel end.files (a.behind behind) in (
            front.0 ++ waiting_of channel end.lanes,
            ap (λ (l : List Entry). a.gone ++ l ++ (front.0 ++ waiting_of channel end.lanes)) (shown_same channel new.files end.files fails.files)
                ∙ regroup a.gone (shown_own channel end.files) front.0 (waiting_of channel end.lanes) (own_entries channel end.files) front.1
                ∙ all,
          );
      waits = (
        take lost.n (waiting_entries lane),
        ap (λ (o : Option Lane). take lost.n (waiting_entries lane) ++ waiting_in o) lost.is ∙ front_moves lane.spec.id lost.n lane.waiting ∙ sym (ap waiting_in known.there),
      );
      missed = ap missed_in lost.is ∙ sym (ap missed_in known.there);
      erased = λ small. ap erased_in lost.is ∙ sym (ap erased_in lost.end_is) ∙ a.erased small;
    }
  where
    regroup : (gone shown rest waiting own : List Entry) → shown ++ rest ≡ own → gone ++ shown ++ (rest ++ waiting) ≡ gone ++ own ++ waiting
    regroup gone shown rest waiting own is =
        sym (append_assoc (gone ++ shown) rest waiting)
        ∙ ap (λ (l : List Entry). l ++ waiting) (append_assoc gone shown rest ∙ ap (λ (l : List Entry). gone ++ l) is)

-- ---- a step of a recorder that works

pub data WorkSteps (channel : ℕ) (old : Machine) (x : Exchange) (new : Machine) : Type 0 where
  on : StepAccounts channel old.lanes old.files x new.lanes new.files → WorkSteps channel old x new
  failing : IsApart channel x → is_working new.mode ≡ false → FailsTo channel old.lanes old.files new.lanes new.files → WorkSteps channel old x new

gives_up : (s : Config) (channel before : ℕ) (old : Machine) (event : EventValue) (r : Refusal) (new : Machine) → Known s channel old.mode old.lanes old.files → refusal s old event ≡ None → GivesUp s before old event r new
    → WorkSteps channel old (event, replies.Refused r) new
gives_up s channel before old event refusals.Medium new known fine (uses, room, rose, fails) =
    failing (used_apart channel event (replies.Refused refusals.Medium) uses) (ap (λ (m : Machine). is_working m.mode) fails.rest) (fails_to s channel old event new known fine uses fails)
gives_up s channel before old event refusals.OutOfMemory new known fine (asks, room, is) = on (unchanged channel old (event, replies.Refused refusals.OutOfMemory) new (refused_apart channel event refusals.OutOfMemory refl) is)
gives_up s channel before old event refusals.Overflow new known fine given = absurd given.0
gives_up s channel before old event r new known fine given = on (unchanged channel old (event, replies.Refused r) new (refused_apart channel event r refl) given.1)

replies_account : (s : Config) (channel before : ℕ) (old : Machine) (event : EventValue) (reply : ReplyValue) (new : Machine) → Known s channel old.mode old.lanes old.files → Replies s before old event reply new
    → WorkSteps channel old (event, reply) new
replies_account s channel before old event (replies.Refused r) new known refuses = by (refusal s old event) refl refuses
  where
    by : (o : Option Refusal) → refusal s old event ≡ o → Refuses o s before old event r new → WorkSteps channel old (event, replies.Refused r) new
    by None fine gives = gives_up s channel before old event r new known fine gives
    by (Some first) is (same, after) =
        on (waits_accounts channel old.lanes old.files (event, replies.Refused r) new.lanes new.files (refused_at s channel old known.lane known.there event r first new is same after))
replies_account s channel before old event reply new known (fine, does) = on (does_accounts s channel old event reply new known fine does)

pub work_steps : (s : Config) (channel : ℕ) (old : Machine) (event : EventValue) (reply : ReplyValue) (new : Machine) → Known s channel old.mode old.lanes old.files → Step s old event reply new
    → WorkSteps channel (record old { failures = new.failures }) (event, reply) new
work_steps s channel old event reply new known (more, replied) = replies_account s channel old.failures (record old { failures = new.failures }) event reply new known replied

-- ---- a step of a recorder that failed

-- the calls that look at the mode
abbrev looks : EventValue → Bool
looks event = elim event [ Offer id count message ↦ false | Lose id lost ↦ false | Next id ↦ false | Close id ↦ false | Status ↦ false | _ ↦ true ]

works_by : (s : Config) (m : Machine) (event : EventValue) → looks event ≡ true → refusal s m event ≡ None → is_working m.mode ≡ true
works_by s m (Offer id count message) looks fine = absurd (true≢false (sym looks))
works_by s m (Lose id lost) looks fine = absurd (true≢false (sym looks))
works_by s m (Next id) looks fine = absurd (true≢false (sym looks))
works_by s m (Close id) looks fine = absurd (true≢false (sym looks))
works_by s m Status looks fine = absurd (true≢false (sym looks))
works_by s m event looks fine = (none_broken (is_working m.mode) refusals.Failed _ fine).0

uses_looks : (event : EventValue) → uses_medium event ≡ true → looks event ≡ true
uses_looks (Offer id count message) uses = absurd (true≢false (sym uses))
uses_looks (Lose id lost) uses = absurd (true≢false (sym uses))
uses_looks (Next id) uses = absurd (true≢false (sym uses))
uses_looks (Close id) uses = absurd (true≢false (sym uses))
uses_looks Status uses = absurd (true≢false (sym uses))
uses_looks event uses = refl

-- nothing but what waits changes, and it stays failed
pub record FailedSteps (channel : ℕ) (lanes : List Lane) (files : List File) (x : Exchange) (later : List Lane) (news : List File) (mode : Mode) : Type 0 where
  pub waits : WaitsMore channel lanes files x later news
  pub failed : is_working mode ≡ false

stays_failed : (channel : ℕ) (old : Machine) (x : Exchange) (new : Machine) → IsApart channel x → is_working old.mode ≡ false → new.lanes ≡ old.lanes → new.files ≡ old.files → new.mode ≡ old.mode
    → FailedSteps channel old.lanes old.files x new.lanes new.files new.mode
stays_failed channel old x new apart failed lanes files mode = record { waits = same_waits channel old.lanes old.files x new.lanes new.files apart lanes files; failed = ap is_working mode ∙ failed }

failed_does : (s : Config) (channel : ℕ) (old : Machine) (event : EventValue) (reply : ReplyValue) (new : Machine) (lane : Lane) → lane_in channel old.lanes ≡ Some lane → lane.spec.id ≡ channel → is_working old.mode ≡ false → refusal s old event ≡ None
    → Does s old event reply new → FailedSteps channel old.lanes old.files (event, reply) new.lanes new.files new.mode
failed_does s channel old (Offer id count message) replies.Done new lane there its failed fine is = record {
  waits = waits_at channel old.lanes old.files (Offer id count message, replies.Done) (with_lane id (accepted count message) old).lanes new.lanes old.files new.files
      (ap (λ (m : Machine). m.lanes) is) (ap (λ (m : Machine). m.files) is) (offer_waits channel id count message old.lanes old.files lane there its);
  failed = ap (λ (m : Machine). is_working m.mode) is ∙ failed;
}
failed_does s channel old (Offer id count message) reply new lane there its failed fine does = absurd does
failed_does s channel old (Lose id lost) replies.Done new lane there its failed fine is = record {
  waits = waits_at channel old.lanes old.files (Lose id lost, replies.Done) (with_lane id (losing lost) old).lanes new.lanes old.files new.files
      (ap (λ (m : Machine). m.lanes) is) (ap (λ (m : Machine). m.files) is) (told_waits channel id lost old.lanes old.files lane there);
  failed = ap (λ (m : Machine). is_working m.mode) is ∙ failed;
}
failed_does s channel old (Lose id lost) reply new lane there its failed fine does = absurd does
failed_does s channel old Status (replies.Status status) new lane there its failed fine (reported, is) =
    stays_failed channel old (Status, replies.Status status) new (record { makes_none = λ lost. refl; accepts_none = refl; loses_none = refl }) failed (ap (λ (m : Machine). m.lanes) is) (ap (λ (m : Machine). m.files) is) (ap (λ (m : Machine). m.mode) is)
failed_does s channel old Status reply new lane there its failed fine does = absurd does
failed_does s channel old (Next id) (replies.Next given) new lane there its failed fine does =
    some_then (FailedSteps channel old.lanes old.files (Next id, replies.Next given) new.lanes new.files new.mode) (cursor_of id old) _ does (λ c is_c made.
    stays_failed channel old (Next id, replies.Next given) new (record { makes_none = λ lost. refl; accepts_none = refl; loses_none = refl }) failed
    (ap (λ (m : Machine). m.lanes) made.1.1) (ap (λ (m : Machine). m.files) made.1.1) (ap (λ (m : Machine). m.mode) made.1.1))
failed_does s channel old (Next id) reply new lane there its failed fine does = absurd does
failed_does s channel old (Close id) replies.Done new lane there its failed fine sets =
    stays_failed channel old (Close id, replies.Done) new (record { makes_none = λ lost. refl; accepts_none = refl; loses_none = refl }) failed
    (ap (λ (m : Machine). m.lanes) sets.1) (ap (λ (m : Machine). m.files) sets.1) (ap (λ (m : Machine). m.mode) sets.1)
failed_does s channel old (Close id) reply new lane there its failed fine does = absurd does
failed_does s channel old event reply new lane there its failed fine does = absurd (true≢false (sym (works_by s old event refl fine) ∙ failed))

failed_gives_up : (s : Config) (channel before : ℕ) (old : Machine) (event : EventValue) (r : Refusal) (new : Machine) → is_working old.mode ≡ false → refusal s old event ≡ None → GivesUp s before old event r new
    → FailedSteps channel old.lanes old.files (event, replies.Refused r) new.lanes new.files new.mode
failed_gives_up s channel before old event refusals.Medium new failed fine (uses, room, rose, fails) = absurd (true≢false (sym (works_by s old event (uses_looks event uses) fine) ∙ failed))
failed_gives_up s channel before old event refusals.OutOfMemory new failed fine (asks, room, is) =
    stays_failed channel old (event, replies.Refused refusals.OutOfMemory) new (refused_apart channel event refusals.OutOfMemory refl) failed (ap (λ (m : Machine). m.lanes) is) (ap (λ (m : Machine). m.files) is) (ap (λ (m : Machine). m.mode) is)
failed_gives_up s channel before old event refusals.Overflow new failed fine given = absurd given.0
failed_gives_up s channel before old event r new failed fine given =
    stays_failed channel old (event, replies.Refused r) new (refused_apart channel event r refl) failed (ap (λ (m : Machine). m.lanes) given.1) (ap (λ (m : Machine). m.files) given.1) (ap (λ (m : Machine). m.mode) given.1)

failed_replies : (s : Config) (channel before : ℕ) (old : Machine) (event : EventValue) (reply : ReplyValue) (new : Machine) (lane : Lane) → lane_in channel old.lanes ≡ Some lane → lane.spec.id ≡ channel → is_working old.mode ≡ false
    → Replies s before old event reply new → FailedSteps channel old.lanes old.files (event, reply) new.lanes new.files new.mode
failed_replies s channel before old event (replies.Refused r) new lane there its failed refuses = by (refusal s old event) refl refuses
  where
    by : (o : Option Refusal) → refusal s old event ≡ o → Refuses o s before old event r new → FailedSteps channel old.lanes old.files (event, replies.Refused r) new.lanes new.files new.mode
    by None fine gives = failed_gives_up s channel before old event r new failed fine gives
    by (Some first) is (same, after) = record {
      waits = refused_at s channel old lane there event r first new is same after;
      failed = ap (λ (m : Machine). is_working m.mode) after ∙ ap is_working (after_mode event old) ∙ failed;
    }
failed_replies s channel before old event reply new lane there its failed (fine, does) = failed_does s channel old event reply new lane there its failed fine does

pub failed_steps : (s : Config) (channel : ℕ) (old : Machine) (event : EventValue) (reply : ReplyValue) (new : Machine) (lane : Lane) → lane_in channel old.lanes ≡ Some lane → lane.spec.id ≡ channel → is_working old.mode ≡ false
    → Step s old event reply new → FailedSteps channel old.lanes old.files (event, reply) new.lanes new.files new.mode
failed_steps s channel old event reply new lane there its failed (more, replied) = failed_replies s channel old.failures (record old { failures = new.failures }) event reply new lane there its failed replied
