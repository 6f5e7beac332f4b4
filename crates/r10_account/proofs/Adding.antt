-- What was offered, refused and lost adds up.
use Rattle.std.proofs.Common.{◌≡◌, ◌≤◌, ℕ, ◌+◌, ◌-◌, ◌^◌, ◌==◌, Bool, true, false, cond, List, [], ◌∷◌, ◌++◌, length, count_by, zip, refl, sym, ap, arith}
use Rattle.std.proofs.lemmas.Bool.{eqb-true}
use Rattle.std.proofs.lemmas.List.{append_assoc, append-nil, length-append}
use Rattle.std.proofs.lemmas.List.Sums.{sum_by-append, sum_by-cons}
use Rattle.r10_body.specs.Gaps.{gap_after, told_lost}
use Rattle.r10_body.specs.declared.entry.Entry.{Entry}
use Rattle.r10_body.specs.declared.refusal.Refusal.TheVariants.{Overflow}
use Rattle.r10_medium.specs.Disk.{Image}
use Rattle.r10_machine.specs.Config.{Config}
use Rattle.r10_machine.specs.Machine.{Machine, saturated}
use Rattle.r10_machine.specs.Step.{Run, Step}
use Rattle.r10_machine.specs.declared.event.Event.{Event as EventValue}
use Rattle.r10_machine.specs.declared.event.Event.TheVariants.{Offer, Lose}
use Rattle.r10_machine.specs.declared.reply.Reply.{Reply as ReplyValue}
use Rattle.r10_machine.specs.declared.reply.Reply.TheVariants.{Done, Refused}
use Rattle.r10_account.specs.Accepted.{Exchange, accepted_entries, entries_behind, entry_with, lost_by, lost_since}
use Rattle.r10_account.specs.Account.{IsAccount, waiting_of}
use Rattle.r10_machine.specs.Checks.{is_working}
use Rattle.r10_machine.specs.ControlCalls.{own_entries}
use Rattle.r10_account.specs.Sums.{TellLosses, all_lost, all_told, was_offered, was_refused}
use Rattle.r10_account.proofs.Accounting.{missed_behind}
use Rattle.r10_account.proofs.Exchanges.{lost_next}

-- ---- losses

-- a gap tells the number that it was made of
told_gap : (n : ℕ) (b : Bool) → (n == 0) ≡ b → told_lost (gap_after n) ≡ n
told_gap n true is = rw is (sym (eqb-true n 0 is))
told_gap n false is = rw is refl

-- of what was missed before an exchange and what it loses, its entry tells all or nothing, and the rest is missed after it
one_told : (channel missed : ℕ) (event : EventValue) (reply : ReplyValue) → missed + lost_by channel (event, reply) ≤ 2 ^ 64 - 1
    → all_told (entry_with channel missed (event, reply)) + missed_behind channel missed (event, reply) ≡ missed + lost_by channel (event, reply)
one_told channel missed (Offer id count message) Done few = by (id == channel)
  where
    by : (b : Bool) → all_told (cond b (record { channel = channel; count = count; message = message; gap = gap_after missed } ∷ []) []) + cond b 0 missed ≡ missed + 0
    by true =
        let e : Entry = record { channel = channel; count = count; message = message; gap = gap_after missed } in
        omega (arith, sum_by-cons (λ (e : Entry). told_lost e.gap) e [], told_gap missed (missed == 0) refl)
    by false = omega arith
one_told channel missed (Offer id count message) (Refused Overflow) few = by (id == channel) few
  where
    by : (b : Bool) → missed + cond b 1 0 ≤ 2 ^ 64 - 1 → 0 + cond b (saturated (missed + cond b 1 0)) missed ≡ missed + cond b 1 0
    by true few = omega (arith, few)
    by false few = omega arith
one_told channel missed (Lose id lost) Done few = by (id == channel) few
  where
    by : (b : Bool) → missed + cond b lost 0 ≤ 2 ^ 64 - 1 → 0 + cond b (saturated (missed + cond b lost 0)) missed ≡ missed + cond b lost 0
    by true few = omega (arith, few)
    by false few = omega arith
one_told channel missed event reply few = omega arith

all_told_from : (channel first : ℕ) (before xs : List Exchange) → lost_since channel first before + all_lost channel xs ≤ 2 ^ 64 - 1
    → all_told (entries_behind channel first before xs) + lost_since channel first (before ++ xs) ≡ lost_since channel first before + all_lost channel xs
all_told_from channel first before [] few = let same = ap (lost_since channel first) (append-nil before) in omega (arith, same)
all_told_from channel first before ((event, reply) ∷ xs) few =
    let x : Exchange = (event, reply) in
    let missed = lost_since channel first before in
    let cons : all_lost channel (x ∷ xs) ≡ lost_by channel x + all_lost channel xs = sum_by-cons (lost_by channel) x xs in
    let less : missed + lost_by channel x ≤ 2 ^ 64 - 1 = omega (arith, few, cons) in
    let one = one_told channel missed event reply less in
    let next : lost_since channel first (before ++ x ∷ []) ≡ missed_behind channel missed x = lost_next channel first before x in
    let more : lost_since channel first (before ++ x ∷ []) + all_lost channel xs ≤ 2 ^ 64 - 1 = omega (arith, few, cons, next, one) in
    let rest = all_told_from channel first (before ++ x ∷ []) xs more in
    let joined : all_told (entry_with channel missed x ++ entries_behind channel first (before ++ x ∷ []) xs) ≡ all_told (entry_with channel missed x) + all_told (entries_behind channel first (before ++ x ∷ []) xs) =
    sum_by-append (λ (e : Entry). told_lost e.gap) (entry_with channel missed x) (entries_behind channel first (before ++ x ∷ []) xs) in
    let whole : lost_since channel first ((before ++ x ∷ []) ++ xs) ≡ lost_since channel first (before ++ x ∷ xs) = ap (lost_since channel first) (append_assoc before (x ∷ []) xs) in
    omega (arith, cons, one, next, rest, joined, whole)

pub losses_add : (channel : ℕ) (events : List EventValue) (replies : List ReplyValue) → all_lost channel (zip events replies) ≤ 2 ^ 64 - 1
    → all_told (accepted_entries channel 0 events replies) + lost_since channel 0 (zip events replies) ≡ all_lost channel (zip events replies)
losses_add channel events replies few = let all = all_told_from channel 0 [] (zip events replies) (omega (arith, few)) in omega (arith, all)

-- what is gone, what is in files and what waits tell it
pub tell_losses : (channel : ℕ) (events : List EventValue) (replies : List ReplyValue) (m : Machine) → IsAccount channel m (accepted_entries channel 0 events replies) → is_working m.mode ≡ true → all_lost channel (zip events replies) ≤ 2 ^ 64 - 1
    → TellLosses channel m (zip events replies)
tell_losses channel events replies m account works few =
    let own = own_entries channel m.files in
    let waiting = waiting_of channel m.lanes in
    let reported : all_told (account.gone ++ own ++ waiting) ≡ all_told (accepted_entries channel 0 events replies) = ap all_told (account.each works) in record {
      gone = account.gone;
      erased = account.erased;
      reported = omega (
        arith,
        reported,
        sum_by-append (λ (e : Entry). told_lost e.gap) (account.gone ++ own) waiting,
        sum_by-append (λ (e : Entry). told_lost e.gap) account.gone own,
        losses_add channel events replies few,
      );
    }

-- ---- offers

-- an offer makes an entry, or is refused
one_offered : (s : Config) (channel lost : ℕ) (old : Machine) (event : EventValue) (reply : ReplyValue) (new : Machine) → Step s old event reply new
    → cond (was_offered channel (event, reply)) 1 0 ≡ length (entry_with channel lost (event, reply)) + cond (was_refused channel (event, reply)) 1 0
one_offered s channel lost old (Offer id count message) Done new step = by (record { channel = channel; count = count; message = message; gap = gap_after lost }) (id == channel)
  where
    by : (e : Entry) (b : Bool) → cond b 1 0 ≡ length (cond b (e ∷ []) []) + 0
    by e true = refl
    by e false = refl
one_offered s channel lost old (Offer id count message) (Refused r) new step = omega arith
one_offered s channel lost old (Offer id count message) reply new (more, (fine, does)) = absurd does
one_offered s channel lost old event reply new step = refl

offers_from : (s : Config) (channel first : ℕ) (before : List Exchange) (old : Machine) (events : List EventValue) (replies : List ReplyValue) (images : List Image) (new : Machine) → Run s old events replies images new
    → count_by (was_offered channel) (zip events replies) ≡ length (entries_behind channel first before (zip events replies)) + count_by (was_refused channel) (zip events replies)
offers_from s channel first before old [] [] [] new run = refl
offers_from s channel first before old (event ∷ events) (reply ∷ replies) (image ∷ images) new (mid, step, says, run) =
    let x : Exchange = (event, reply) in
    let missed = lost_since channel first before in
    let xs = zip events replies in
    let rest = offers_from s channel first (before ++ x ∷ []) mid events replies images new run in
    omega (
      arith,
      one_offered s channel missed old event reply mid step,
      rest,
      sum_by-cons (λ (y : Exchange). cond (was_offered channel y) 1 0) x xs,
      sum_by-cons (λ (y : Exchange). cond (was_refused channel y) 1 0) x xs,
      length-append (entry_with channel missed x) (entries_behind channel first (before ++ x ∷ []) xs),
    )
offers_from s channel first before old events replies images new run = absurd run

pub offers_add : (s : Config) (channel : ℕ) (old : Machine) (events : List EventValue) (replies : List ReplyValue) (images : List Image) (new : Machine) → Run s old events replies images new
    → count_by (was_offered channel) (zip events replies) ≡ length (accepted_entries channel 0 events replies) + count_by (was_refused channel) (zip events replies)
offers_add s channel old events replies images new run = offers_from s channel 0 [] old events replies images new run
