-- Worked cases: what whole recordings accepted, and where it is.
use Rattle.std.specs.Prelude.{◌≡◌, ℕ, ◌++◌, ◌∷◌, [], List, count_by, refl, map, zip}
use Rattle.std.proofs.Common.{ap, arith, length, lit≤}
use Rattle.std.proofs.lemmas.List.{length-append}
use Rattle.r10_body.specs.declared.gap.Gap.TheVariants.{Whole, Lost}
use Rattle.r10_body.specs.declared.refusal.Refusal.TheVariants as refusals
use Rattle.r10_machine.specs.Machine.{Machine}
use Rattle.r10_machine.specs.ControlCalls.{own_entries, erased_with}
use Rattle.r10_machine.specs.declared.event.Event.{Event}
use Rattle.r10_machine.specs.declared.event.Event.TheVariants as ask
use Rattle.r10_machine.specs.declared.reply.Reply.{Reply}
use Rattle.r10_machine.specs.declared.reply.Reply.TheVariants as say
use Rattle.r10_machine.specs.Vectors.{after_gap, both_offered, entry, leap_day, lost, name, replayed, resumed, setup_text}
use Rattle.r10_machine.specs.Vectors.{small_started, small_stopped, stopped, text, two}
use Rattle.r10_account.specs.Accepted.{accepted_entries, lost_since}
use Rattle.r10_account.specs.Sums.{TellLosses, all_lost, all_told, was_offered, was_refused}
use Rattle.r10_account.specs.Account.{GoesOver, IsAccount, missed_of, shown_own, waiting_of}

-- ---- the first recording

abbrev first_events : List Event
first_events =
    ask.Mount ∷ ask.Tick 1000 leap_day ∷ ask.Start name setup_text ∷ ask.Offer 5 1000 (text (0x41 ∷ 0x42 ∷ 0x43 ∷ []))
    ∷ ask.Offer 5 1010 (text []) ∷ ask.Pump 5 2 ∷ ask.Stop ∷ []

abbrev first_replies : List Reply
first_replies = say.Done ∷ say.Done ∷ say.Done ∷ say.Done ∷ say.Done ∷ say.Moved 2 ∷ say.Stopped (record { taken = 0; left = 0 })
    ∷ []

pub first-accepted : accepted_entries 5 0 first_events first_replies ≡ two
first-accepted = refl

pub nothing-on-another : accepted_entries 6 0 first_events first_replies ≡ []
nothing-on-another = refl

pub both-wait : waiting_of 5 both_offered.lanes ≡ two
both-wait = refl

pub both-filed : own_entries 5 small_stopped.files ++ waiting_of 5 small_stopped.lanes ≡ two
both-filed = refl

pub both-shown : shown_own 5 small_stopped.files ≡ two
both-shown = refl

-- ---- a recording with a lost message

abbrev lost_events : List Event
lost_events =
    ask.Mount ∷ ask.Tick 1000 leap_day ∷ ask.Start name setup_text ∷ ask.Offer 5 1001 (text (0x41 ∷ []))
    ∷ ask.Offer 5 1002 (text (0x42 ∷ [])) ∷ ask.Offer 5 1003 (text (0x43 ∷ []))
    ∷ ask.Pump 5 2 ∷ ask.Offer 5 1004 (text (0x44 ∷ [])) ∷ ask.Stop ∷ []

abbrev lost_replies : List Reply
lost_replies = say.Done ∷ say.Done ∷ say.Done ∷ say.Done ∷ say.Done ∷ say.Refused refusals.Overflow ∷ say.Moved 2 ∷ say.Done
    ∷ say.Stopped (record { taken = 1; left = 0 }) ∷ []

pub lost-accepted : accepted_entries 5 0 lost_events lost_replies ≡ replayed
lost-accepted = refl

pub missed-then : missed_of 5 lost.lanes ≡ 1
missed-then = refl

-- in the midst of it two are filed, of which nothing is shown yet, and one waits
pub filed-and-waiting : own_entries 5 resumed.files ++ waiting_of 5 resumed.lanes ≡ replayed
filed-and-waiting = refl

pub none-shown-yet : shown_own 5 resumed.files ≡ []
none-shown-yet = refl

pub last-waits : waiting_of 5 resumed.lanes ≡ after_gap ∷ []
last-waits = refl

-- an erase takes all three
abbrev erased_machine : Machine
erased_machine = record stopped { files = []; lanes = map (erased_with stopped.files) stopped.lanes }

pub all-gone : IsAccount 5 erased_machine replayed
all-gone = record { gone = replayed; each = λ works. refl; shown = ([], refl); waits = (replayed, refl); erased = refl }

-- ---- how many were lost

abbrev offer : ℕ → Event
offer count = ask.Offer 5 count (text [])

abbrev lane_full : Reply
lane_full = say.Refused refusals.Overflow

-- two losses are known by the next message, and not by the one after it
pub two-told : accepted_entries 5 0 (offer 1 ∷ offer 2 ∷ offer 3 ∷ offer 4 ∷ []) (lane_full ∷ lane_full ∷ say.Done ∷ say.Done ∷ [])
    ≡ entry 5 3 (text []) (Lost 2) ∷ entry 5 4 (text []) Whole ∷ []
two-told = refl

-- the first tells those that were missed before them all, with its own
pub missed-before : accepted_entries 5 7 (offer 1 ∷ offer 2 ∷ offer 3 ∷ []) (lane_full ∷ say.Done ∷ say.Done ∷ []) ≡ entry 5 2
    (text []) (Lost 8) ∷ entry 5 3 (text []) Whole ∷ []
missed-before = refl

-- and none of what was lost before the last that was accepted
pub not-all : accepted_entries 5 0 (offer 1 ∷ offer 2 ∷ offer 3 ∷ offer 4 ∷ []) (lane_full ∷ say.Done ∷ lane_full ∷ say.Done ∷ [])
    ≡ entry 5 2 (text []) (Lost 1) ∷ entry 5 4 (text []) (Lost 1) ∷ []
not-all = refl

-- the number stays at the greatest of 64 bits
pub most-told : accepted_entries 5 18446744073709551614 (offer 1 ∷ offer 2 ∷ offer 3 ∷ []) (lane_full ∷ lane_full ∷ say.Done ∷ [])
    ≡ entry 5 3 (text []) (Lost 18446744073709551615) ∷ []
most-told = refl

-- a loss on another channel, and another refusal, are none
pub none-told : accepted_entries 5 0 (ask.Offer 6 1 (text []) ∷ offer 1 ∷ offer 2 ∷ [])
    (lane_full ∷ say.Refused refusals.CountBack ∷ say.Done ∷ []) ≡ entry 5 2 (text []) Whole ∷ []
none-told = refl

-- losses that were reported count with those that were refused, and on their channel alone
pub told-too : accepted_entries 5 0 (ask.Lose 5 40 ∷ offer 1 ∷ ask.Lose 5 2 ∷ ask.Lose 6 9 ∷ offer 2 ∷ offer 3 ∷ [])
    (say.Done ∷ lane_full ∷ say.Done ∷ say.Done ∷ say.Done ∷ say.Done ∷ [])
    ≡ entry 5 2 (text []) (Lost 43) ∷ entry 5 3 (text []) Whole ∷ []
told-too = refl

-- one that was refused counts for none, and nor does a loss of none
pub none-of-none : accepted_entries 5 0 (ask.Lose 5 40 ∷ ask.Lose 5 0 ∷ offer 1 ∷ [])
    (say.Refused refusals.NoSuchChannel ∷ say.Done ∷ say.Done ∷ []) ≡ entry 5 1 (text []) Whole ∷ []
none-of-none = refl

-- the sum stays at the greatest too
pub most-told-too : accepted_entries 5 7 (ask.Lose 5 18446744073709551610 ∷ offer 1 ∷ ask.Lose 5 18446744073709551615 ∷ offer 2
    ∷ []) (say.Done ∷ say.Done ∷ say.Done ∷ say.Done ∷ [])
    ≡ entry 5 1 (text []) (Lost 18446744073709551615) ∷ entry 5 2 (text []) (Lost 18446744073709551615) ∷ []
most-told-too = refl

-- a loss outlasts what is done between
pub loss-stays : accepted_entries 5 0 (offer 1 ∷ ask.Stop ∷ ask.Offer 6 1 (text []) ∷ ask.Erase ∷ offer 2 ∷ [])
    (lane_full ∷ say.Stopped (record { taken = 0; left = 0 }) ∷ say.Done ∷ say.Done ∷ say.Done ∷ []) ≡ entry 5 2 (text []) (Lost 1)
    ∷ []
loss-stays = refl

-- ---- accounts that don't hold

-- what waits was accepted
pub unaccepted : IsAccount 5 both_offered [] → ⊥
unaccepted account = omega (arith, ap length account.waits.1, length-append account.waits.0 two)

-- and what was accepted is somewhere
pub nowhere : IsAccount 5 small_started two → ⊥
nowhere account = omega (
  arith,
  ap length (account.each refl),
  length-append (account.gone ++ []) [],
  length-append account.gone [],
  account.erased,
)

-- what waits doesn't go without an erase
pub vanished : GoesOver 5 both_offered small_started [] → ⊥
vanished over = omega (
  arith,
  ap length over.each,
  length-append (over.gone ++ []) [],
  length-append over.gone [],
  over.erased
      (lit≤ tt),
)

-- ---- sums: three offers of which one is refused, and four losses, of which one comes after the last message

abbrev summed_events : List Event
summed_events = ask.Lose 5 40 ∷ offer 1 ∷ offer 2 ∷ ask.Lose 6 9 ∷ ask.Lose 5 2 ∷ offer 3 ∷ ask.Lose 5 7 ∷ []

abbrev summed_replies : List Reply
summed_replies = say.Done ∷ say.Done ∷ lane_full ∷ say.Done ∷ say.Done ∷ say.Done ∷ say.Done ∷ []

pub lost-in-all : all_lost 5 (zip summed_events summed_replies) ≡ 50
lost-in-all = refl

pub told-in-all : all_told (accepted_entries 5 0 summed_events summed_replies) ≡ 43
told-in-all = refl

pub missed-still : lost_since 5 0 (zip summed_events summed_replies) ≡ 7
missed-still = refl

pub offered-in-all : count_by (was_offered 5) (zip summed_events summed_replies) ≡ 3
offered-in-all = refl

pub refused-in-all : count_by (was_refused 5) (zip summed_events summed_replies) ≡ 1
refused-in-all = refl

-- the files of the recording with a lost message tell it
pub files-tell : TellLosses 5 stopped (zip lost_events lost_replies)
files-tell = record { gone = []; erased = refl; reported = refl }

pub one-in-files : all_told (own_entries 5 stopped.files) ≡ 1
one-in-files = refl
