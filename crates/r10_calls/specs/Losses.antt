-- How many messages of a channel were lost, and where that is reported, as a caller of another language has it.
use Rattle.std.specs.Prelude.{◌≡◌, ℕ, ◌+◌, ◌-◌, Bool, List, Option, None, Some, Result, MatchResult, IfOk, is_some, option_map}
use Rattle.std.specs.Prelude.{slice_get}
use Rattle.std.specs.Option.{option_and_then}
use Rattle.r10_body.specs.Gaps.{told_lost}
use Rattle.r10_body.specs.Refusals.{refusal_number}
use Rattle.r10_body.specs.declared.entry.Entry.{Entry}
use Rattle.r10_body.specs.declared.entry.Sample.{Sample}
use Rattle.r10_body.specs.declared.refusal.Refusal.{Refusal}
use Rattle.r10_control.specs.Lanes.{TakesWaiting}
use Rattle.r10_lane.specs.Losing.{losses_of}
use Rattle.r10_lane.specs.declared.losses.Losses.{Losses}
use Rattle.r10_machine.specs.Machine.{Lane, change_first, entry_of, lane_in, saturated}
use Rattle.r10_machine.specs.declared.reply.Reply.TheVariants.{Next}
use Rattle.r10_medium.specs.Disk.{Disk}
use Rattle.r10_world.specs.State.{with_lanes}
use Rattle.r10_world.specs.Waiting.{StandsOn}
use Rattle.r10_calls.specs.Accounts.{is_counted_on}
use Rattle.r10_calls.specs.Hand.{is_next_in, next_fields}
use Rattle.r10_calls.specs.declared.accounts.Accepted.{Accepted}
use Rattle.r10_calls.specs.declared.accounts.AccountOut.{AccountOut}
use Rattle.r10_calls.specs.declared.desk.Desk.{Desk as DeskValue}
use Rattle.r10_calls.specs.declared.entry_out.EntryOut.{EntryOut}
use Rattle.r10_calls.specs.declared.losses.LossesOut.{LossesOut}

-- ---- of one channel

-- what was counted of the channel, and what its lane says
abbrev pub losses_given : Accepted → Lane → LossesOut
losses_given one lane = let of_lane = losses_of lane in record {
  missed = of_lane.missed;
  waiting_lost = of_lane.waiting;
  erased_lost = one.erased_lost;
  handed = one.handed;
  handed_lost = one.handed_lost;
  channel = one.channel;
}

-- of the channel at this place, where there is one
abbrev pub losses_at : List Accepted → List Lane → ℕ → Option LossesOut
losses_at accepted lanes place = option_and_then (λ one. option_map (losses_given one) (lane_in one.channel lanes))
    (slice_get accepted place)

-- ---- erases

-- Of a lane's losses all but those since the last accepted message, before those that wait, and before those that were handed on
abbrev pub gone_lost : Losses → ℕ → ℕ
gone_lost losses handed_lost = losses.lost - (losses.missed + losses.waiting + handed_lost)

-- An erase takes all messages that were taken in, and the losses before them.
abbrev pub lost_with_erased : List Lane → Accepted → Accepted
lost_with_erased lanes one = elim (lane_in one.channel lanes)
    [ None ↦ one | Some lane ↦ record one { erased_lost = gone_lost (losses_of lane) one.handed_lost } ]

-- ---- messages that are handed on

-- one more message was handed on, and the loss before it
abbrev pub handing : ℕ → Accepted → Accepted
handing lost one = record one { handed = saturated (one.handed + 1); handed_lost = saturated (one.handed_lost + lost) }

-- where there was a message
abbrev pub handed_on : ℕ → Option Sample → List Accepted → List Accepted
handed_on channel None accepted = accepted
handed_on channel (Some x) accepted = change_first (is_counted_on channel) (handing (told_lost x.gap)) accepted

-- The first message that waits on a channel was taken out of its lane. It is in hand, and counted as handed on; where none
-- waits, nothing is in hand.
-- Refused, nothing changed.
pub record HandsOn {M : Type 0} (disk : M → Disk) (channel : ℕ) (old : DeskValue M) (accepted : List Accepted) (there : Bool)
    (out : EntryOut)
    (answer : ℕ) (new : DeskValue M) (accepted' : List Accepted) (there' : Bool) (out' : EntryOut) : Type 0 where
  pub first : Result (Option Sample) Refusal
  pub takes : TakesWaiting channel old.world.recorder.lanes first new.world.recorder.lanes
  pub stands : IfOk first (λ _. StandsOn disk channel old.world new.world)
  pub others : new.world ≡ with_lanes new.world.recorder.lanes old.world
  pub fault : new.fault ≡ old.fault
  pub answers : MatchResult first
      (λ x. let reply = Next (option_map (entry_of channel) x) in
      (answer ≡ 0) × (new.hand ≡ reply) × (accepted' ≡ handed_on channel x accepted) × (there' ≡ is_next_in reply there)
      × (out' ≡ next_fields reply out))
      (λ r. (answer ≡ refusal_number r) × (new.hand ≡ old.hand) × (accepted' ≡ accepted) × (there' ≡ there) × (out' ≡ out))

-- ---- what stands nowhere

-- How many of a channel's messages, and of those lost before they were offered, stand in no file and in no gap of an entry, where
-- so many of its messages were found in the recorder's files, and so many losses in their gaps. What was handed on is not
-- counted: it is the next recorder's.
abbrev pub untold : AccountOut → LossesOut → ℕ → ℕ → ℕ
untold account losses found found_lost =
    saturated (account.accepted + account.lost) - (account.erased + losses.erased_lost + losses.handed + losses.handed_lost + found
    + found_lost)
