-- What was offered and lost on a channel, and what entries tell of it, in numbers.
use Rattle.std.specs.Prelude.{◌≡◌, ℕ, ◌+◌, Bool, false, List, length, ◌==◌}
use Rattle.std.specs.List.{sum_by}
use Rattle.r10_body.specs.Gaps.{told_lost}
use Rattle.r10_body.specs.declared.entry.Entry.{Entry}
use Rattle.r10_machine.specs.declared.event.Event.TheVariants.{Offer}
use Rattle.r10_machine.specs.declared.reply.Reply.TheVariants.{Refused}
use Rattle.r10_machine.specs.ControlCalls.{own_entries}
use Rattle.r10_machine.specs.Machine.{Machine, saturated}
use Rattle.r10_account.specs.Accepted.{Exchange, lost_by, lost_since}
use Rattle.r10_account.specs.Account.{erased_of, waiting_of}

-- an offer on the channel
abbrev pub was_offered : ℕ → Exchange → Bool
was_offered channel (Offer id count message, reply) = id == channel
was_offered channel exchange = false

-- one that was refused
abbrev pub was_refused : ℕ → Exchange → Bool
was_refused channel (Offer id count message, Refused r) = id == channel
was_refused channel exchange = false

-- what the channel lost in all
abbrev pub all_lost : ℕ → List Exchange → ℕ
all_lost channel exchanges = sum_by (lost_by channel) exchanges

-- what the gaps of entries tell in all
abbrev pub all_told : List Entry → ℕ
all_told entries = sum_by (λ e. told_lost e.gap) entries

-- The gaps of what erases took, of what the files have that this recorder began, and of what waits, tell all that the channel
-- lost before its last accepted message; the rest was lost since.
pub record TellLosses (channel : ℕ) (m : Machine) (exchanges : List Exchange) : Type 0 where
  pub gone : List Entry
  pub erased : erased_of channel m.lanes ≡ saturated (length gone)
  pub reported : all_told gone + all_told (own_entries channel m.files) + all_told
      (waiting_of channel m.lanes) + lost_since channel 0 exchanges ≡ all_lost channel exchanges
