-- Which messages of a channel the replies to events accepted, each with the number of those that were lost before it.
use Rattle.std.specs.Prelude.{ℕ, ◌+◌, Bool, false, ◌||◌, List, [], ◌∷◌, ◌++◌, zip, ◌==◌, if◌then◌else◌}
use Rattle.std.specs.List.{list_any, sum_by}
use Rattle.r10_body.specs.Gaps.{gap_after}
use Rattle.r10_body.specs.declared.entry.Entry.{Entry}
use Rattle.r10_body.specs.declared.refusal.Refusal.TheVariants.{Overflow}
use Rattle.r10_machine.specs.Machine.{saturated}
use Rattle.r10_machine.specs.declared.event.Event.{Event}
use Rattle.r10_machine.specs.declared.event.Event.TheVariants.{Offer, Lose}
use Rattle.r10_machine.specs.declared.reply.Reply.{Reply}
use Rattle.r10_machine.specs.declared.reply.Reply.TheVariants.{Done, Refused}

-- an event and the reply to it
abbrev pub Exchange : Type 0
Exchange = Event × Reply

-- an offer on the channel that was accepted
abbrev pub was_accepted : ℕ → Exchange → Bool
was_accepted channel (Offer id count message, Done) = id == channel
was_accepted channel exchange = false

-- how many messages of the channel an exchange loses: one where an offer was refused because too many waited, and as many as a
-- loss reported
abbrev pub lost_by : ℕ → Exchange → ℕ
lost_by channel (Offer id count message, Refused Overflow) = if id == channel then 1 else 0
lost_by channel (Lose id lost, Done) = if id == channel then lost else 0
lost_by channel exchange = 0

-- what stands after the last element that passes a test; all, where none does
abbrev pub behind_last : {X : Type 0} → (X → Bool) → List X → List X
behind_last test [] = []
behind_last test (x ∷ xs) = if test x || list_any test xs then behind_last test xs else x ∷ xs

-- what came after the last message that was accepted on the channel
abbrev pub since_accepted : ℕ → List Exchange → List Exchange
since_accepted channel before = behind_last (was_accepted channel) before

-- How many were lost on the channel since the last message that was accepted. Where none was accepted yet, those that were
-- missed before all of these count too. The number stays at the greatest of 64 bits.
abbrev pub lost_since : ℕ → ℕ → List Exchange → ℕ
lost_since channel missed before = saturated (sum_by (lost_by channel)
    (since_accepted channel before) + (if list_any (was_accepted channel) before then 0 else missed))

-- the entry that an exchange makes on the channel after so many losses, if it accepts a message there
abbrev pub entry_with : ℕ → ℕ → Exchange → List Entry
entry_with channel lost (Offer id count message, Done) = if id == channel
    then record { channel = channel; count = count; message = message; gap = gap_after lost } ∷ [] else []
entry_with channel lost exchange = []

-- those that exchanges after others make, in their order
abbrev pub entries_behind : ℕ → ℕ → List Exchange → List Exchange → List Entry
entries_behind channel missed before [] = []
entries_behind channel missed before (x ∷ xs) = entry_with channel (lost_since channel missed before) x
    ++ entries_behind channel missed (before ++ x ∷ []) xs

-- the entries of a channel's accepted messages, in their order, where so many were missed before all of them
abbrev pub accepted_entries : ℕ → ℕ → List Event → List Reply → List Entry
accepted_entries channel missed events replies = entries_behind channel missed [] (zip events replies)
