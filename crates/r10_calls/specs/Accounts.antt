-- What became of the messages of a channel, as a caller of another language has it.
use Rattle.std.specs.Prelude.{ℕ, ◌+◌, ◌==◌, Bool, List, cond, find, None, Some}
use Rattle.r10_body.specs.declared.spec.ChannelSpec.{ChannelSpec}
use Rattle.r10_machine.specs.Machine.{change_first, saturated}
use Rattle.r10_machine.specs.declared.reply.ChannelStatus.{ChannelStatus}
use Rattle.r10_machine.specs.declared.reply.Reply.{Reply as ReplyValue}
use Rattle.r10_refinement.specs.KeptState.{Kept}
use Rattle.r10_world.specs.State.{number_on}
use Rattle.r10_calls.specs.Listing.{told_lane}
use Rattle.r10_calls.specs.declared.accounts.Accepted.{Accepted}
use Rattle.r10_calls.specs.declared.accounts.AccountOut.{AccountOut}

abbrev pub is_counted_on : ℕ → Accepted → Bool
is_counted_on channel one = one.channel == channel

-- of a channel none was accepted yet
abbrev pub not_yet : ChannelSpec → Accepted
not_yet spec = record { channel = spec.id; messages = 0; handed = 0; handed_lost = 0; erased_lost = 0 }

abbrev pub one_more : Accepted → Accepted
one_more one = record one { messages = saturated (one.messages + 1) }

-- one more message of a channel was accepted
abbrev pub more_on : ℕ → List Accepted → List Accepted
more_on channel accepted = change_first (is_counted_on channel) one_more accepted

-- an offer to a channel was answered so: 0 says that its message was accepted
abbrev pub counted_offer : ℕ → ℕ → List Accepted → List Accepted
counted_offer answer channel accepted = cond (answer == 0) (more_on channel accepted) accepted

abbrev pub accepted_on : ℕ → List Accepted → ℕ
accepted_on channel accepted = elim (find (is_counted_on channel) accepted) [ None ↦ 0 | Some one ↦ one.messages ]

-- what erases took of a channel, as the recorder keeps it in every mode
abbrev pub erased_on : ℕ → Kept → ℕ
erased_on channel k = elim (number_on channel k.config.channels k.erased) [ None ↦ 0 | Some erased ↦ erased ]

abbrev pub account_out : List Accepted → Kept → ChannelStatus → AccountOut
account_out accepted k c = record {
  accepted = accepted_on c.channel accepted;
  erased = erased_on c.channel k;
  lost = c.lost;
  waiting = c.waiting;
  channel = c.channel;
}

abbrev pub account_given : ReplyValue → ℕ → List Accepted → Kept → AccountOut → AccountOut
account_given reply n accepted k old = elim (told_lane reply n) [ None ↦ old | Some c ↦ account_out accepted k c ]
