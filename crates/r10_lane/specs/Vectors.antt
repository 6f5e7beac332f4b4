-- A lane of two messages, offer by offer.
use Rattle.std.specs.Prelude.{◌≡◌, ℕ, false, List, [], ◌∷◌, Option, Some, None, Ok, Err, refl}
use Rattle.std.proofs.Common.{lit≤}
use Rattle.r10_body.specs.Messages.{uart_message}
use Rattle.r10_body.specs.declared.entry.Sample.{Sample}
use Rattle.r10_body.specs.declared.gap.Gap.{Gap}
use Rattle.r10_body.specs.declared.gap.Gap.TheVariants.{Whole, Lost}
use Rattle.r10_body.specs.declared.message.Kind.TheVariants as kinds
use Rattle.r10_body.specs.declared.message.Message.{Message}
use Rattle.r10_body.specs.declared.refusal.Refusal.TheVariants.{CountBack, Overflow, BadMessage}
use Rattle.r10_body.specs.declared.spec.ChannelSpec.{ChannelSpec}
use Rattle.r10_machine.specs.Calls.{losing}
use Rattle.r10_machine.specs.Machine.{Lane, fresh_lane}
use Rattle.r10_lane.specs.Lanes.{Offers, TookWaiting, Waits, reached, refused_lane}

abbrev channel : ChannelSpec
channel = record { id = 5; kind = kinds.Uart; capacity = 2; check = 0; bytes = 524288; number = 65535; bits = 0 }

abbrev text : ℕ → Message
text byte = uart_message false 0 (byte ∷ [])

abbrev sample : ℕ → ℕ → Gap → Sample
sample count byte gap = record { count = count; message = text byte; gap = gap }

abbrev lane : List Sample → Option ℕ → ℕ → ℕ → Lane
lane waiting last missed lost = record { spec = channel; waiting = waiting; last = last; missed = missed; lost = lost; erased = 0 }

abbrev first : Sample
first = sample 1001 0x41 Whole

abbrev second : Sample
second = sample 1002 0x42 Whole

abbrev full : Lane
full = lane (first ∷ second ∷ []) (Some 1002) 0 0

-- both are messages of the channel, and their counts rise to the last accepted
both_wait : Waits channel 1002 (first ∷ second ∷ [])
both_wait = record {
  taken = (refl, (refl, tt));
  gaps = (tt, (tt, tt));
  counts = (lit≤ tt, (lit≤ tt, tt));
  climbs = (lit≤ tt, (lit≤ tt, lit≤ tt));
}

-- two are accepted, the third is lost
one_waits : Offers (fresh_lane channel) 1001 (text 0x41) (Ok tt) (lane (first ∷ []) (Some 1001) 0 0)
one_waits = (refl, refl)

two_wait : Offers (lane (first ∷ []) (Some 1001) 0 0) 1002 (text 0x42) (Ok tt) full
two_wait = (refl, refl)

a_third_is_lost : Offers full 1003 (text 0x43) (Err Overflow) (lane (first ∷ second ∷ []) (Some 1002) 1 1)
a_third_is_lost = (refl, refl)

-- one is taken, and the next that is accepted tells that one was lost
one_is_taken : TookWaiting (lane (first ∷ second ∷ []) (Some 1002) 1 1) (first ∷ []) (lane (second ∷ []) (Some 1002) 1 1)
one_is_taken =
    record {
      front = refl;
      others = refl;
      gives = record {
        passes = (refl, tt);
        gaps = (tt, tt);
        counts = (lit≤ tt, tt);
        climbs = (lit≤ tt, lit≤ tt);
      };
      rises = lit≤ tt;
    }

a_gap_is_marked : Offers (lane (second ∷ []) (Some 1002) 1 1) 1004 (text 0x44) (Ok tt)
    (lane (second ∷ sample 1004 0x44 (Lost 1) ∷ []) (Some 1004) 0 1)
a_gap_is_marked = (refl, refl)

-- after three losses the next tells three
three_are_told : Offers (lane (second ∷ []) (Some 1002) 3 3) 1004 (text 0x44) (Ok tt)
    (lane (second ∷ sample 1004 0x44 (Lost 3) ∷ []) (Some 1004) 0 3)
three_are_told = (refl, refl)

-- the losses stay at the greatest of 64 bits
losses_stay : refused_lane (lane (first ∷ second ∷ []) (Some 1002) 1 18446744073709551615) 1003 (text 0x43) ≡ lane
    (first ∷ second ∷ []) (Some 1002) 2 18446744073709551615
losses_stay = refl

-- losses that were never offered count with them, and the next message tells the sum
more_are_lost : losing 40 (lane (first ∷ second ∷ []) (Some 1002) 1 1) ≡ lane (first ∷ second ∷ []) (Some 1002) 41 41
more_are_lost = refl

all_are_told : Offers (losing 40 (lane (second ∷ []) (Some 1002) 1 1)) 1004 (text 0x44) (Ok tt)
    (lane (second ∷ sample 1004 0x44 (Lost 41) ∷ []) (Some 1004) 0 41)
all_are_told = (refl, refl)

-- before the first message too
first_is_marked : Offers (losing 2 (losing 40 (fresh_lane channel))) 1001 (text 0x41) (Ok tt)
    (lane (sample 1001 0x41 (Lost 42) ∷ []) (Some 1001) 0 42)
first_is_marked = (refl, refl)

none_are_lost : losing 0 full ≡ full
none_are_lost = refl

both_stay : losing 7 (lane [] None 18446744073709551609 18446744073709551614) ≡ lane [] None 18446744073709551615
    18446744073709551615
both_stay = refl

-- the count is looked at before the room, and the message before the count; none of them is a loss
a_count_back : Offers full 1001 (text 0x43) (Err CountBack) full
a_count_back = (refl, refl)

a_bad_message : Offers full 1001 (uart_message false 16384 []) (Err BadMessage) full
a_bad_message = (refl, refl)

-- what has been reached: nothing, the first that waits, the last accepted
nothing_reached : reached (fresh_lane channel) ≡ 0
nothing_reached = refl

first_reached : reached full ≡ 1001
first_reached = refl

last_reached : reached (lane [] (Some 1004) 0 1) ≡ 1004
last_reached = refl
