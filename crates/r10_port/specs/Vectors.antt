-- A lane of two messages between two threads, call by call.
use Rattle.std.specs.Prelude.{◌≡◌, ℕ, false, List, [], ◌∷◌, Option, Some, None, Ok, Err, refl}
use Rattle.std.proofs.Common.{lit<, lit≤, arith}
use Rattle.std.specs.declared.alloc.Global.{Global}
use Rattle.rtrb.specs.Ends.{capacity_of}
use Rattle.rtrb.specs.declared.end.End.{End}
use Rattle.r10_body.specs.Messages.{discrete_message, uart_message}
use Rattle.r10_body.specs.declared.entry.Sample.{Sample}
use Rattle.r10_body.specs.declared.gap.Gap.{Gap}
use Rattle.r10_body.specs.declared.gap.Gap.TheVariants.{Whole, Lost}
use Rattle.r10_body.specs.declared.message.Kind.TheVariants as kinds
use Rattle.r10_body.specs.declared.message.Message.{Message}
use Rattle.r10_body.specs.declared.refusal.Refusal.TheVariants.{WrongKind, BadMessage, CountBack, Overflow}
use Rattle.r10_body.specs.declared.spec.ChannelSpec.{ChannelSpec}
use Rattle.r10_machine.specs.Machine.{fresh_lane}
use Rattle.r10_port.specs.declared.item.Item.{Item}
use Rattle.r10_port.specs.declared.item.Item.TheVariants.{Announce, Entry}
use Rattle.r10_port.specs.declared.rule.InOrder.{InOrder}
use Rattle.r10_port.specs.Items.{ItemMayFollow}
use Rattle.r10_port.specs.Ends.{Ring, Sending, Receiving, Offered, TookReceived, places, reached_by_outlet, ring_of, next_known}
use Rattle.r10_port.specs.Ends.{unreceived, with_losses}

abbrev channel : ChannelSpec
channel = record { id = 5; kind = kinds.Uart; capacity = 2; check = 0; bytes = 524288; number = 65535; bits = 0 }

abbrev text : ℕ → Message
text byte = uart_message false 0 (byte ∷ [])

abbrev sample : ℕ → ℕ → Gap → Sample
sample count byte gap = record { count = count; message = text byte; gap = gap }

abbrev port : Ring → List Sample → Option ℕ → ℕ → ℕ → ℕ → Sending
port ring sent last missed lost free = record {
  ring = ring;
  lane = record { spec = channel; waiting = sent; last = last; missed = missed; lost = lost; erased = 0 };
  free = free;
}

abbrev outlet : Ring → List Sample → Receiving
outlet ring received = record { ring = ring; spec = channel; received = received; ahead = [] }

abbrev first : Sample
first = sample 1 0x41 Whole

abbrev second : Sample
second = sample 2 0x42 Whole

abbrev fourth : Sample
fourth = sample 4 0x44 (Lost 1)

module _ (ring : Ring) where
  abbrev full : Sending
  full = port ring (first ∷ second ∷ []) (Some 2) 0 0 0

  -- two are sent, the third is lost
  one_is_sent : Offered (record { ring = ring; lane = fresh_lane channel; free = 2 }) 1 (text 0x41) (Ok tt)
      (port ring (first ∷ []) (Some 1) 0 0 1)
  one_is_sent = (refl, lit≤ tt)

  two_are_sent : Offered (port ring (first ∷ []) (Some 1) 0 0 1) 2 (text 0x42) (Ok tt) full
  two_are_sent = (refl, lit≤ tt)

  a_third_is_lost : Offered full 3 (text 0x43) (Err Overflow) (port ring (first ∷ second ∷ []) (Some 2) 1 1 0)
  a_third_is_lost = (refl, refl, refl)

  -- one is taken, and the next that is sent tells that one was lost
  one_is_taken : TookReceived (outlet ring []) (first ∷ []) (outlet ring (first ∷ []))
  one_is_taken = record {
    same = (refl, refl);
    received = refl;
    gives = record { passes = (refl, tt); gaps = (tt, tt); counts = (lit≤ tt, tt); climbs = (lit≤ tt, lit≤ tt) };
    rises = lit≤ tt;
    room = λ e. absurd (cc);
  }

  a_gap_is_marked : Offered (port ring (first ∷ second ∷ []) (Some 2) 1 1 0) 4 (text 0x44) (Ok tt)
      (port ring (first ∷ second ∷ fourth ∷ []) (Some 4) 0 1 0)
  a_gap_is_marked = (refl, lit≤ tt)

  -- after three losses the next tells three, however many were lost before
  three_are_told : Offered (port ring (first ∷ second ∷ []) (Some 2) 3 8 0) 4 (text 0x44) (Ok tt)
      (port ring (first ∷ second ∷ sample 4 0x44 (Lost 3) ∷ []) (Some 4) 0 8 0)
  three_are_told = (refl, lit≤ tt)

  -- losses that were never offered are reported with those that were refused
  more_are_lost : with_losses 40 (port ring (first ∷ second ∷ []) (Some 2) 1 1 0) ≡ port ring (first ∷ second ∷ []) (Some 2) 41 41 0
  more_are_lost = refl

  all_are_told : Offered (with_losses 40 (port ring (first ∷ second ∷ []) (Some 2) 1 1 0)) 4 (text 0x44) (Ok tt)
      (port ring (first ∷ second ∷ sample 4 0x44 (Lost 41) ∷ []) (Some 4) 0 41 0)
  all_are_told = (refl, lit≤ tt)

  none_are_lost : with_losses 0 full ≡ full
  none_are_lost = refl

  both_stay : with_losses 7 (port ring [] None 18446744073709551609 18446744073709551614 1) ≡ port ring [] None 18446744073709551615
      18446744073709551615 1
  both_stay = refl

  two_are_taken : TookReceived (outlet ring (first ∷ [])) (second ∷ fourth ∷ []) (outlet ring (first ∷ second ∷ fourth ∷ []))
  two_are_taken = record {
    same = (refl, refl);
    received = refl;
    gives = record {
      passes = (refl, (refl, tt));
      gaps = (tt, ((lit< tt, lit< tt), tt));
      counts = (lit≤ tt, (lit≤ tt, tt));
      climbs = (lit≤ tt, (lit≤ tt, lit≤ tt));
    };
    rises = lit≤ tt;
    room = λ e. absurd (cc);
  }

  -- what is left between the two ends
  one_is_left : unreceived (outlet ring (first ∷ [])) full ≡ second ∷ []
  one_is_left = refl

  -- the kind is looked at before the message, the message before its length, and the count last; none of them is a loss
  a_wrong_kind : Offered full 1 (discrete_message 0) (Err WrongKind) full
  a_wrong_kind = (refl, refl)

  a_bad_message : Offered full 1 (uart_message false 16384 []) (Err BadMessage) full
  a_bad_message = (refl, refl)

  a_count_back : Offered full 1 (text 0x43) (Err CountBack) full
  a_count_back = (refl, refl)

  -- the losses stay at the greatest of 64 bits
  losses_stay : Offered (port ring [] None 1 18446744073709551615 0) 3 (text 0x43) (Err Overflow)
      (port ring [] None 2 18446744073709551615 0)
  losses_stay = (refl, refl, refl)

  -- what has been reached: nothing, the last that was received
  nothing_reached : reached_by_outlet (outlet ring []) ≡ 0
  nothing_reached = refl

  last_reached : reached_by_outlet (outlet ring (first ∷ second ∷ [])) ≡ 2
  last_reached = refl

module _ (end : End Item Global InOrder) where
  -- the places of a ring are the capacity that its ends have
  places_are_the_capacity : places (ring_of end) ≡ capacity_of end
  places_are_the_capacity = refl

-- a channel is announced first, and then takes what it takes
announced : ItemMayFollow [] (Announce channel)
announced = tt

one_may_follow : ItemMayFollow (Announce channel ∷ []) (Entry first)
one_may_follow = (lit≤ tt, refl, tt)

two_may_follow : ItemMayFollow (Announce channel ∷ Entry first ∷ []) (Entry second)
two_may_follow = (lit≤ tt, refl, tt)

back_may_not : ItemMayFollow (Announce channel ∷ Entry second ∷ []) (Entry first) → ⊥
back_may_not may = absurd (cc)

unannounced_may_not : ItemMayFollow [] (Entry first) → ⊥
unannounced_may_not may = may

-- one that tells a loss of none may not
no_loss_of_none : ItemMayFollow (Announce channel ∷ []) (Entry (sample 1 0x41 (Lost 0))) → ⊥
no_loss_of_none may = absurd (omega (arith, may.2.0))

-- on a channel without room nothing follows
none_may_follow : ItemMayFollow (Announce (record channel { capacity = 0 }) ∷ []) (Entry first) → ⊥
none_may_follow may = absurd (omega (arith, may.0))

-- what is known to come next
next_is_known : next_known (Entry second ∷ []) ≡ Some second
next_is_known = refl

nothing_is_known : next_known [] ≡ None
nothing_is_known = refl
