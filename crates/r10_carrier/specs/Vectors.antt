-- The events of a message that is carried, and why none is, in numbers.
use Rattle.std.specs.Prelude.{◌≡◌, ℕ, [], ◌∷◌, None, Some, refl}
use Rattle.r10_body.specs.Messages.{discrete_message}
use Rattle.r10_body.specs.declared.entry.Sample.{Sample}
use Rattle.r10_body.specs.declared.gap.Gap.{Gap}
use Rattle.r10_body.specs.declared.gap.Gap.TheVariants.{Whole, Lost, Unknown}
use Rattle.r10_body.specs.declared.message.Kind.TheVariants as kinds
use Rattle.r10_body.specs.declared.spec.ChannelSpec.{ChannelSpec}
use Rattle.r10_machine.specs.declared.event.Event.TheVariants as events
use Rattle.r10_calls.specs.Carrying.{events_of}
use Rattle.r10_carrier.specs.Carrying.{in_hand, why_not}
use Rattle.r10_carrier.specs.Opening.{channel_place}

abbrev sample : Gap → Sample
sample gap = record { count = 70; message = discrete_message 9; gap = gap }

-- a message is one offer; after a loss it is the loss and then the offer
without_loss : events_of 5 (sample Whole) ≡ events.Offer 5 70 (discrete_message 9) ∷ []
without_loss = refl

after_three : events_of 5 (sample (Lost 3)) ≡ events.Lose 5 3 ∷ events.Offer 5 70 (discrete_message 9) ∷ []
after_three = refl

after_some : events_of 5 (sample Unknown) ≡ events.Lose 5 1 ∷ events.Offer 5 70 (discrete_message 9) ∷ []
after_some = refl

abbrev channel : ℕ → ChannelSpec
channel id = record { id = id; kind = kinds.Discrete; capacity = 3; check = 0; bytes = 4096; number = 100; bits = 8 }

-- a lane that is full is no fault; another channel, and a count that falls, are
it_is_full : why_not 12 ≡ 0
it_is_full = refl

it_is_another : why_not 6 ≡ 6
it_is_another = refl

it_falls : why_not 11 ≡ 11
it_falls = refl

-- where a channel is
second_is_at_1 : channel_place (channel 4 ∷ channel 5 ∷ channel 6 ∷ []) 5 ≡ Some 1
second_is_at_1 = refl

a_fourth_is_nowhere : channel_place (channel 4 ∷ channel 5 ∷ channel 6 ∷ []) 7 ≡ None
a_fourth_is_nowhere = refl

nothing_is_in_hand : in_hand None ≡ []
nothing_is_in_hand = refl
