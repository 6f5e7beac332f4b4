-- The copy of an offered message.
use Rattle.std.specs.Prelude.{◌≡◌, Option, Some}
use Rattle.r10_body.specs.declared.message.Message.{Message}
use Rattle.r10_machine.specs.declared.event.Event.{Event}
use Rattle.r10_machine.specs.declared.event.Event.TheVariants.{Offer}

-- an offer's message; nothing is asked of another event's
abbrev pub IsCopy : Event → Option Message → Type 0
IsCopy (Offer channel count message) copy = copy ≡ Some message
IsCopy event copy = Unit {0}
