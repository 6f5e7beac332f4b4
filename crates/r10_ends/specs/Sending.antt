-- Offers by the sending end of a lane, as a caller of another language has them.
use Rattle.std.specs.Prelude.{◌≡◌, ◌⊎◌, ℕ, ◌<◌, length, Result, Ok, Err}
use Rattle.r10_body.specs.Refusals.{refusal_number}
use Rattle.r10_body.specs.declared.message.Message.{Message}
use Rattle.r10_body.specs.declared.message.Message.TheVariants as messages
use Rattle.r10_body.specs.declared.refusal.Refusal.{Refusal}
use Rattle.r10_body.specs.Statuses.{memory_status}
use Rattle.r10_machine.specs.Machine.{saturated}
use Rattle.r10_port.specs.Ends.{Offered, Sending, sent}
use Rattle.r10_ends.specs.declared.port_out.PortOut.{PortOut}

-- the number of an answer: 0, or that of its refusal
abbrev pub number_answered : Result (Unit {0}) Refusal → ℕ
number_answered (Ok x) = 0
number_answered (Err r) = refusal_number r

-- a message was offered at the port, which answered this number
abbrev pub OffersByPort : Sending → ℕ → Message → ℕ → Sending → Type 0
OffersByPort old count message answer new = (given : Result (Unit {0}) Refusal) × Offered old count message given new
    × (answer ≡ number_answered given)

-- memory may be wanted for it: at most 38 bytes have their place in a message
abbrev pub WantsMemory : Message → Type 0
WantsMemory (messages.Uart m) = 38 < length m.bytes
WantsMemory (messages.Bus1553 m) = Unit {0}
WantsMemory (messages.Arinc m) = ⊥
WantsMemory (messages.Discrete m) = ⊥
WantsMemory (messages.Message m) = 38 < length m.bytes
WantsMemory (messages.Time civil) = ⊥
WantsMemory (messages.Event number count) = ⊥

-- or memory that it wants was refused, and nothing changed
abbrev pub OffersOrLacks : Sending → ℕ → Message → ℕ → Sending → Type 0
OffersOrLacks old count message answer new = OffersByPort old count message answer new
    ⊎ (WantsMemory message × (answer ≡ memory_status) × (new ≡ old))

-- how the sending end is
abbrev pub port_out : Sending → PortOut
port_out p = record {
  accepted = saturated (length (sent p));
  lost = p.lane.lost;
  capacity = p.lane.spec.capacity;
  channel = p.lane.spec.id;
}
