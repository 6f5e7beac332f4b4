-- What offers at the sending end of a lane answer, and what it shows, in numbers.
use Rattle.std.specs.Prelude.{◌≡◌, ℕ, false, [], ◌∷◌, replicate, Some, Ok, Err, refl}
use Rattle.std.proofs.Common.{lit<, arith}
use Rattle.r10_body.specs.Messages.{bus_message, data_message, discrete_message, uart_message}
use Rattle.r10_body.specs.declared.entry.Sample.{Sample}
use Rattle.r10_body.specs.declared.gap.Gap.TheVariants.{Whole}
use Rattle.r10_body.specs.declared.message.Kind.TheVariants as kinds
use Rattle.r10_body.specs.declared.refusal.Refusal.TheVariants.{WrongKind, Overflow}
use Rattle.r10_body.specs.declared.spec.ChannelSpec.{ChannelSpec}
use Rattle.r10_port.specs.Ends.{Ring, Sending}
use Rattle.r10_ends.specs.Sending.{WantsMemory, number_answered, port_out}

-- an answer's number is 0, or its refusal's
accepted_is_0 : number_answered (Ok tt) ≡ 0
accepted_is_0 = refl

wrong_kind_is_7 : number_answered (Err WrongKind) ≡ 7
wrong_kind_is_7 = refl

overflow_is_12 : number_answered (Err Overflow) ≡ 12
overflow_is_12 = refl

-- up to 38 bytes have their place in a message
short_wants_none : WantsMemory (uart_message false 0 (replicate 38 0x41)) → ⊥
short_wants_none wants = absurd (omega (arith, wants))

long_wants_some : WantsMemory (uart_message false 0 (replicate 39 0x41))
long_wants_some = lit< tt

long_of_another_source : WantsMemory (data_message false false 0 (replicate 39 0x41))
long_of_another_source = lit< tt

words_want_some : WantsMemory (bus_message 0 0 [])
words_want_some = tt

states_want_none : WantsMemory (discrete_message 7) → ⊥
states_want_none wants = wants

-- what a port shows: how many it accepted, how many were lost, its room and its channel
module _ (ring : Ring) where
  abbrev channel : ChannelSpec
  channel = record { id = 5; kind = kinds.Discrete; capacity = 3; check = 0; bytes = 4096; number = 100; bits = 8 }

  abbrev sample : ℕ → Sample
  sample count = record { count = count; message = discrete_message 1; gap = Whole }

  abbrev port : Sending
  port =
      record {
        ring = ring;
        lane = record {
          spec = channel;
          waiting = sample 1 ∷ sample 2 ∷ [];
          last = Some 2;
          missed = 1;
          lost = 4;
          erased = 0;
        };
        free = 1;
      }

  two_and_four : port_out port ≡ record { accepted = 2; lost = 4; capacity = 3; channel = 5 }
  two_and_four = refl
