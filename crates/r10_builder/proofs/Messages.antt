-- What a message has that its channel takes.
use Rattle.std.proofs.Common.{◌≡◌, ℕ, ◌+◌, ◌≤◌, true, false, List, [], ◌∷◌, length, None, refl, arith, length-append}
use Rattle.std.specs.Prelude.{nat_le}
use Rattle.std.specs.List.{AllByRecursion, sum_by}
use Rattle.std.proofs.lemmas.Bool.{and_parts, leb-true, le-leb, false≢true}
use Rattle.std.proofs.lemmas.List.Sums.{sum_by-cons}
use Rattle.r10_count.proofs.Rules.{none_broken}
use Rattle.r10_uart.specs.Entry.{uart_entry-size}
use Rattle.r10_uart.specs.Uart.{uart_at}
use Rattle.r10_b1553.specs.Entry.{bus_entry-size}
use Rattle.r10_b1553.specs.Bus.{bus_at}
use Rattle.r10_message.specs.Entry.{message_entry-size}
use Rattle.r10_message.specs.Message.{message_at}
use Rattle.r10_body.specs.Messages.{alone_len, channel_refusal, fits_channel, is_in_range, is_kind, is_short, spelling_len}
use Rattle.r10_body.specs.declared.entry.Sample.{Sample}
use Rattle.r10_body.specs.declared.message.Kind.{Kind}
use Rattle.r10_body.specs.declared.message.Kind.TheVariants as kinds
use Rattle.r10_body.specs.declared.message.Message.{Message}
use Rattle.r10_body.specs.declared.message.Message.TheVariants as messages
use Rattle.r10_body.specs.declared.spec.ChannelSpec.{ChannelSpec}
use Rattle.r10_builder.specs.Packing.{is_near, tenth}
use Rattle.r10_builder.specs.Spelled.{IsWithinTenth, all_bytes, message_bytes, sample_bytes}

pub record Taken (spec : ChannelSpec) (m : Message) : Type 0 where
  pub kind : is_kind spec.kind m ≡ true
  pub range : is_in_range spec.bits m ≡ true
  pub short : is_short m ≡ true
  pub alone : alone_len spec.check m ≤ spec.bytes

pub taken : (spec : ChannelSpec) (m : Message) → channel_refusal spec m ≡ None → Taken spec m
taken spec m none =
    let one = none_broken (is_kind spec.kind m) _ _ none in
    let two = none_broken (is_in_range spec.bits m) _ _ one.1 in
    let three = none_broken (fits_channel spec m) _ _ two.1 in
    let lengths = and_parts (is_short m) (nat_le (alone_len spec.check m) spec.bytes) three.0 in
    record { kind = one.0; range = two.0; short = lengths.0; alone = leb-true (alone_len spec.check m) spec.bytes lengths.1 }

-- ---- lengths

message_length : (kind : Kind) (before count : ℕ) (m : Message) → is_kind kind m ≡ true → length (message_bytes before count m) ≡ spelling_len m
message_length kinds.Uart before count (messages.Uart m) is = uart_entry-size (uart_at count m)
message_length kinds.Bus1553 before count (messages.Bus1553 m) is = bus_entry-size (bus_at count m)
message_length kinds.Arinc before count (messages.Arinc m) is = refl
message_length kinds.Discrete before count (messages.Discrete m) is = refl
message_length kinds.Message before count (messages.Message m) is = message_entry-size (message_at count m)
message_length kind before count m is = absurd (false≢true is)

pub sample_length : (kind : Kind) (before : ℕ) (s : Sample) → is_kind kind s.message ≡ true → length (sample_bytes before s) ≡ spelling_len s.message
unfolding sample_bytes
sample_length kind before s is = message_length kind before s.count s.message is

pub all_length : (spec : ChannelSpec) (before : ℕ) (samples : List Sample) → AllByRecursion (λ s. channel_refusal spec s.message ≡ None) samples
    → length (all_bytes before samples) ≡ sum_by (λ s. spelling_len s.message) samples
all_length spec before [] all = refl
all_length spec before (s ∷ samples) all =
    omega (
      arith,
      length-append (sample_bytes before s) (all_bytes s.count samples),
      sample_length spec.kind before s (taken spec s.message all.0).kind,
      all_length spec s.count samples all.1,
      sum_by-cons (λ s. spelling_len s.message) s samples,
    )

-- ---- ranges

pub reaches : (kind : Kind) (before count : ℕ) (m : Message) → is_kind kind m ≡ true → before ≤ count → is_near kind before count ≡ true → IsWithinTenth before count m
reaches kinds.Arinc before count (messages.Arinc m) is le near = (le, leb-true count (before + tenth) near)
reaches kind before count (messages.Arinc m) is le near = absurd (false≢true is)
reaches kind before count m is le near = tt

-- a sample is near itself
pub near_itself : (kind : Kind) (count : ℕ) → is_near kind count count ≡ true
near_itself kinds.Arinc count = le-leb count (count + tenth) (omega arith)
near_itself kind count = refl
