-- When packets are closed, written out.
use Rattle.std.specs.Prelude.{◌+◌, ◌++◌, length, ◌≡◌, ℕ, true, false, List, [], ◌∷◌, Some, None, replicate, refl}
use Rattle.std.proofs.Common.{arith, lit≤}
use Rattle.r10_body.specs.Messages.{arinc_message, bus_message, data_message, discrete_message, uart_message}
use Rattle.r10_body.specs.declared.entry.Sample.{Sample}
use Rattle.r10_body.specs.declared.gap.Gap.TheVariants.{Whole, Lost, Unknown}
use Rattle.r10_body.specs.declared.message.Kind.{Kind}
use Rattle.r10_body.specs.declared.message.Kind.TheVariants as kinds
use Rattle.r10_body.specs.declared.message.Message.{Message as MessageValue}
use Rattle.r10_body.specs.declared.spec.ChannelSpec.{ChannelSpec}
use Rattle.r10_builder.specs.Packing.{IsYoung, first_count, last_sample_count, packet_len, reason}
use Rattle.r10_builder.specs.Read.{sample_at, samples_in}
use Rattle.r10_builder.specs.Spelled.{open_body, sample_bytes}
use Rattle.r10_builder.specs.declared.closed.Reason.TheVariants.{Gap, BusGap, Age, Number, Size}

abbrev pub uart_channel : ℕ → ℕ → ℕ → ChannelSpec
uart_channel check bytes number = record {
  id = 5;
  kind = kinds.Uart;
  capacity = 2;
  check = check;
  bytes = bytes;
  number = number;
  bits = 0;
}

abbrev pub text_sample : ℕ → List ℕ → Sample
text_sample count bytes = record { count = count; message = uart_message false 0 bytes; gap = Whole }

-- the third is more than a tenth of a second after the first
pub soon-enough : reason (uart_channel 0 524288 65535) (text_sample 0 [] ∷ []) (text_sample 1000000 []) ≡ None
soon-enough = refl

pub too-late : reason (uart_channel 0 524288 65535) (text_sample 0 [] ∷ text_sample 1000000 [] ∷ [])
    (text_sample 1000001 []) ≡ Some Age
too-late = refl

-- a tenth of a second after the first, and a count later
pub still-young : IsYoung 1001000 (text_sample 1000 [] ∷ [])
still-young = lit≤ tt

pub no-longer-young : IsYoung 1001001 (text_sample 1000 [] ∷ []) → ⊥
no-longer-young young = omega (arith, young)

-- a packet of two
pub one-of-two : reason (uart_channel 0 524288 2) (text_sample 0 [] ∷ []) (text_sample 1 []) ≡ None
one-of-two = refl

pub two-of-two : reason (uart_channel 0 524288 2) (text_sample 0 [] ∷ text_sample 1 [] ∷ []) (text_sample 2 []) ≡ Some Number
two-of-two = refl

-- messages of 20 bytes, of which three go into 128 bytes
abbrev pub long_at : ℕ → Sample
long_at count = text_sample count (replicate 20 0x78)

abbrev pub three_long : List Sample
three_long = long_at 0 ∷ long_at 1 ∷ long_at 2 ∷ []

pub three-long : packet_len 0 three_long ≡ 124
three-long = refl

pub three-long-8 : packet_len 8 three_long ≡ 128
three-long-8 = refl

pub three-long-32 : packet_len 32 three_long ≡ 128
three-long-32 = refl

pub third-fits : reason (uart_channel 32 128 65535) (long_at 0 ∷ long_at 1 ∷ []) (long_at 2) ≡ None
third-fits = refl

pub fourth-too-long : reason (uart_channel 0 128 65535) three_long (long_at 3) ≡ Some Size
fourth-too-long = refl

-- a gap is before all else, and no reason where nothing is open
pub lost-before : reason (uart_channel 0 128 3) three_long (record (long_at 2000000) { gap = Lost 1 }) ≡ Some Gap
lost-before = refl

-- also where nobody knows how many were lost
pub unknown-before : reason (uart_channel 0 128 3) three_long (record (long_at 2) { gap = Unknown }) ≡ Some Gap
unknown-before = refl

pub late-and-many : reason (uart_channel 0 128 3) three_long (long_at 2000000) ≡ Some Age
late-and-many = refl

pub many-and-long : reason (uart_channel 0 128 3) three_long (long_at 3) ≡ Some Number
many-and-long = refl

pub nothing-open : reason (uart_channel 0 128 3) [] (record (long_at 3) { gap = Lost 1 }) ≡ None
nothing-open = refl

-- ---- ARINC 429

abbrev pub arinc_channel : ChannelSpec
arinc_channel = record { id = 8; kind = kinds.Arinc; capacity = 2; check = 0; bytes = 524288; number = 65535; bits = 0 }

-- a word of the high speed bus 1
abbrev pub word_sample : ℕ → Sample
word_sample count = record { count = count; message = arinc_message 1 false false true 0x12345678; gap = Whole }

pub near-enough : reason arinc_channel (word_sample 5000 ∷ []) (word_sample 1005000) ≡ None
near-enough = refl

pub too-far : reason arinc_channel (word_sample 5000 ∷ word_sample 1005000 ∷ []) (word_sample 2005001) ≡ Some BusGap
too-far = refl

-- near the last word, but not the first
pub near-and-late : reason arinc_channel (word_sample 5000 ∷ word_sample 1005000 ∷ []) (word_sample 1005001) ≡ Some Age
near-and-late = refl

-- a UART message may be far from the last one
pub far-text : reason (uart_channel 0 524288 65535) (text_sample 5000 [] ∷ text_sample 1005000 [] ∷ [])
    (text_sample 2005001 []) ≡ Some Age
far-text = refl

abbrev pub three_words : List Sample
three_words = word_sample 5000 ∷ word_sample 5100 ∷ word_sample 5300 ∷ []

pub three-words : packet_len 0 three_words ≡ 52
three-words = refl

-- with gaps of 0, 100 and 200
abbrev pub three_words_body : List ℕ
three_words_body =
    (0x00 ∷ 0x00 ∷ 0x00 ∷ 0x00 ∷ [])
    ++ (0x00 ∷ 0x00 ∷ 0x20 ∷ 0x01 ∷ 0x78 ∷ 0x56 ∷ 0x34 ∷ 0x12 ∷ [])
    ++ (0x64 ∷ 0x00 ∷ 0x20 ∷ 0x01 ∷ 0x78 ∷ 0x56 ∷ 0x34 ∷ 0x12 ∷ [])
    ++ (0xC8 ∷ 0x00 ∷ 0x20 ∷ 0x01 ∷ 0x78 ∷ 0x56 ∷ 0x34 ∷ 0x12 ∷ [])

pub three-words-open : open_body three_words ≡ three_words_body
unfolding sample_bytes
three-words-open = refl

-- and they are read back
pub three-words-read : samples_in kinds.Arinc (Some (record { first = 5000; last = 5300; number = 3; gap = Whole }))
    three_words_body ≡ three_words
unfolding samples_in sample_at
three-words-read = refl

-- ---- the other kinds: two samples, the first after a gap

abbrev pub two_of : ℕ → MessageValue → MessageValue → List Sample
two_of count m n = record { count = count; message = m; gap = Lost 2 } ∷ record { count = count + 1; message = n; gap = Whole } ∷ []

-- they are read back from the body of their packet
abbrev pub IsReadBack : Kind → List Sample → Type 0
IsReadBack kind samples =
    samples_in kind
    (Some (record { first = first_count samples; last = last_sample_count 0 samples; number = length samples; gap = Lost 2 }))
    (open_body samples) ≡ samples

pub two-texts-read : IsReadBack kinds.Uart (two_of 1000 (uart_message true 16383 (0x41 ∷ 0x42 ∷ 0x43 ∷ []))
    (uart_message false 0 []))
unfolding samples_in sample_at sample_bytes
two-texts-read = refl

pub two-bus-messages-read : IsReadBack kinds.Bus1553 (two_of 2000 (bus_message 0x2000 7 (0x0821 ∷ 0xABCD ∷ []))
    (bus_message 0x1038 0 []))
unfolding samples_in sample_at sample_bytes
two-bus-messages-read = refl

pub two-states-read : IsReadBack kinds.Discrete (two_of 3000 (discrete_message 0x81) (discrete_message 0))
unfolding samples_in sample_at sample_bytes
two-states-read = refl

pub two-messages-read : IsReadBack kinds.Message (two_of 4000 (data_message true false 16383 (0x41 ∷ []))
    (data_message false true 1 []))
unfolding samples_in sample_at sample_bytes
two-messages-read = refl
