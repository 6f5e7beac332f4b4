-- The samples that the buffers of a channel hold, read from their bytes.
use Rattle.std.specs.Prelude.{ℕ, zero, suc, ◌+◌, ◌/◌, ◌%◌, ◌^◌, ◌==◌, List, [], ◌∷◌, drop, take, Option, Some, None}
use Rattle.r10_count.specs.Bytes.{u16_at, u32_at, u64_at}
use Rattle.r10_body.specs.Messages.{arinc_message, bus_message, data_message, discrete_message, spelling_len, uart_message}
use Rattle.r10_body.specs.declared.entry.Sample.{Sample}
use Rattle.r10_body.specs.declared.gap.Gap.{Gap}
use Rattle.r10_body.specs.declared.gap.Gap.TheVariants.{Whole}
use Rattle.r10_body.specs.declared.message.Kind.{Kind}
use Rattle.r10_body.specs.declared.message.Kind.TheVariants as kinds
use Rattle.r10_body.specs.declared.message.Message.{Message}
use Rattle.r10_builder.specs.declared.open_packet.OpenPacket.{OpenPacket}

-- so many 16-bit words that stand end to end
abbrev pub words_at : ℕ → List ℕ → List ℕ
words_at zero bytes = []
words_at (suc n) bytes = u16_at bytes 0 ∷ words_at n (drop 2 bytes)

abbrev pub whole_sample : ℕ → Message → Sample
whole_sample count m = record { count = count; message = m; gap = Whole }

-- the sample that stands first in bytes, after one at a count
unfoldable pub sample_at : Kind → ℕ → List ℕ → Sample
sample_at kinds.Uart before bytes =
    let header = u32_at bytes 8 in
    whole_sample (u64_at bytes 0) (uart_message (header / 2 ^ 31 == 1) (header / 2 ^ 16 % 2 ^ 14)
    (take (header % 2 ^ 16) (drop 12 bytes)))
sample_at kinds.Bus1553 before bytes = whole_sample (u64_at bytes 0)
    (bus_message (u16_at bytes 8) (u16_at bytes 10) (words_at (u16_at bytes 12 / 2) (drop 14 bytes)))
sample_at kinds.Arinc before bytes =
    let header = u32_at bytes 0 in
    whole_sample (before + header % 2 ^ 20) (arinc_message (header / 2 ^ 24) (header / 2 ^ 23 % 2 == 1) (header / 2 ^ 22 % 2 == 1)
    (header / 2 ^ 21 % 2 == 1) (u32_at bytes 4))
sample_at kinds.Discrete before bytes = whole_sample (u64_at bytes 0) (discrete_message (u32_at bytes 8))
sample_at kinds.Message before bytes =
    let header = u32_at bytes 8 in
    whole_sample (u64_at bytes 0) (data_message (header / 2 ^ 31 == 1) (header / 2 ^ 30 % 2 == 1) (header / 2 ^ 16 % 2 ^ 14)
    (take (header % 2 ^ 16) (drop 12 bytes)))

-- so many samples that stand end to end
abbrev pub samples_at : Kind → ℕ → ℕ → List ℕ → List Sample
samples_at kind zero before bytes = []
samples_at kind (suc n) before bytes =
    sample_at kind before bytes
    ∷ samples_at kind n (sample_at kind before bytes).count (drop (spelling_len (sample_at kind before bytes).message) bytes)

-- the first sample has a gap or none
abbrev pub with_gap : Gap → List Sample → List Sample
with_gap gap [] = []
with_gap gap (s ∷ samples) = record s { gap = gap } ∷ samples

-- the samples of a channel of a kind
unfoldable pub samples_in : Kind → Option OpenPacket → List ℕ → List Sample
samples_in kind None body = []
samples_in kind (Some o) body = with_gap o.gap (samples_at kind o.number o.first (drop 4 body))
