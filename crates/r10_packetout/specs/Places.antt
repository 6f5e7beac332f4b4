-- Where a channel stands in a table of sequence numbers.
use Rattle.std.specs.Prelude.{◌≡◌, ℕ, ◌<◌, ◌≤◌, true, false, List, length, ◌==◌, slice_index_or}
use Rattle.r10_packetout.specs.declared.numbers.Number.{Number}

-- the first place that has the channel, or the length where none has
pub record IsPlace (channel : ℕ) (numbers : List Number) (n : ℕ) : Type 0 where
  pub before : (k : ℕ) (d : Number) → k < n → (slice_index_or numbers k d).channel == channel ≡ false
  pub here : (d : Number) → n < length numbers → (slice_index_or numbers n d).channel == channel ≡ true
  pub within : n ≤ length numbers
