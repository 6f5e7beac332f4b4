-- What packets come to, by channel.
use Rattle.std.specs.Prelude.{◌≡◌, ℕ, ◌+◌, ◌-◌, ◌%◌, ◌^◌, ◌==◌, Bool, not, cond, List, [], ◌∷◌, length, filter, count_by, min}
use Rattle.std.specs.Prelude.{nat_eq, Option, Some, None}
use Rattle.std.specs.List.{sum_by}
use Rattle.std.specs.HashMap.{HashMap, get}
use Rattle.r10_count.specs.Bytes.{bit_of}
use Rattle.r10_packet.specs.Framing.{header_at, has_data_checksum}
use Rattle.r10_body.specs.Foreign.{opaque_at}
use Rattle.r10_survey.specs.Entries.{AreEntriesIn}
use Rattle.r10_survey.specs.declared.channel.ChannelCount.{ChannelCount}

-- a number, or the largest of 64 bits where it is larger
abbrev pub counted : ℕ → ℕ
counted n = min n (2 ^ 64 - 1)

-- the packets of a channel, in order
abbrev pub is_on : ℕ → List ℕ → Bool
is_on channel p = (header_at p).channel == channel

abbrev pub packets_on : ℕ → List (List ℕ) → List (List ℕ)
packets_on channel packets = filter (is_on channel) packets

-- a packet has another data type than this one; a data checksum that is not right; the flag of messages that were lost before it
abbrev pub is_other : ℕ → List ℕ → Bool
is_other type p = not ((header_at p).data_type == type)

abbrev pub is_wrong : List ℕ → Bool
is_wrong p = not (has_data_checksum p)

abbrev pub has_loss : List ℕ → Bool
has_loss p = bit_of 4 (header_at p).flags

-- a sequence number is not the one after another
abbrev pub breaks : ℕ → ℕ → Bool
breaks before sequence = not (sequence == (before + 1) % 256)

-- how many packets of a channel have not the sequence number after that of the one before, of which the first has none or this
-- one before it
abbrev pub gaps_after : ℕ → List (List ℕ) → ℕ
gaps_after before [] = 0
gaps_after before (p ∷ packets) = cond (breaks before (header_at p).sequence) 1 0 + gaps_after (header_at p).sequence packets

abbrev pub gaps_in : List (List ℕ) → ℕ
gaps_in [] = 0
gaps_in (p ∷ packets) = gaps_after (header_at p).sequence packets

-- the last packet, or this one where there is none
abbrev pub last_of : List ℕ → List (List ℕ) → List ℕ
last_of p [] = p
last_of p (q ∷ packets) = last_of q packets

-- these are the numbers of a channel that has these packets, of which the first is this one
pub record AreCountsFrom (p : List ℕ) (more : List (List ℕ)) (c : ChannelCount) : Type 0 where
  pub data_type : c.data_type ≡ (header_at p).data_type
  pub other_types : c.other_types ≡ counted (count_by (is_other (header_at p).data_type) (p ∷ more))
  pub packets : c.packets ≡ counted (length (p ∷ more))
  pub bytes : c.bytes ≡ counted (sum_by length (p ∷ more))
  pub entries : List (List ℕ)
  pub entries_are : AreEntriesIn (p ∷ more) entries
  pub entry_number : c.entries ≡ counted (length entries)
  pub opaque : c.opaque ≡ counted (count_by opaque_at (p ∷ more))
  pub wrong_sums : c.wrong_sums ≡ counted (count_by is_wrong (p ∷ more))
  pub losses : c.losses ≡ counted (count_by has_loss (p ∷ more))
  pub gaps : c.gaps ≡ counted (gaps_in (p ∷ more))
  pub sequence : c.sequence ≡ (header_at (last_of p more)).sequence
  pub first : c.first ≡ (header_at p).counter
  pub last : c.last ≡ (header_at (last_of p more)).counter

-- the same of a channel's packets, of which there is one or more
abbrev pub AreCountsOf : List (List ℕ) → ChannelCount → Type 0
AreCountsOf [] c = ⊥
AreCountsOf (p ∷ more) c = AreCountsFrom p more c

-- a channel's numbers, and none where it has no packet
abbrev pub IsCountOfChannel : List (List ℕ) → ℕ → Option ChannelCount → Type 0
IsCountOfChannel packets channel None = packets_on channel packets ≡ []
IsCountOfChannel packets channel (Some c) = AreCountsOf (packets_on channel packets) c

module _ {S : Type 0} where
  -- the numbers of each channel
  abbrev pub AreCounts : HashMap ℕ ChannelCount S → List (List ℕ) → Type 0
  AreCounts known packets = (channel : ℕ) → IsCountOfChannel packets channel (get nat_eq known channel)
