-- What is kept of channels.
use Rattle.std.specs.Prelude.{◌≡◌, ℕ, ◌<◌, List, count_by, nat_eq, Option, Some, None}
use Rattle.std.specs.List.{AllByRecursion}
use Rattle.std.specs.HashMap.{HashMap, get}
use Rattle.r10_body.specs.Content.{type_of}
use Rattle.r10_body.specs.Files.{on_channel}
use Rattle.r10_body.specs.Packets.{Packet, file_entries}
use Rattle.r10_body.specs.Rules.{packet_on}
use Rattle.r10_body.specs.Sequence.{next_sequence, last_count}
use Rattle.r10_file_rules.specs.declared.channels.ChannelTrack.{ChannelTrack}

-- the packets on a channel have this data type
abbrev pub HaveType : ℕ → ℕ → List Packet → Type 0
HaveType channel type packets = AllByRecursion (λ p. p.channel ≡ channel → type_of p.content ≡ type) packets

-- what is kept of a channel that has packets
pub record KeptOf (packets : List Packet) (channel : ℕ) (track : ChannelTrack) : Type 0 where
  pub some : 0 < count_by (packet_on channel) packets
  -- channel 0 alone may have packets of two types
  pub types : 0 < channel → HaveType channel track.data_type packets
  pub sequence : track.sequence ≡ next_sequence channel packets
  pub last : track.last ≡ last_count 0 (on_channel channel (file_entries packets))

-- what is kept of a channel, and nothing where it has no packets
abbrev pub IsKeptOfChannel : List Packet → ℕ → Option ChannelTrack → Type 0
IsKeptOfChannel packets channel None = count_by (packet_on channel) packets ≡ 0
IsKeptOfChannel packets channel (Some track) = KeptOf packets channel track

module _ {S : Type 0} where
  -- what is kept of each channel
  abbrev pub AreKept : HashMap ℕ ChannelTrack S → List Packet → Type 0
  AreKept known packets = (channel : ℕ) → IsKeptOfChannel packets channel (get nat_eq known channel)
