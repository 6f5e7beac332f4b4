-- What is kept of a file's packets so far, and a packet that comes next.
use Rattle.std.specs.Prelude.{◌≡◌, ℕ, ◌^◌, ◌<◌, List, [], ◌∷◌, ◌++◌, length}
use Rattle.r10_body.specs.Packets.{Packet, FitsPacket, packet_body, file_bytes}
use Rattle.r10_body.specs.Rules.{KeepsChecksums, EachFollows, MayFollow, IsGapTold, last_report}
use Rattle.r10_packet_rules.specs.Facts.{AreFactsOf}
use Rattle.r10_packet_rules.specs.declared.facts.Facts.{Facts}
use Rattle.r10_file_rules.specs.Channels.{AreKept}
use Rattle.r10_file_rules.specs.Events.{PacketEventsAreCounted}
use Rattle.r10_file_rules.specs.Times.{AreTimes}
use Rattle.r10_file_rules.specs.Index.{IsIndexed}
use Rattle.r10_file_rules.specs.Totals.{AreTotals}
use Rattle.r10_file_rules.specs.declared.tracks.Tracks.{Tracks}

-- what these packets leave: each may follow those before it, and they have fewer than 2^63 bytes
pub record IsTracked (t : Tracks) (packets : List Packet) : Type 0 where
  pub each : EachFollows [] packets
  pub short : length (file_bytes packets) < 2 ^ 63
  pub times : AreTimes t.times packets
  pub channels : AreKept t.channels.known packets
  pub events : PacketEventsAreCounted t.events.counted packets
  pub index : IsIndexed t.index packets
  pub totals : AreTotals t.totals packets
  pub report : t.report ≡ last_report packets

-- this packet comes next after these, with what the last of them reports of it, keeps the rules that it keeps alone, and says this
pub record ComesNext (t : Tracks) (packets : List Packet) (p : Packet) (facts : Facts) (body : List ℕ) : Type 0 where
  pub tracked : IsTracked t packets
  pub fits : FitsPacket p
  pub checksums : KeepsChecksums p
  pub reported : IsGapTold (last_report packets) p
  pub tells : AreFactsOf facts p
  pub body_is : body ≡ packet_body p

-- this packet may follow these, the file stays below 2^63 bytes, and it says this
pub record MayBeAdded (t : Tracks) (packets : List Packet) (p : Packet) (facts : Facts) : Type 0 where
  pub tracked : IsTracked t packets
  pub may : MayFollow packets p
  pub short : length (file_bytes (packets ++ p ∷ [])) < 2 ^ 63
  pub tells : AreFactsOf facts p
