-- How far a file is judged: its packets keep the rules so far, or one of them breaks a rule.
use Rattle.std.specs.Prelude.{◌≡◌, ℕ, ◌-◌, ◌≤◌, ◌↔◌, Bool, false, IsTrue, List, [], ◌++◌, length, count_by, min, Option, Some, None}
use Rattle.r10_body.specs.Packets.{Packet, file_bytes}
use Rattle.r10_body.specs.Files.{FileSays, PacketsSay}
use Rattle.r10_body.specs.Rules.{EachFollows, EndsIndex, MayFollow, is_closed_file, is_index}
use Rattle.r10_body.specs.Foreign.{IsForeignPacket}
use Rattle.r10_body.specs.Faults.{BreaksRule, IsReportAnswered, IsWrongHere}
use Rattle.r10_body.specs.declared.entry.Entry.{Entry}
use Rattle.r10_body.specs.declared.fault.FileFault.{FileFault}
use Rattle.r10_body.specs.declared.fault.FileFault.TheVariants.{Rule}
use Rattle.r10_packet_rules.specs.declared.file.FirstFault.{FirstFault}
use Rattle.r10_file_rules.specs.Broken.{Breaks}
pub use Rattle.r10_file_rules.specs.Tracks.{IsTracked}
use Rattle.r10_file_rules.specs.declared.tracks.Tracks.{Tracks}
use Rattle.r10_judge.specs.declared.judge.Judge.{Judge}

-- packets that keep the rules of a file whose directory entry is closed or not
pub record KeepRules (closed : Bool) (packets : List Packet) : Type 0 where
  pub strict : EachFollows [] packets
  pub unclosed : closed ≡ false → count_by is_index packets ≡ 0

-- all bytes so far are packets that keep the rules, and these are their tracks
pub record KeepsRulesSoFar (closed : Bool) (tracks : Tracks) (bytes : List ℕ) : Type 0 where
  pub packets : List Packet
  pub bytes_are : bytes ≡ file_bytes packets
  pub keep : KeepRules closed packets
  pub tracked : IsTracked tracks packets

-- after packets that keep the rules a packet of any recorder breaks one, whatever stands after these bytes, and of those that
-- it breaks this is the least
pub record BreaksAt (closed : Bool) (at : FirstFault) (bytes : List ℕ) : Type 0 where
  pub packets : List Packet
  pub packet : List ℕ
  pub more : List ℕ
  pub bytes_are : bytes ≡ file_bytes packets ++ (packet ++ more)
  pub keep : KeepRules closed packets
  pub answered : IsReportAnswered packets packet
  pub foreign : IsForeignPacket packet
  pub number : ℕ
  pub at_is : at ≡ record { offset = length (file_bytes packets); fault = Rule number }
  pub broken : (later : List ℕ) → BreaksRule packets (packet ++ (more ++ later)) closed number
  pub least : (later : List ℕ) (m : ℕ) → BreaksRule packets (packet ++ (more ++ later)) closed m → number ≤ m

-- where a judge stands after these bytes of packets
abbrev pub StandsAt : Option FirstFault → Bool → Tracks → List ℕ → Type 0
StandsAt None closed tracks bytes = KeepsRulesSoFar closed tracks bytes
StandsAt (Some at) closed tracks bytes = BreaksAt closed at bytes

abbrev pub TracksJudged : Judge → List ℕ → Type 0
TracksJudged j bytes = StandsAt j.broken j.closed j.tracks bytes

-- what stands next answers the report that stands last, where one does, or not
abbrev pub TellsAnswer : Bool → Tracks → List ℕ → Type 0
TellsAnswer reported tracks rest = (packets : List Packet) → IsTracked tracks packets
    → IsTrue reported ↔ IsReportAnswered packets rest

-- ---- one packet more

-- a packet breaks this rule after these, in a file whose directory entry is closed or not
pub data BreaksIn (closed : Bool) (before : List Packet) (p : Packet) : ℕ → Type 0 where
  broken_rule : {n : ℕ} → Breaks before p n → BreaksIn closed before p n
  in_open_file : IsTrue (is_index p) → closed ≡ false → BreaksIn closed before p 8

-- it may come next, or this is the least of the rules from 4 on that it breaks
abbrev pub BreaksRuleOfFileFirst : Bool → List Packet → Packet → Option ℕ → Type 0
BreaksRuleOfFileFirst closed before p None = MayFollow before p × (closed ≡ false → is_index p ≡ false)
BreaksRuleOfFileFirst closed before p (Some n) = BreaksIn closed before p n × ((m : ℕ) → BreaksIn closed before p m → n ≤ m)

abbrev pub stopped_at : List Packet → ℕ → FirstFault
stopped_at packets n = record { offset = length (file_bytes packets); fault = Rule n }

-- where a report stands that stands last, and is not answered
abbrev pub unanswered_at : List Packet → FirstFault
unanswered_at packets = record { offset = length (file_bytes packets) - 44; fault = Rule 11 }

-- the least rule that an index packet of an unclosed file breaks, where these are those that it breaks beside
abbrev pub least_of_index : Option ℕ → ℕ
least_of_index None = 8
least_of_index (Some n) = min n 8

-- ---- the end of a file

-- the bytes are a strict file with this closing
abbrev pub SaysClosed : List ℕ → Bool → Type 0
SaysClosed bytes closed = (text : List ℕ) × (entries : List Entry) × FileSays bytes text entries closed

-- the bytes are a strict file with this closing, and these are the tracks of its packets
pub record TracksStrictFile (closed : Bool) (tracks : Tracks) (bytes : List ℕ) : Type 0 where
  pub text : List ℕ
  pub entries : List Entry
  pub packets : List Packet
  pub bytes_are : bytes ≡ file_bytes packets
  pub say : PacketsSay packets text entries closed
  pub tracked : IsTracked tracks packets

-- nothing is missing after packets that keep the rules and of which no report stands last, or what is missing makes the file
-- end with this fault
abbrev pub MayMiss : Bool → List Packet → Option FileFault → Type 0
MayMiss closed packets None = (2 ≤ length packets) × (is_closed_file packets ≡ closed) × EndsIndex packets
MayMiss closed packets (Some fault) = IsWrongHere packets [] closed fault
