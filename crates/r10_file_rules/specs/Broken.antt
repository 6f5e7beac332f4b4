-- The least rule that a packet breaks after others.
use Rattle.std.specs.Prelude.{ℕ, ◌≤◌, List, Option, Some, None, IfSome}
use Rattle.r10_body.specs.Packets.{Packet}
use Rattle.r10_body.specs.Rules.{KeepsStart, KeepsChannels, KeepsSequence, KeepsCounts, KeepsIndex, KeepsCounters, KeepsEvents}
use Rattle.r10_body.specs.Rules.{IsSoundReport, report_of, MayFollow}

-- a packet breaks this rule after these
pub data Breaks (before : List Packet) (p : Packet) : ℕ → Type 0 where
  start : ¬ KeepsStart before p → Breaks before p 4
  channels : ¬ KeepsChannels before p → Breaks before p 5
  sequence : ¬ KeepsSequence before p → Breaks before p 6
  counts : ¬ KeepsCounts before p → Breaks before p 7
  index : ¬ KeepsIndex before p → Breaks before p 8
  counters : ¬ KeepsCounters before p → Breaks before p 9
  events : ¬ KeepsEvents before p → Breaks before p 10
  -- a report that is none whatever comes after it
  reports : ¬ IfSome (report_of p) IsSoundReport → Breaks before p 11

-- it may come next, or this is the least rule that it breaks
abbrev pub BreaksLaterRuleFirst : List Packet → Packet → Option ℕ → Type 0
BreaksLaterRuleFirst before p None = MayFollow before p
BreaksLaterRuleFirst before p (Some n) = Breaks before p n × ((m : ℕ) → Breaks before p m → n ≤ m)
