-- What a file costs. The cost covers its packets, however its entries are packed.
use Rattle.std.specs.Prelude.{ℕ, ◌+◌, ◌*◌, List, length, Option, Some, None}
use Rattle.std.specs.List.{sum_by}
use Rattle.r10_indexbody.specs.declared.loss.LossBody.{LossBody}
use Rattle.r10_body.specs.declared.message.Message.{Message}
use Rattle.r10_body.specs.declared.message.Message.TheVariants as messages
use Rattle.r10_body.specs.declared.entry.Entry.{Entry}
use Rattle.r10_body.specs.declared.gap.Gap.{Gap}
use Rattle.r10_body.specs.declared.gap.Gap.TheVariants.{Lost}

abbrev pub message_cost : Message → ℕ
message_cost (messages.Uart m) = 12 + length m.bytes
message_cost (messages.Bus1553 m) = 14 + 2 * length m.words
message_cost (messages.Arinc m) = 8
message_cost (messages.Discrete m) = 12
message_cost (messages.Message m) = 12 + length m.bytes
message_cost (messages.Time civil) = 8
message_cost (messages.Event number count) = 12

-- what every entry costs, whatever its message
abbrev pub each_entry : ℕ
each_entry = 104

-- what every file costs before its setup text and its entries
abbrev pub each_file : ℕ
each_file = 152

-- what a loss whose number is reported costs: a report of 44 bytes, and its part of the index
abbrev pub each_report : ℕ
each_report = 68

-- what the gap before an entry adds to its cost
abbrev pub lost_cost : Gap → ℕ
lost_cost (Lost n) = each_report
lost_cost gap = 0

-- what a report adds to the cost of the entry that comes after it
abbrev pub owed : Option LossBody → ℕ
owed None = 0
owed (Some loss) = each_report

-- what an entry costs, but for what was lost before it
abbrev pub plain_cost : Entry → ℕ
plain_cost e = each_entry + message_cost e.message

abbrev pub entry_cost : Entry → ℕ
entry_cost e = plain_cost e + lost_cost e.gap

abbrev pub file_cost : List ℕ → List Entry → ℕ
file_cost setup entries = each_file + length setup + sum_by entry_cost entries
