-- What is kept of a file's entries, as far as 64 bits count them.
use Rattle.std.specs.Prelude.{◌≡◌, ℕ, ◌-◌, ◌^◌, min, List, length}
use Rattle.std.specs.List.{sum_by}
use Rattle.r10_body.specs.Cost.{entry_cost}
use Rattle.r10_body.specs.Packets.{Packet, file_entries}
use Rattle.r10_file_rules.specs.declared.totals.Totals.{Totals}

-- a number, or the largest of 64 bits where it is larger
abbrev pub as_counted : ℕ → ℕ
as_counted n = min n (2 ^ 64 - 1)

pub record AreTotals (t : Totals) (packets : List Packet) : Type 0 where
  pub entries : t.entries ≡ as_counted (length (file_entries packets))
  pub cost : t.cost ≡ as_counted (sum_by entry_cost (file_entries packets))
