use Rattle.std.proofs.Common.{◌≡◌, ◌+◌, length, drop}
use Rattle.std.specs.List.{flat_map}
use Rattle.r10_b1553.specs.Bus.{bus_entry, bus_body}
use Rattle.r10_b1553.proofs.body.BusBody.size.Given as goal

-- the size so far, with that of the entries that are left, is the body's
abbrev pub invariant-loop-entry : goal.invariant-loop-entry
invariant-loop-entry l = l.size + length (flat_map bus_entry (drop l.entry-index l.entry-items)) ≡ length (bus_body l.fn.self.entries)
