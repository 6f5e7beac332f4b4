use Rattle.std.proofs.Common.{◌↔◌, drop}
use Rattle.r10_count.specs.Form.{FitsAll}
use Rattle.r10_a429.specs.Entry.{arinc_form}
use Rattle.r10_a429.proofs.body.has_short_gaps.Given as goal

-- the words may stand so exactly where those that are left may
abbrev pub invariant-loop-entry : goal.invariant-loop-entry
invariant-loop-entry l = FitsAll arinc_form l.before l.entries ↔ FitsAll arinc_form l.count (drop l.entry-index l.entries)
