use Rattle.std.proofs.Common.{◌≡◌, ◌≤◌, ◌++◌, take, drop, length}
use Rattle.r10_count.specs.Form.{FitsAll, spelled_all}
use Rattle.r10_count.proofs.write.write_entries.Given as goal

-- what is written and the entries that are left are all entries, after what was there
abbrev pub invariant-loop-entry : goal.invariant-loop-entry
invariant-loop-entry g l = let form = g.E.BodyEntry.form in record {
  fits : FitsAll form l.count (drop l.entry-index l.entries);
  written : l.out.items ++ spelled_all form l.count (drop l.entry-index l.entries) ≡ l.fn.out.items ++ spelled_all form l.fn.before l.entries;
  kept : take (length l.fn.out.items) l.out.items ≡ l.fn.out.items;
  longer : length l.fn.out.items ≤ length l.out.items;
  capacity : l.fn.out.cap ≤ l.out.cap;
}
