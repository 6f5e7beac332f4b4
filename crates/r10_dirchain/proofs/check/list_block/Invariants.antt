use Rattle.std.proofs.Common.{◌≡◌, ◌++◌, map, take}
use Rattle.r10_dirchain.specs.Mount.{listed_in}
use Rattle.r10_dirchain.proofs.check.list_block.Given as goal

abbrev pub invariant-loop-entry : goal.invariant-loop-entry
invariant-loop-entry l = l.files.items ≡ l.initial.files.items ++ map (listed_in l.link.number) (take l.entry-index l.entry-items)
