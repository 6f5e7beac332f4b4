use Rattle.std.proofs.Common.{◌≡◌, take}
use Rattle.r10_dirblock.proofs.block.DirBlock.duplicate.Given as goal

abbrev pub invariant-loop-entry : goal.invariant-loop-entry
invariant-loop-entry l = l.entries ≡ take l.entry-index l.self.entries
