use Rattle.std.proofs.Common.{◌≡◌, map, All}
use Rattle.std.specs.List.{range_with_len}
use Rattle.r10_dirblock.specs.Block.{directory_entry_at, FitsEntry}
use Rattle.r10_dirblock.proofs.read.entries.Given as goal

abbrev pub invariant-loop-i : goal.invariant-loop-i
invariant-loop-i l = record {
  items : l.entries ≡ map (directory_entry_at l.bytes) (range_with_len 0 l.i);
  fits : All FitsEntry l.entries;
}
