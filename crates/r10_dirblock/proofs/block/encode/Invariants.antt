use Rattle.std.proofs.Common.{◌≡◌, ◌+◌, ◌*◌, ◌++◌, length, take}
use Rattle.std.specs.List.{flat_map, All}
use Rattle.r10_dirblock.specs.Block.{entry_bytes, head_bytes, FitsEntry}
use Rattle.r10_dirblock.proofs.block.encode.Given as goal

abbrev pub invariant-loop-entry : goal.invariant-loop-entry
invariant-loop-entry l = record {
  bytes : l.page ≡ head_bytes 0x0F l.block ++ flat_map entry_bytes (take l.entry-index l.block.entries);
  len : length l.page ≡ 64 + 112 * l.entry-index;
  fits : All FitsEntry (take l.entry-index l.block.entries);
}
