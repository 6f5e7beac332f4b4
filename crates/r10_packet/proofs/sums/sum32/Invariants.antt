use Rattle.std.proofs.Common.{◌≡◌, ◌%◌, ◌^◌, take}
use Rattle.std.specs.List.{sum_by}
use Rattle.std.specs.Int.{w32, from_le_bytes}
use Rattle.r10_packet.proofs.sums.sum32.Given as goal

abbrev pub invariant-loop-word : goal.invariant-loop-word
invariant-loop-word l = l.total ≡ sum_by (from_le_bytes w32) (take l.word-index l.words) % 2 ^ 32
