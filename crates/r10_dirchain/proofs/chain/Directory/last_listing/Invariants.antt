use Rattle.std.proofs.Common.{◌≡◌, ◌≤◌, ◌+◌, length, take}
use Rattle.std.specs.List.{suffix_len}
use Rattle.r10_dirchain.specs.Chain.{listed_files}
use Rattle.r10_dirchain.specs.Steps.{lists_none}
use Rattle.r10_dirchain.proofs.chain.Directory.last_listing.Given as goal

abbrev pub invariant-loop-end : goal.invariant-loop-end
invariant-loop-end l = record {
  within : l.end ≤ length l.fn.self;
  behind : suffix_len lists_none l.fn.self + l.end ≡ length l.fn.self + suffix_len lists_none (take l.end l.fn.self);
  some : listed_files (take l.end l.fn.self) ≡ listed_files l.fn.self;
}

abbrev pub decreases-loop-end : goal.decreases-loop-end
decreases-loop-end l = l.end
