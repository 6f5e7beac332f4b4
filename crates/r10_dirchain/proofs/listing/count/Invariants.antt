use Rattle.std.proofs.Common.{◌≡◌, ◌-◌, ◌^◌, length, min, take}
use Rattle.r10_dirchain.specs.Chain.{listed_files}
use Rattle.r10_dirchain.proofs.listing.count.Given as goal

abbrev pub invariant-loop-link : goal.invariant-loop-link
invariant-loop-link l = l.files ≡ min (length (listed_files (take l.link-index l.link-items))) (2 ^ 64 - 1)
