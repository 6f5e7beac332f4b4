use Rattle.std.proofs.Common.{◌≡◌, drop}
use Rattle.r10_dirchain.specs.Chain.{listed_files}
use Rattle.r10_volume.specs.Listing.{has_name}
use Rattle.r10_volume.proofs.listing.is_taken.Given as goal

abbrev pub invariant-loop-link : goal.invariant-loop-link
invariant-loop-link l = has_name l.name (listed_files (drop l.link-index l.link-items)) ≡ has_name l.name (listed_files l.link-items)
