use Rattle.std.proofs.Common.{◌≡◌, drop, None}
use Rattle.std.specs.List.{last_or}
use Rattle.r10_dirchain.specs.Chain.{listed_files}
use Rattle.r10_dirchain.proofs.listing.last_file.Given as goal

abbrev pub invariant-loop-link : goal.invariant-loop-link
invariant-loop-link l = last_or l.last (listed_files (drop l.link-index l.link-items)) ≡ last_or None (listed_files l.link-items)
