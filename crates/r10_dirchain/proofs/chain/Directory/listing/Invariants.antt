use Rattle.std.proofs.Common.{◌≡◌, take}
use Rattle.r10_dirchain.specs.Mount.{listed}
use Rattle.r10_dirchain.proofs.chain.Directory.listing.Given as goal

abbrev pub invariant-loop-link : goal.invariant-loop-link
invariant-loop-link l = l.files.items ≡ listed (take l.link-index l.link-items)
