use Rattle.std.proofs.Common.{◌≡◌, take}
use Rattle.r10_dirchain.specs.Chain.{listed_files}
use Rattle.r10_dirchain.proofs.chain.Directory.files.Given as goal

abbrev pub invariant-loop-link : goal.invariant-loop-link
invariant-loop-link l = l.entries.items ≡ listed_files (take l.link-index l.link-items)
