use Rattle.std.proofs.Common.{◌≡◌, map, take}
use Rattle.r10_volume.specs.Listing.{info_in}
use Rattle.r10_volume.proofs.listing.list.Given as goal

abbrev pub invariant-loop-entry : goal.invariant-loop-entry
invariant-loop-entry l = l.infos.items ≡ map info_in (take l.entry-index l.entry-items)
