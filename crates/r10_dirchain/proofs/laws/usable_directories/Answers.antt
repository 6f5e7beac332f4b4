use Rattle.r10_dirchain.proofs.Usable.{has_next}
use Rattle.r10_dirchain.proofs.Staying.{usable-with_shutdown, usable-emptied, usable-added, usable-updated}
use Rattle.r10_dirchain.proofs.laws.usable_directories.Goals as goal

pub returns : goal.returns
returns c = record { has_next = has_next; shutdown = usable-with_shutdown; erased = usable-emptied; added = usable-added; updated = usable-updated }
