use Rattle.r10_volume.proofs.Listed.{infos_told, count_told, few_told, names_told, closed_told, behind_told, inside_told}
use Rattle.r10_volume.proofs.laws.listings_tell.Goals as goal

pub returns : goal.returns
returns c = record { infos = infos_told; count = count_told; few = few_told; taken = names_told; closed = closed_told; behind = behind_told; inside = inside_told }
