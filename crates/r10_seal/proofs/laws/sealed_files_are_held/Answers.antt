use Rattle.r10_seal.proofs.Held.{seals_cost, seals_hold}
use Rattle.r10_seal.proofs.laws.sealed_files_are_held.Goals as goal

pub returns-clause-held : goal.returns-clause-held
returns-clause-held c = seals_hold

pub returns-clause-room : goal.returns-clause-room
returns-clause-room c = seals_cost
