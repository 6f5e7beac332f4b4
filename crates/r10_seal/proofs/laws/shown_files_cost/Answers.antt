use Rattle.r10_seal.proofs.LastFile.{most_cost, others_cost, whole_cost}
use Rattle.r10_seal.proofs.laws.shown_files_cost.Goals as goal

pub returns-clause-most : goal.returns-clause-most
returns-clause-most c = most_cost

pub returns-clause-whole : goal.returns-clause-whole
returns-clause-whole c = whole_cost

pub returns-clause-others : goal.returns-clause-others
returns-clause-others c = others_cost
