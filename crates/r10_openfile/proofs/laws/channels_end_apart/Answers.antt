use Rattle.r10_openfile.proofs.Others.{others_end, others_samples_end}
use Rattle.r10_openfile.proofs.laws.channels_end_apart.Goals as goal

pub returns-clause-entries : goal.returns-clause-entries
returns-clause-entries c = others_end

pub returns-clause-samples : goal.returns-clause-samples
returns-clause-samples c = others_samples_end
