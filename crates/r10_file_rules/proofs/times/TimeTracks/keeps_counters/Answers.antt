use Rattle.r10_file_rules.proofs.Either.{not_first}
use Rattle.r10_file_rules.proofs.times.TimeTracks.keeps_counters.Goals as goal

pub returns-else-is_setup_counter : goal.returns-else-is_setup_counter
returns-else-is_setup_counter c = λ packets p times tells. not_first _ _ c.is_setup_counter.result c.if-is_setup_counter.false (c.is_setup_counter.ensures packets p times tells)
