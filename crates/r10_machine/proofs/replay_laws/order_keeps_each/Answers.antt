use Rattle.std.proofs.Common.{cond}
use Rattle.std.proofs.lemmas.List.Sorted.{sum_by-IsPermutation}
use Rattle.r10_machine.proofs.replay_laws.order_keeps_each.Goals as goal

pub returns : goal.returns
returns c = λ entries ordered is_one of. sum_by-IsPermutation (λ e. cond (is_one e) 1 0) entries ordered of.same
