use Rattle.r10_ends.proofs.Ranges.{not_taken}
use Rattle.r10_ends.proofs.sender.out_of_range.Goals as goal

pub returns-in-Err : goal.returns-in-Err
returns-in-Err c = λ last count far. not_taken c.args.spec.now last count c.args.message.now c.in-Err.refusal c.in-Err.ensures
