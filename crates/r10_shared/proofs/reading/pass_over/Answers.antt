use Rattle.r10_shared.proofs.Written.{passes_over}
use Rattle.r10_shared.proofs.reading.pass_over.Goals as goal

pub returns-clause-taken : goal.returns-clause-taken
returns-clause-taken c all = passes_over c.args.player.now c.rest-passed_over.new.self all c.rest-passed_over.ensures.pass c.rest-passed_over.ensures.left
