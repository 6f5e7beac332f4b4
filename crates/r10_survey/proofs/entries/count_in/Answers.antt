use Rattle.std.proofs.Common.{rules, ◌<◌, length}
use Rattle.r10_survey.proofs.Entering.{of_none}
use Rattle.r10_survey.proofs.entries.count_in.Goals as goal

pub returns-in-None : goal.returns-in-None
returns-in-None c = λ foreign.
    let short : length c.args.body.now < 4 = search rules in
    of_none c.args.data_type c.args.body.now short
