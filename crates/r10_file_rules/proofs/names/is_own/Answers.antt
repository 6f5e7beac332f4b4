use Rattle.std.proofs.Common.{[]}
use Rattle.r10_file_rules.proofs.names.is_own.Goals as goal
use Rattle.std.proofs.lemmas.Bool.{false≢true}

pub returns-in-None : goal.returns-in-None
returns-in-None c = (λ e. absurd (false≢true e), λ same. absurd (c.in-None.ensures.none [] same))
