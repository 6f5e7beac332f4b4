use Rattle.std.proofs.Common.{◌+◌, ◌*◌, sym, ap, ◌∙◌}
use Rattle.r10_discrete.proofs.Bodies.{body-length}
use Rattle.r10_discrete.proofs.body.DiscreteBody.size.Goals as goal

pub returns : goal.returns
returns c = ap (λ n. 4 + 12 * n) c.len.ensures ∙ sym (body-length c.args.self.now.bits c.args.self.now.entries)
