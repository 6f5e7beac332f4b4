use Rattle.std.proofs.Common.{◌+◌, ◌*◌, sym, ap, ◌∙◌}
use Rattle.r10_a429.proofs.Bodies.{body-length}
use Rattle.r10_a429.proofs.body.ArincBody.size.Goals as goal

pub returns : goal.returns
returns c = λ counter. ap (λ n. 4 + 8 * n) c.len.ensures ∙ sym (body-length counter c.args.self.now.entries)
