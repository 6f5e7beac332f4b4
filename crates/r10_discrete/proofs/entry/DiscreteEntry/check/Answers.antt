use Rattle.std.proofs.Common.{rules, ◌<◌, ◌^◌}
use Rattle.std.proofs.lemmas.Bool.{le-leb}
use Rattle.r10_discrete.proofs.Bodies.{within, no_bit, below}
use Rattle.r10_discrete.proofs.entry.DiscreteEntry.check.Goals as goal

pub returns-then-bits-ge32 : goal.returns-then-bits-ge32
returns-then-bits-ge32 c =
    let states : c.args.self.now.message.states < 2 ^ 32 = search rules in
    (λ is. (c.get.ensures.range, within c.args.self.now.message.states c.args.bits states c.if-bits-ge32.true), λ fits. le-leb 32 c.args.bits c.if-bits-ge32.true)

pub returns-else-bits-ge32 : goal.returns-else-bits-ge32
returns-else-bits-ge32 c = (λ is. (c.get.ensures.range, below c.args.self.now.message.states c.args.bits is), λ fits. no_bit c.args.self.now.message.states c.args.bits fits.1)
