use Rattle.std.proofs.Common.{[], ◌∷◌}
use Rattle.r10_shared.specs.Giving.Given.{Gives, Wakes}
use Rattle.r10_shared.proofs.giving.give_one.Goals as goal

pub returns : goal.returns
returns g c = (c.ask.result, g.met.C.Control.joins _ _ _ (Gives c.args.order.now c.ask.result ∷ []) (Wakes ∷ []) c.ask.ensures c.wake.ensures, c.goes_on-on.ensures)
