use Rattle.std.proofs.Common.{refl, ◌∙◌, length, ◌/◌}
use Rattle.r10_region.proofs.Runs.{joins_on}
use Rattle.r10_region.proofs.orders.Orders.join.Goals as goal

pub loop-preserved : goal.loop-preserved
loop-preserved c = (
  joins_on c.args.first (length c.args.bytes.now / 512) c.args.self.now c.loop.self c.join_one.new.self c.args.bytes.now c.loop.bytes c.join_one.new.bytes c.loop.count c.in-Some.more
      c.loop.invariant.0 c.in-Some.ensures.joins.queue c.in-Some.ensures.joins.takes,
  refl,
  c.in-Some.ensures.size ∙ c.loop.invariant.2,
)
