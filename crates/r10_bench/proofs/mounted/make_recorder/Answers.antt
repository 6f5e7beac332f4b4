use Rattle.std.proofs.Common.{List, ap, map, ◌∙◌}
use Rattle.r10_machine.specs.Machine.{Lane}
use Rattle.r10_machine.proofs.Entering.{specs_of_fresh}
use Rattle.r10_bench.proofs.mounted.make_recorder.Goals as goal

pub new-requires-clause-lanes : goal.new-requires-clause-lanes
new-requires-clause-lanes c = ap (λ (ls : List Lane). map (λ (lane : Lane). lane.spec) ls) c.in_ok-lanes.ensures ∙ specs_of_fresh c.channels.result.now ∙ c.channels.ensures.value
