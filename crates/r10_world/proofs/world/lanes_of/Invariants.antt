use Rattle.std.proofs.Common.{◌≡◌, map, take}
use Rattle.r10_machine.specs.Machine.{fresh_lane}
use Rattle.r10_world.proofs.world.lanes_of.Given as goal

abbrev pub invariant-loop-spec : goal.invariant-loop-spec
invariant-loop-spec l = l.lanes.items ≡ map fresh_lane (take l.spec-index l.channels)
