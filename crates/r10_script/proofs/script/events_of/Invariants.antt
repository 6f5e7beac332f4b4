use Rattle.std.proofs.Common.{map, take}
use Rattle.toml.specs.View.{view}
use Rattle.r10_script.specs.Script.{EachAsks}
use Rattle.r10_script.specs.Steps.{IsStepTable}
use Rattle.r10_script.proofs.script.events_of.Given as goal

-- the events so far are those of the tables so far
abbrev pub invariant-loop-value : goal.invariant-loop-value
invariant-loop-value l = EachAsks (IsStepTable l.fn.channels) (map view (take l.value-index l.value-items)) l.events.items
