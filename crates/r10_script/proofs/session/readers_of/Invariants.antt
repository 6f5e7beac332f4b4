use Rattle.std.proofs.Common.{map, take}
use Rattle.toml.specs.View.{view}
use Rattle.r10_script.specs.Script.{EachAsks}
use Rattle.r10_script.specs.Session.{IsReader}
use Rattle.r10_script.proofs.session.readers_of.Given as goal

-- the readers so far are those of the tables so far
abbrev pub invariant-loop-value : goal.invariant-loop-value
invariant-loop-value l = EachAsks IsReader (map view (take l.value-index l.value-items)) l.readers.items
