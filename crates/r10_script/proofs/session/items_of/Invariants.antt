use Rattle.std.proofs.Common.{map, take}
use Rattle.toml.specs.View.{view}
use Rattle.r10_script.specs.Script.{EachAsks}
use Rattle.r10_script.specs.Session.{IsItem}
use Rattle.r10_script.proofs.session.items_of.Given as goal

-- the items so far are those of the tables so far
abbrev pub invariant-loop-value : goal.invariant-loop-value
invariant-loop-value l = EachAsks (IsItem l.fn.kind) (map view (take l.value-index l.value-items)) l.items.items
