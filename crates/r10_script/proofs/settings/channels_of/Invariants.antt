use Rattle.std.proofs.Common.{map, take}
use Rattle.toml.specs.View.{view}
use Rattle.r10_script.specs.Script.{EachAsks, IsChannelTable}
use Rattle.r10_script.proofs.settings.channels_of.Given as goal

-- the channels so far are those of the tables so far
abbrev pub invariant-loop-value : goal.invariant-loop-value
invariant-loop-value l = EachAsks IsChannelTable (map view (take l.value-index l.value-items)) l.channels.items
