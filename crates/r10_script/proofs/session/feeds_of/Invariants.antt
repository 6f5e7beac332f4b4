use Rattle.std.proofs.Common.{map, take}
use Rattle.toml.specs.View.{view}
use Rattle.r10_script.specs.Script.{EachAsks}
use Rattle.r10_script.specs.Session.{AreApart, IsFeed}
use Rattle.r10_script.proofs.session.feeds_of.Given as goal

-- the feeds so far are those of the tables so far, each of its own channel
abbrev pub invariant-loop-value : goal.invariant-loop-value
invariant-loop-value l = (each : EachAsks (IsFeed l.fn.channels) (map view (take l.value-index l.value-items)) l.feeds.items) × AreApart l.feeds.items
