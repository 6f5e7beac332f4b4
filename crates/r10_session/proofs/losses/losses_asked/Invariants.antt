use Rattle.std.proofs.Common.{◌≡◌, map, take}
use Rattle.r10_session.specs.Losses.{has_losses}
use Rattle.r10_session.proofs.losses.losses_asked.Given as goal

abbrev pub invariant-loop-feed : goal.invariant-loop-feed
invariant-loop-feed l = l.asked.items ≡ map has_losses (take l.feed-index l.feeds)
