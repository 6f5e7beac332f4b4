use Rattle.std.proofs.Common.{[], ◌∷◌, refl}
use Rattle.r10_shared.specs.Rounds.Asked.{Commits}
use Rattle.r10_shared.proofs.Pumping.{round_moved, round_last}
use Rattle.r10_shared.proofs.rounds.go_round.Goals as goal

pub returns-then-last : goal.returns-then-last
returns-then-last g c = round_last g.H.Recording.asked g.met.H.Recording.joins _ _ _ _ c.args.last c.pump_each-turn.result _ c.pump_each-turn.ensures c.in-Idle.is c.if-last.true c.commit.ensures

pub returns-in-Moved : goal.returns-in-Moved
returns-in-Moved g c = round_moved g.H.Recording.asked g.met.H.Recording.joins _ _ _ _ c.args.last c.pump_each-turn.result _ c.pump_each-turn.ensures c.in-Moved.is c.commit-in-Moved.ensures
