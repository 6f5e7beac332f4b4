use Rattle.r10_control.proofs.Alike.{first_stand, still_stand}
use Rattle.r10_control.proofs.recorder.Recorder.machines_stand.Goals as goal

pub returns-clause-first : goal.returns-clause-first
returns-clause-first g c = let lane = g.L.LaneOut in λ none. first_stand lane.quiet lane.reached lane.spec_of c.args.self.now.lanes none

pub returns-clause-still : goal.returns-clause-still
returns-clause-still g c = let lane = g.L.LaneOut in λ m later stands left. still_stand lane.quiet lane.reached lane.spec_of c.args.self.now.lanes m.lanes later.lanes stands left
