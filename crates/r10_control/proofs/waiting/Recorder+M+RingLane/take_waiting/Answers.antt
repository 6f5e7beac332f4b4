use Rattle.std.proofs.Common.{◌≡◌, Option, Result, Ok, Err, IfOk, subst}
use Rattle.r10_body.specs.declared.entry.Sample.{Sample}
use Rattle.r10_body.specs.declared.refusal.Refusal.{Refusal}
use Rattle.r10_control.specs.Lanes.{StandsWithout}
use Rattle.r10_control.specs.State.{RecorderState}
use Rattle.r10_control.proofs.FirstsTaken.{taking_stands}
use Rattle.r10_control.proofs.Offers.{owns_risen}
use Rattle.r10_control.proofs.waiting.Recorder+M+RingLane.take_waiting.Goals as goal

pub invariant_of-self : goal.invariant_of-self
invariant_of-self g c = owns_risen _ _ c.self.inside.reader.books c.self.inside.lanes.items c.take_in.new.lanes.items c.take_in.ensures.risen c.self.invariant

pub returns-clause-stands : goal.returns-clause-stands
returns-clause-stands g c =
    let disk = g.M.BlockMedium.disk in
    subst (λ (v : RecorderState _ _). IfOk c.take_in.result (λ first. StandsWithout c.args.channel v.kept (disk v.medium).blocks (disk v.medium).failures v.lanes c.take_in.new.lanes.items)) c.self.view_is
    (taking_stands _ _ _ c.args.channel c.self.inside.lanes.items c.take_in.new.lanes.items c.take_in.result c.take_in.ensures.takes)
