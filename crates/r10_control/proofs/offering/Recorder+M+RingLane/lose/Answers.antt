use Rattle.std.proofs.Common.{subst}
use Rattle.r10_control.specs.Lanes.{AnswersWith}
use Rattle.r10_control.specs.State.{RecorderState}
use Rattle.r10_control.proofs.Offers.{lose_leads, owns_risen}
use Rattle.r10_machine.specs.declared.event.Event.TheVariants as events
use Rattle.r10_machine.specs.declared.reply.Reply.TheVariants as replies
use Rattle.r10_control.proofs.offering.Recorder+M+RingLane.lose.Goals as goal

pub invariant_of-self : goal.invariant_of-self
invariant_of-self g c = owns_risen _ _ c.self.inside.reader.books c.self.inside.lanes.items c.lose_in.new.lanes.items c.lose_in.ensures.risen c.self.invariant

pub returns-clause-steps : goal.returns-clause-steps
returns-clause-steps g c =
    let disk = g.M.BlockMedium.disk in
    subst (λ (v : RecorderState _ _). AnswersWith v.lanes v.kept (disk v.medium).blocks (disk v.medium).failures (events.Lose c.args.channel c.args.lost) (λ u. replies.Done) c.lose_in.result c.lose_in.new.lanes.items) c.self.view_is
    (lose_leads c.losses_are_steps.ensures.counted c.losses_are_steps.ensures.refused _ _ _ c.args.channel c.args.lost _ c.lose_in.new.lanes.items c.lose_in.result c.self.invariant.limits c.lose_in.ensures.loses)
