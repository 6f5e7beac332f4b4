use Rattle.std.proofs.Common.{◌≡◌, ℕ, ap, ◌∙◌, subst}
use Rattle.r10_machine.specs.Checks.{offer_refusal}
use Rattle.r10_machine.specs.Machine.{lane_in}
use Rattle.r10_machine.specs.declared.event.Event.TheVariants.{Offer}
use Rattle.r10_calls.specs.EventCalls.{DoesEvent, reply_number}
use Rattle.r10_calls.specs.declared.desk.Desk.{Desk}
use Rattle.r10_calls.proofs.Carried.{both_done, one_done, taken_after_loss, there_is}
use Rattle.r10_calls.proofs.desk.Desk.carry.Goals.{then-lost-ne0, else-lost-ne0}
use Rattle.r10_calls.proofs.desk.Desk.carry.Goals as goal

pub lose_there-requires : goal.lose_there-requires
lose_there-requires g c = there_is (lane_in c.args.channel c.args.self.now.world.recorder.lanes) c.get-count.result c.args.sample.message (c.in_default.ensures)

pub offer_there-requires : goal.offer_there-requires
offer_there-requires g c =
    let taken = λ (d : Desk _). offer_refusal (lane_in c.args.channel d.world.recorder.lanes) c.get-count.result c.args.sample.message in
    elim c.if-lost-ne0.branch [
      | then-lost-ne0 w ↦ ap taken w.self-is
          ∙ taken_after_loss c.args.channel c.lost_of-lost.result c.get-count.result c.args.sample.message c.args.self.now.world.recorder.lanes w.lose_there.new.self.world.recorder.lanes w.lose_there.ensures.lanes (c.in_default.ensures)
      | else-lost-ne0 w ↦ ap taken w.self-is ∙ c.in_default.ensures
    ]

pub returns-clause-carried : goal.returns-clause-carried
returns-clause-carried g c =
    let disk = g.M.BlockMedium.disk in
    let x = c.args.sample in
    let now = c.offer_there.new.self in
    let offered = subst (λ (n : ℕ). DoesEvent disk c.if-lost-ne0.self (Offer c.args.channel n x.message) (λ reply. reply_number reply ≡ 0) now) c.get-count.ensures.value c.offer_there.ensures.does in
    elim c.if-lost-ne0.branch [
      | then-lost-ne0 w ↦ both_done disk c.args.self.now w.lose_there.new.self now c.args.channel x c.lost_of-lost.result c.lost_of-lost.ensures w.if-lost-ne0.true w.lose_there.ensures.does
          (subst (λ (d : Desk _). DoesEvent disk d (Offer c.args.channel x.count x.message) (λ reply. reply_number reply ≡ 0) now) w.self-is offered)
      | else-lost-ne0 w ↦ one_done disk c.args.self.now now c.args.channel x c.lost_of-lost.result c.lost_of-lost.ensures w.if-lost-ne0.false
          (subst (λ (d : Desk _). DoesEvent disk d (Offer c.args.channel x.count x.message) (λ reply. reply_number reply ≡ 0) now) w.self-is offered)
    ]
