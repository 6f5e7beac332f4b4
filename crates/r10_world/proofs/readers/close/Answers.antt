use Rattle.r10_world.proofs.OnTable.{is_there, no_cursor}
use Rattle.r10_cursor.specs.RepresentedCursors.{slot_at}
use Rattle.std.proofs.Common.{arith, refl}
use Rattle.r10_world.proofs.Tables.{check_on, same_slots, set_on}
use Rattle.r10_world.proofs.readers.close.Goals as goal
use Rattle.r10_machine.specs.declared.event.Event.TheVariants as events
use Rattle.r10_machine.specs.declared.reply.Reply.TheVariants as replies

pub returns-in-Ok-clause-tells : goal.returns-in-Ok-clause-tells
returns-in-Ok-clause-tells c = λ k image failures lanes m stands.
    let slots = c.args.cursors.now.slots in
    let later = c.close_cursor.new.cursors.slots in
    let id = c.args.id in
    let stand = stands.joined.stand in
    set_on k image failures failures m (events.Close id) replies.Done lanes slots later stands
    (c.tables_calls_are_steps.ensures.closes k image failures failures m id slots later stands.limits stands.joined (omega arith) (c.in-Ok.ensures.passed m stand) (c.in-Ok.ensures.closes image (record m { failures = failures }) stand))

pub returns-in-Err-clause-tells : goal.returns-in-Err-clause-tells
returns-in-Err-clause-tells c = λ k image failures lanes m stands.
    let slots = c.args.cursors.now.slots in
    let later = c.close_cursor.new.cursors.slots in
    let event = events.Close c.args.id in
    let r = c.in-Err.refusal in
    same_slots k m event (replies.Refused r) k image failures lanes slots later c.in-Err.ensures.kept
    (check_on c.recorders_calls_are_steps.ensures.stays c.refusals_are_steps.ensures k image failures m event r lanes slots stands (c.in-Err.ensures.passed m stands.joined.stand) (λ same. refl))

pub returns-in-Ok-clause-answers : goal.returns-in-Ok-clause-answers
returns-in-Ok-clause-answers c = (is_there c.args.cursors.now.slots c.args.id c.in-Ok.ensures.passed, record { changed = c.in-Ok.ensures.closed.changed; others = c.in-Ok.ensures.closed.others })

pub returns-in-Err-clause-answers : goal.returns-in-Err-clause-answers
returns-in-Err-clause-answers c = (no_cursor (slot_at c.args.cursors.now.slots c.args.id) c.in-Err.refusal c.in-Err.ensures.refused.0 c.in-Err.ensures.refused.1, c.in-Err.ensures.kept)
