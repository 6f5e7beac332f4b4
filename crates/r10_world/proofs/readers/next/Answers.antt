use Rattle.r10_world.proofs.OnTable.{gives_first, no_cursor}
use Rattle.r10_cursor.specs.RepresentedCursors.{slot_at}
use Rattle.std.proofs.Common.{arith, refl}
use Rattle.r10_world.proofs.Tables.{check_on, same_slots, set_on}
use Rattle.r10_world.proofs.readers.next.Goals as goal
use Rattle.r10_machine.specs.declared.event.Event.TheVariants as events
use Rattle.r10_machine.specs.declared.reply.Reply.TheVariants as replies

pub returns-in-Ok-clause-tells : goal.returns-in-Ok-clause-tells
returns-in-Ok-clause-tells c = λ k image failures lanes m stands.
    let slots = c.args.cursors.now.slots in
    let later = c.next_entry.new.cursors.slots in
    let id = c.args.id in
    let given = c.in-Ok.given in
    let stand = stands.joined.stand in
    set_on k image failures failures m (events.Next id) (replies.Next given) lanes slots later stands
    (c.tables_calls_are_steps.ensures.gives k image failures failures m id given slots later stands.limits stands.joined (omega arith) (c.in-Ok.ensures.passed m stand) (c.in-Ok.ensures.gives image (record m { failures = failures }) stand))

pub returns-in-Err-clause-tells : goal.returns-in-Err-clause-tells
returns-in-Err-clause-tells c = λ k image failures lanes m stands.
    let slots = c.args.cursors.now.slots in
    let later = c.next_entry.new.cursors.slots in
    let event = events.Next c.args.id in
    let r = c.in-Err.refusal in
    same_slots k m event (replies.Refused r) k image failures lanes slots later c.in-Err.ensures.kept
    (check_on c.recorders_calls_are_steps.ensures.stays c.refusals_are_steps.ensures k image failures m event r lanes slots stands (c.in-Err.ensures.passed m stands.joined.stand) (λ same. refl))

pub returns-in-Ok-clause-answers : goal.returns-in-Ok-clause-answers
returns-in-Ok-clause-answers c = gives_first c.args.cursors.now c.next_entry.new.cursors c.args.id c.in-Ok.given c.in-Ok.ensures.given

pub returns-in-Err-clause-answers : goal.returns-in-Err-clause-answers
returns-in-Err-clause-answers c = (no_cursor (slot_at c.args.cursors.now.slots c.args.id) c.in-Err.refusal c.in-Err.ensures.refused.0 c.in-Err.ensures.refused.1, c.in-Err.ensures.kept)
