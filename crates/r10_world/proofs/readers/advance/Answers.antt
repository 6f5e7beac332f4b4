use Rattle.std.proofs.Common.{None, ℕ, ap, refl, sym, subst, ◌≡◌, ◌∙◌, Some}
use Rattle.r10_world.proofs.Answering.{refused_check, set_puts}
use Rattle.r10_world.proofs.OnTable.{instalment_refused, mounted_reads, some_at, unmounted_refuses}
use Rattle.r10_world.specs.Answering.{AdvancesAt, TakesEntries, first_refusal}
use Rattle.r10_cursor.specs.RepresentedCursors.{PutsSlot, slot_at}
use Rattle.std.specs.Prelude.{slice_set}
use Rattle.r10_count.specs.Checks.{first_broken}
use Rattle.r10_machine.specs.Checks.{advance_checks, mounted_checks}
use Rattle.r10_machine.specs.Machine.{cursor_of}
use Rattle.r10_cursor.specs.declared.cursor.Cursor.{Cursor}
use Rattle.r10_world.proofs.Tables.{advance_refused, advances_on, passes_too, reads, same_slots, set_same, slot_tells}
use Rattle.r10_world.proofs.CallsAsSteps.{refused_on}
use Rattle.r10_body.specs.declared.refusal.Refusal.TheVariants.{Failed}
use Rattle.r10_refinement.specs.KeptState.{Kept, Work, mode_of}
use Rattle.r10_world.proofs.PowerLossInRuns.{alone_if, survives_kept, survives_refused, survives_same}
use Rattle.r10_medium.proofs.PowerLoss.{unchanged}
use Rattle.r10_world.proofs.readers.advance.Goals as goal
use Rattle.r10_machine.specs.declared.event.Event.TheVariants as events
use Rattle.r10_machine.specs.declared.reply.Reply.TheVariants as replies

pub returns-in-Err-clause-tells : goal.returns-in-Err-clause-tells
returns-in-Err-clause-tells g c = λ m stands.
    let a = c.args in
    refused_on g.M.BlockMedium.disk a.recorder.now a.recorder.now c.recorders_calls_are_steps.ensures.moves (events.Advance a.id) c.in-Err.refusal refl refl refl a.cursors.now.slots m stands (c.in-Err.ensures.steps a.id m stands.joined.means)

pub returns-in-Err-check_read-clause-tells : goal.returns-in-Err-check_read-clause-tells
returns-in-Err-check_read-clause-tells g c = λ m stands.
    let a = c.args in
    let old = a.recorder.now in
    let medium = g.M.BlockMedium.disk old.medium in
    let r = c.in-Err-check_read.refusal in
    advance_refused c.recorders_calls_are_steps.ensures.stays c.refusals_are_steps.ensures old.kept medium.blocks medium.failures m a.id r old.lanes a.cursors.now.slots stands c.in-Ok.ensures.tested.1
    (subst (λ (n : ℕ). first_broken (advance_checks n (cursor_of a.id m)) ≡ Some r) (sym (c.in-Ok.ensures.steps a.id m stands.joined.means)) (c.in-Err-check_read.ensures.passed m stands.joined.stand))

pub returns-in-Ok-take_instalment-clause-tells : goal.returns-in-Ok-take_instalment-clause-tells
returns-in-Ok-take_instalment-clause-tells g c = λ m stands.
    let a = c.args in
    let old = a.recorder.now in
    let new = c.take_instalment.new.self in
    let slots = a.cursors.now.slots in
    let cursor = c.in-Some.cursor.now in
    let next = c.take_instalment.new.cursor in
    let means = stands.joined.means in
    let stand = stands.joined.stand in
    let is : slot_at slots a.id ≡ Some cursor = sym c.in-Some.ensures.value in
    let generation = c.in-Ok.ensures.steps a.id m means in
    let same : cursor.generation ≡ m.generation = slot_tells (slot_at slots a.id) cursor c.in-Ok-check_read.file c.in-Ok.generation m.generation is c.in-Ok-check_read.ensures.file generation in
    let one = reads (g.M.BlockMedium.disk old.medium).blocks m slots a.id cursor stand stands.joined.read.each is same in
    let passes = passes_too m a.id c.in-Ok.generation generation (c.in-Ok-check_read.ensures.passed m stand) in
    advances_on g.M.BlockMedium.disk old new c.tables_calls_are_steps.ensures.advances c.advances_are_the_machines.ensures a.id c.in-Ok-take_instalment.queued cursor next slots c.in-Ok-take_instalment.ensures.reads.kept c.take_instalment.ensures.reads.same.reads
    c.take_instalment.ensures.reads.lanes c.take_instalment.ensures.reads.no_fewer is c.in-Ok-take_instalment.ensures.queued m stands one (c.in-Ok-take_instalment.ensures.steps a.id m means one.there passes)
    (c.in-Ok-take_instalment.ensures.takes m one.file one.reader.covered means one.file_is one.read)

pub returns-in-Err-take_instalment-clause-tells : goal.returns-in-Err-take_instalment-clause-tells
returns-in-Err-take_instalment-clause-tells g c = λ m stands.
    let a = c.args in
    let old = a.recorder.now in
    let new = c.take_instalment.new.self in
    let slots = a.cursors.now.slots in
    let cursor = c.in-Some.cursor.now in
    let next = c.take_instalment.new.cursor in
    let means = stands.joined.means in
    let stand = stands.joined.stand in
    let is : slot_at slots a.id ≡ Some cursor = sym c.in-Some.ensures.value in
    let generation = c.in-Ok.ensures.steps a.id m means in
    let same : cursor.generation ≡ m.generation = slot_tells (slot_at slots a.id) cursor c.in-Ok-check_read.file c.in-Ok.generation m.generation is c.in-Ok-check_read.ensures.file generation in
    let one = reads (g.M.BlockMedium.disk old.medium).blocks m slots a.id cursor stand stands.joined.read.each is same in
    let passes = passes_too m a.id c.in-Ok.generation generation (c.in-Ok-check_read.ensures.passed m stand) in
    let r = c.in-Err-take_instalment.refusal in
    let after = g.M.BlockMedium.disk new.medium in
    let later = slice_set slots a.id (Some next) in
    let kept : later ≡ slots = subst (λ (x : Cursor). slice_set slots a.id (Some x) ≡ slots) (sym c.in-Err-take_instalment.ensures.cursor) (set_same slots a.id cursor is) in
    same_slots old.kept m (events.Advance a.id) (replies.Refused r) new.kept after.blocks after.failures new.lanes slots later kept
    (refused_on g.M.BlockMedium.disk old new c.recorders_calls_are_steps.ensures.moves (events.Advance a.id) r c.take_instalment.ensures.reads.same.reads c.take_instalment.ensures.reads.lanes c.take_instalment.ensures.reads.config slots m stands
    (c.in-Err-take_instalment.ensures.steps a.id m means one.there passes))

pub returns-in-Err-clause-power_loss : goal.returns-in-Err-clause-power_loss
returns-in-Err-clause-power_loss g c =
    let a = c.args in
    survives_same g.M.BlockMedium.disk a.recorder.now a.recorder.now (events.Advance a.id) (replies.Refused c.in-Err.refusal) refl refl refl

pub returns-in-Err-check_read-clause-power_loss : goal.returns-in-Err-check_read-clause-power_loss
returns-in-Err-check_read-clause-power_loss g c =
    let a = c.args in
    survives_same g.M.BlockMedium.disk a.recorder.now a.recorder.now (events.Advance a.id) (replies.Refused c.in-Err-check_read.refusal) refl refl refl

pub returns-in-Ok-take_instalment-clause-power_loss : goal.returns-in-Ok-take_instalment-clause-power_loss
returns-in-Ok-take_instalment-clause-power_loss g c =
    let a = c.args in
    survives_kept g.M.BlockMedium.disk a.recorder.now c.take_instalment.new.self (events.Advance a.id) (replies.Advanced c.in-Ok-take_instalment.queued) refl c.in-Ok-take_instalment.ensures.reads.kept c.take_instalment.ensures.reads.same

pub returns-in-Err-take_instalment-clause-power_loss : goal.returns-in-Err-take_instalment-clause-power_loss
returns-in-Err-take_instalment-clause-power_loss g c =
    let a = c.args in
    let disk = g.M.BlockMedium.disk in
    let old = a.recorder.now in
    let call = c.take_instalment in
    let new = call.new.self in
    survives_refused disk old new (events.Advance a.id) c.in-Err-take_instalment.refusal call.ensures.reads.config call.ensures.reads.same (λ is.
    (ap (λ (k : Kept). k.work) (alone_if disk (first_broken (mounted_checks (mode_of old.kept.work))) _ Failed old.kept new.kept old.medium new.medium c.in-Err-take_instalment.refusal (ap (λ (w : Work). first_broken (mounted_checks (mode_of w))) is) c.in-Err-take_instalment.ensures.refused).0 ∙ is))

pub returns-in-Err-clause-answers : goal.returns-in-Err-clause-answers
returns-in-Err-clause-answers g c =
    let a = c.args in
    let old = a.recorder.now in
    let slots = a.cursors.now.slots in
    refused_check g.M.BlockMedium.disk (first_refusal old.kept old.lanes slots (events.Advance a.id)) old old slots slots (events.Advance a.id) c.in-Err.refusal (unmounted_refuses old.kept (slot_at slots a.id) c.in-Err.refusal c.in-Err.ensures.tested) refl refl refl refl

pub returns-in-Err-check_read-clause-answers : goal.returns-in-Err-check_read-clause-answers
returns-in-Err-check_read-clause-answers g c =
    let a = c.args in
    let old = a.recorder.now in
    let slots = a.cursors.now.slots in
    let r = c.in-Err-check_read.refusal in
    refused_check g.M.BlockMedium.disk (first_refusal old.kept old.lanes slots (events.Advance a.id)) old old slots slots (events.Advance a.id) r
    (mounted_reads old.kept (slot_at slots a.id) c.in-Ok.generation (Some r) c.in-Ok.ensures.tested.1 c.in-Ok.ensures.tested.0 c.in-Err-check_read.ensures.tested) refl refl refl refl

pub returns-in-Ok-take_instalment-clause-answers : goal.returns-in-Ok-take_instalment-clause-answers
returns-in-Ok-take_instalment-clause-answers g c =
    let a = c.args in
    let disk = g.M.BlockMedium.disk in
    let old = a.recorder.now in
    let call = c.take_instalment in
    let new = call.new.self in
    let slots = a.cursors.now.slots in
    let cursor = c.in-Some.cursor.now in
    let next = call.new.cursor in
    let n = c.in-Ok-take_instalment.queued in
    let later = slice_set slots a.id (Some next) in
    let is : slot_at slots a.id ≡ Some cursor = sym c.in-Some.ensures.value in
    let passed = mounted_reads old.kept (slot_at slots a.id) c.in-Ok.generation None c.in-Ok.ensures.tested.1 c.in-Ok.ensures.tested.0 c.in-Ok-check_read.ensures.tested in
    let takes : TakesEntries disk old cursor n next = record {
      there = c.in-Ok-take_instalment.ensures.there;
      file = call.ensures.place.0;
      generation = call.ensures.place.1;
      queued = c.in-Ok-take_instalment.ensures.queued;
      advances = λ packets shows. c.in-Ok-take_instalment.ensures.advances packets shows;
    } in
    let advances : AdvancesAt disk old slots a.id n later =
    some_at (slot_at slots a.id) cursor (λ (x : Cursor). (y : Cursor) × TakesEntries disk old x n y × PutsSlot slots later a.id (Some y)) is (next, takes, set_puts slots a.id cursor next is) in
    (passed, (advances, record { kept = c.in-Ok-take_instalment.ensures.reads.kept; same = call.ensures.reads.same; no_fewer = call.ensures.reads.no_fewer; lanes = call.ensures.reads.lanes }))

pub returns-in-Err-take_instalment-clause-answers : goal.returns-in-Err-take_instalment-clause-answers
returns-in-Err-take_instalment-clause-answers g c =
    let a = c.args in
    let old = a.recorder.now in
    let call = c.take_instalment in
    let slots = a.cursors.now.slots in
    let cursor = c.in-Some.cursor.now in
    let next = call.new.cursor in
    let later = slice_set slots a.id (Some next) in
    let is : slot_at slots a.id ≡ Some cursor = sym c.in-Some.ensures.value in
    let passed = mounted_reads old.kept (slot_at slots a.id) c.in-Ok.generation None c.in-Ok.ensures.tested.1 c.in-Ok.ensures.tested.0 c.in-Ok-check_read.ensures.tested in
    let kept : later ≡ slots = subst (λ (x : Cursor). slice_set slots a.id (Some x) ≡ slots) (sym c.in-Err-take_instalment.ensures.cursor) (set_same slots a.id cursor is) in
    instalment_refused g.M.BlockMedium.disk old call.new.self slots later a.id cursor (first_broken (mounted_checks (mode_of old.kept.work))) (first_refusal old.kept old.lanes slots (events.Advance a.id)) c.in-Err-take_instalment.refusal is c.in-Ok.ensures.tested.1 passed
    c.in-Err-take_instalment.ensures.refused call.ensures.reads.lanes call.ensures.reads.same kept

pub returns-in-Err-clause-spares : goal.returns-in-Err-clause-spares
returns-in-Err-clause-spares g c = unchanged (g.M.BlockMedium.disk c.args.recorder.now.medium)

pub returns-in-Err-check_read-clause-spares : goal.returns-in-Err-check_read-clause-spares
returns-in-Err-check_read-clause-spares g c = unchanged (g.M.BlockMedium.disk c.args.recorder.now.medium)

pub returns-in-Ok-take_instalment-clause-spares : goal.returns-in-Ok-take_instalment-clause-spares
returns-in-Ok-take_instalment-clause-spares g c = c.take_instalment.ensures.reads.same

pub returns-in-Err-take_instalment-clause-spares : goal.returns-in-Err-take_instalment-clause-spares
returns-in-Err-take_instalment-clause-spares g c = c.take_instalment.ensures.reads.same
