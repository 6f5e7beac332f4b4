use Rattle.r10_world.proofs.Answering.{or_either, own_same, refused_call}
use Rattle.r10_world.proofs.OnTable.{opens_slot, refused_memory}
use Rattle.r10_control.specs.Reading.{IsReadFileRefusal}
use Rattle.std.proofs.Common.{ap, refl, ◌∙◌}
use Rattle.r10_world.proofs.Tables.{is_mounted, open_lacks, opens_on}
use Rattle.r10_world.proofs.CallsAsSteps.{refused_on}
use Rattle.r10_body.specs.declared.refusal.Refusal.TheVariants.{Failed}
use Rattle.r10_control.specs.Checks.{recorder_refusal}
use Rattle.r10_refinement.specs.KeptState.{Kept, Work}
use Rattle.r10_world.proofs.PowerLossInRuns.{alone_if, survives_kept, survives_refused}
use Rattle.r10_body.specs.declared.refusal.Refusal.TheVariants as refusals
use Rattle.r10_machine.specs.declared.reply.Reply.TheVariants as replies
use Rattle.r10_world.proofs.readers.open.Goals as goal
use Rattle.r10_machine.specs.declared.event.Event.TheVariants as events

pub returns-in-Err-clause-tells : goal.returns-in-Err-clause-tells
returns-in-Err-clause-tells g c = λ m stands.
    let a = c.args in
    let call = c.check_file in
    refused_on g.M.BlockMedium.disk a.recorder.now call.new.self c.recorders_calls_are_steps.ensures.moves (events.Cursor a.file a.channels.now a.from a.to) c.in-Err.refusal call.ensures.reads.same.reads call.ensures.reads.lanes call.ensures.reads.config
    a.cursors.now.slots m stands (c.in-Err.ensures.steps a.channels.now m stands.joined.means)

pub returns-in-Err-generation-clause-tells : goal.returns-in-Err-generation-clause-tells
returns-in-Err-generation-clause-tells g c = λ m stands.
    let a = c.args in
    absurd (is_mounted a.recorder.now.kept c.check_file.new.self.kept a.file a.channels.now a.from a.to c.in-Err-generation.refusal (c.in-Ok.ensures.passed) c.in-Ok.ensures.reads.kept c.in-Err-generation.ensures.tested)

pub returns-in-Ok-open_cursor-clause-tells : goal.returns-in-Ok-open_cursor-clause-tells
returns-in-Ok-open_cursor-clause-tells g c = λ m stands.
    let a = c.args in
    let call = c.check_file in
    opens_on g.M.BlockMedium.disk a.recorder.now call.new.self c.tables_calls_are_steps.ensures.opens a.file a.channels.now a.from a.to c.in-Ok.range.0 c.in-Ok.range.1 c.in-Ok-open_cursor.id c.in-Ok-generation.generation a.cursors.now.slots
    c.open_cursor.new.cursors.slots c.in-Ok.ensures.reads.kept call.ensures.reads.same.reads call.ensures.reads.lanes call.ensures.reads.no_fewer c.in-Ok-generation.ensures.tested.0 c.in-Ok.ensures.range.0 c.in-Ok.ensures.range.1 c.in-Ok-open_cursor.ensures.opens
    m stands (c.in-Ok.ensures.steps a.channels.now m stands.joined.means)

pub returns-in-Err-open_cursor-clause-tells : goal.returns-in-Err-open_cursor-clause-tells
returns-in-Err-open_cursor-clause-tells g c = λ m stands.
    let a = c.args in
    let call = c.check_file in
    open_lacks g.M.BlockMedium.disk a.recorder.now call.new.self c.recorders_calls_are_steps.ensures.stays c.lacks_of_memory_are_steps.ensures a.file a.channels.now a.from a.to a.cursors.now.slots c.open_cursor.new.cursors.slots
    c.in-Ok.ensures.reads.kept call.ensures.reads.same.reads call.ensures.reads.lanes call.ensures.reads.no_fewer c.in-Err-open_cursor.ensures.kept m stands (c.in-Ok.ensures.steps a.channels.now m stands.joined.means)

pub returns-in-Err-clause-power_loss : goal.returns-in-Err-clause-power_loss
returns-in-Err-clause-power_loss g c =
    let a = c.args in
    let disk = g.M.BlockMedium.disk in
    let old = a.recorder.now in
    let call = c.check_file in
    let new = call.new.self in
    survives_refused disk old new (events.Cursor a.file a.channels.now a.from a.to) c.in-Err.refusal call.ensures.reads.config call.ensures.reads.same (λ is.
    (ap (λ (k : Kept). k.work) (alone_if disk (recorder_refusal old.kept (events.Cursor a.file a.channels.now a.from a.to)) _ Failed old.kept new.kept old.medium new.medium c.in-Err.refusal (ap (λ (w : Work). recorder_refusal (record old.kept { work = w }) (events.Cursor a.file a.channels.now a.from a.to)) is) (c.in-Err.ensures.refused)).0 ∙ is))

pub returns-in-Err-generation-clause-power_loss : goal.returns-in-Err-generation-clause-power_loss
returns-in-Err-generation-clause-power_loss g c =
    let a = c.args in
    survives_kept g.M.BlockMedium.disk a.recorder.now c.check_file.new.self (events.Cursor a.file a.channels.now a.from a.to) (replies.Refused c.in-Err-generation.refusal) refl c.in-Ok.ensures.reads.kept c.check_file.ensures.reads.same

pub returns-in-Ok-open_cursor-clause-power_loss : goal.returns-in-Ok-open_cursor-clause-power_loss
returns-in-Ok-open_cursor-clause-power_loss g c =
    let a = c.args in
    survives_kept g.M.BlockMedium.disk a.recorder.now c.check_file.new.self (events.Cursor a.file a.channels.now a.from a.to) (replies.Cursor c.in-Ok-open_cursor.id) refl c.in-Ok.ensures.reads.kept c.check_file.ensures.reads.same

pub returns-in-Err-open_cursor-clause-power_loss : goal.returns-in-Err-open_cursor-clause-power_loss
returns-in-Err-open_cursor-clause-power_loss g c =
    let a = c.args in
    survives_kept g.M.BlockMedium.disk a.recorder.now c.check_file.new.self (events.Cursor a.file a.channels.now a.from a.to) (replies.Refused refusals.OutOfMemory) refl c.in-Ok.ensures.reads.kept c.check_file.ensures.reads.same

pub returns-in-Err-clause-answers : goal.returns-in-Err-clause-answers
returns-in-Err-clause-answers g c =
    let a = c.args in
    let old = a.recorder.now in
    let call = c.check_file in
    let new = call.new.self in
    let disk = g.M.BlockMedium.disk in
    let lacks = IsReadFileRefusal old.kept.work (disk old.medium).blocks a.file in
    refused_call disk (recorder_refusal old.kept (events.Cursor a.file a.channels.now a.from a.to)) lacks old new a.cursors.now.slots (events.Cursor a.file a.channels.now a.from a.to) c.in-Err.refusal (c.in-Err.ensures.refused) call.ensures.reads.lanes refl
    (or_either lacks) (λ none fails. tt) (λ lacks. tt) (λ left. left) call.ensures.reads.same (λ lanes. lanes)

pub returns-in-Err-generation-clause-answers : goal.returns-in-Err-generation-clause-answers
returns-in-Err-generation-clause-answers g c =
    let a = c.args in
    absurd (is_mounted a.recorder.now.kept c.check_file.new.self.kept a.file a.channels.now a.from a.to c.in-Err-generation.refusal (c.in-Ok.ensures.passed) c.in-Ok.ensures.reads.kept c.in-Err-generation.ensures.tested)

pub returns-in-Ok-open_cursor-clause-answers : goal.returns-in-Ok-open_cursor-clause-answers
returns-in-Ok-open_cursor-clause-answers g c =
    let a = c.args in
    let call = c.check_file in
    let opened = c.in-Ok-open_cursor in
    let generation = c.in-Ok-generation.ensures.tested.0 ∙ ap (λ (k : Kept). k.generation) c.in-Ok.ensures.reads.kept in (
      c.in-Ok.ensures.passed,
      (
        c.in-Ok.ensures.there,
        opened.ensures.was_free,
        opens_slot a.cursors.now c.open_cursor.new.cursors opened.id c.in-Ok-generation.generation a.recorder.now.kept.generation a.file a.from a.to c.in-Ok.range.0 c.in-Ok.range.1 a.channels.now generation c.in-Ok.ensures.range.0 c.in-Ok.ensures.range.1 opened.ensures.opened,
        record { kept = c.in-Ok.ensures.reads.kept; same = call.ensures.reads.same; no_fewer = call.ensures.reads.no_fewer; lanes = call.ensures.reads.lanes },
      ),
    )

pub returns-in-Err-open_cursor-clause-answers : goal.returns-in-Err-open_cursor-clause-answers
returns-in-Err-open_cursor-clause-answers g c =
    let a = c.args in
    let old = a.recorder.now in
    let call = c.check_file in
    refused_memory g.M.BlockMedium.disk (recorder_refusal old.kept (events.Cursor a.file a.channels.now a.from a.to)) old call.new.self a.cursors.now.slots c.open_cursor.new.cursors.slots (events.Cursor a.file a.channels.now a.from a.to)
    (c.in-Ok.ensures.passed) tt (c.in-Ok.ensures.reads.kept, call.ensures.reads.same)
    (own_same old.kept call.new.self.kept (g.M.BlockMedium.disk old.medium).blocks (g.M.BlockMedium.disk call.new.self.medium).blocks c.in-Ok.ensures.reads.kept call.ensures.reads.same.reads) call.ensures.reads.lanes c.in-Err-open_cursor.ensures.kept

pub returns-in-Err-clause-spares : goal.returns-in-Err-clause-spares
returns-in-Err-clause-spares g c = c.check_file.ensures.reads.same

pub returns-in-Err-generation-clause-spares : goal.returns-in-Err-generation-clause-spares
returns-in-Err-generation-clause-spares g c = c.check_file.ensures.reads.same

pub returns-in-Ok-open_cursor-clause-spares : goal.returns-in-Ok-open_cursor-clause-spares
returns-in-Ok-open_cursor-clause-spares g c = c.check_file.ensures.reads.same

pub returns-in-Err-open_cursor-clause-spares : goal.returns-in-Err-open_cursor-clause-spares
returns-in-Err-open_cursor-clause-spares g c = c.check_file.ensures.reads.same
