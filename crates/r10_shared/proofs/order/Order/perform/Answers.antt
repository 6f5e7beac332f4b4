use Rattle.std.proofs.Common.{List, ℕ, subst}
use Rattle.r10_held.specs.Recorder.{IsStartRefusal, RefusesCall, recorder_refusal}
use Rattle.r10_machine.specs.declared.event.Event.TheVariants as events
use Rattle.r10_shared.proofs.order.Order.perform.Goals as goal

pub returns-in-Err-start_file-clause-refused : goal.returns-in-Err-start_file-clause-refused
returns-in-Err-start_file-clause-refused g c =
    let disk = g.M.BlockMedium.disk in
    let old = c.args.held.now.recorder in
    let new = c.start_file.new.self.recorder in
    let refuses : List ℕ → List ℕ → Type 0 = λ name setup. RefusesCall disk (recorder_refusal old.kept (events.Start name setup)) (IsStartRefusal old.kept setup) old.kept new.kept old.medium new.medium c.in-Err-start_file.refusal in
    rw c.in-Start.is
    (subst (λ (name : List ℕ). refuses name c.in-Start.setup) c.as_slice.ensures (subst (λ (setup : List ℕ). refuses c.as_slice.result.now setup) c.as_slice-in-Start.ensures c.in-Err-start_file.ensures.does.refused))
