use Rattle.std.proofs.Common.{drop, refl, subst, sym, take, vec_len}
use Rattle.r10_world.proofs.WholeRuns.{records_so}
use Rattle.r10_world.specs.Joined.{begun_world}
use Rattle.r10_world.specs.PowerLoss.{RecordsRun}
use Rattle.r10_world.proofs.whole.record_all.Goals as goal

pub returns-in-Ok-clause-records : goal.returns-in-Ok-clause-records
returns-in-Ok-clause-records g c = λ files says.
    let disk = g.M.BlockMedium.disk in
    let s = c.args.settings in
    let medium = c.args.medium in
    let es = take c.in-Ok.done c.args.events.now in
    let rs = drop (vec_len c.args.replies.now) c.run_over_any_medium.new.replies.items in
    subst (λ (m : _). RecordsRun s files es rs (disk medium) (disk m)) (sym c.into_medium.ensures)
    (records_so c.files_on_a_medium_are_found.ensures c.a_recording_accounts.ensures c.found_files_stay.ensures disk s medium (begun_world s medium) c.in-Ok.world files es rs
    (c.in-Ok.ensures.recovers files says) refl refl c.in-Ok.ensures.power_loss)
