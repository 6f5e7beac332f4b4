use Rattle.std.proofs.Common.{[], drop, take, vec_len}
use Rattle.r10_world.proofs.WholeRuns.{records_new}
use Rattle.r10_world.proofs.whole.format_and_record.Goals as goal

pub returns-in-Ok-clause-records : goal.returns-in-Ok-clause-records
returns-in-Ok-clause-records g c =
    let disk = g.M.BlockMedium.disk in
    let n = vec_len c.args.replies.now in
    let done = c.in-Ok.done in
    records_new c.args.settings (take done.0 c.args.events.now) (drop n c.record_all.new.replies.items) (disk c.args.medium) (disk c.format.new.medium) (disk done.1)
    c.format.ensures.counts.no_fewer
    c.format.ensures.moments c.in_default.ensures.settled (c.in-Ok.ensures.records [] c.in_default.ensures.has.0)
