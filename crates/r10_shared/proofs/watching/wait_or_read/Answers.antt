use Rattle.r10_shared.proofs.Looks.{looked_due, looked_front, looked_idle}
use Rattle.r10_shared.proofs.watching.wait_or_read.Goals as goal

pub returns-then-not-is_due-clause-asks : goal.returns-then-not-is_due-clause-asks
returns-then-not-is_due-clause-asks g c =
    let asked = g.W.Watching.asked in
    let joins = g.met.W.Watching.joins in
    looked_idle asked joins _ _ _ c.is_ended-last.result c.is_due.result c.commit_count-shown.result c.args.seen (looked_front asked joins _ _ _ _ _ _ c.announce-wait.ensures c.is_ended-last.ensures c.commit_count-shown.ensures) c.sleep.ensures c.is_due.ensures (search)

pub read-answer-requires : goal.read-answer-requires
read-answer-requires g c =
    let laws = g.met.W.Watching in
    laws.keeps _ _ _ _ _ (looked_front g.W.Watching.asked laws.joins _ _ _ _ _ _ c.announce-wait.ensures c.is_ended-last.ensures c.commit_count-shown.ensures) (laws.reads_none c.args.reading.now) c.requires

pub returns-clause-asks : goal.returns-clause-asks
returns-clause-asks g c =
    let asked = g.W.Watching.asked in
    let joins = g.met.W.Watching.joins in
    looked_due asked joins _ _ _ c.is_ended-last.result c.is_due.result c.goes_on.result c.commit_count-shown.result c.args.seen c.read-answer.result (looked_front asked joins _ _ _ _ _ _ c.announce-wait.ensures c.is_ended-last.ensures c.commit_count-shown.ensures) c.read-answer.ensures.asked c.is_due.ensures (search) c.goes_on.ensures
