use Rattle.r10_session.proofs.Coming.{came_each}
use Rattle.r10_session.proofs.Reading.{read_each}
use Rattle.r10_session.proofs.Weaker.{ok_so}
use Rattle.r10_session.proofs.session.run_to_end.Goals as goal

pub returns-clause-feeds : goal.returns-clause-feeds
returns-clause-feeds g c =
    let run = c.in-Ok.ensures.feeds in
    ok_so c.finish.result c.finish.ensures.settled (λ report settled. (settled.own, settled.is_own, came_each _ settled.own (λ feed. feed.source) (λ feed. feed.line) (λ feed. feed.tally) _ _ _ run.0 run.1 settled.number settled.each))

pub returns-clause-readers : goal.returns-clause-readers
returns-clause-readers g c =
    let read = c.in-Ok.ensures.players in
    ok_so c.finish.result c.finish.ensures.transcripts (λ report down. read_each _ _ _ read.0 read.1 down.number down.each)
