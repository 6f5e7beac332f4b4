use Rattle.std.proofs.lemmas.Bool.{not-true}
use Rattle.r10_shared.proofs.Looks.{looked_all, looked_more, on_of}
use Rattle.r10_shared.proofs.watching.watch.Goals as goal

pub returns-then-not-looked-clause-asks : goal.returns-then-not-looked-clause-asks
returns-then-not-looked-clause-asks g c =
    looked_all g.W.Watching.asked g.met.W.Watching.joins _ _ _ c.loop.seen c.wait_or_read-looked.result.shown c.wait_or_read-looked.result.on c.loop.invariant.0 c.wait_or_read-looked.ensures.asks (not-true c.wait_or_read-looked.result.on c.if-not-looked.true)

pub loop-preserved : goal.loop-preserved
loop-preserved g c =
    let laws = g.met.W.Watching in
    let (looks, asked, watched) = c.wait_or_read-looked.ensures.asks in (
      looked_more g.W.Watching.asked laws.joins _ _ _ c.loop.seen c.wait_or_read-looked.result.shown c.wait_or_read-looked.result.on c.loop.invariant.0 c.wait_or_read-looked.ensures.asks (on_of c.wait_or_read-looked.result.on c.if-not-looked.false),
      laws.keeps _ _ _ _ _ asked c.wait_or_read-looked.ensures.reads c.loop.invariant.1,
      laws.reads_join _ _ _ c.loop.invariant.2 c.wait_or_read-looked.ensures.reads,
    )
