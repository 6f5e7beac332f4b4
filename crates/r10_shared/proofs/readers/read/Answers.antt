use Rattle.r10_shared.proofs.Looks.{worked_so}
use Rattle.r10_shared.proofs.readers.read.Goals as goal

pub returns-then-pass-clause-watches : goal.returns-then-pass-clause-watches
returns-then-pass-clause-watches g c = let (asks, asked, watched) = c.watch.ensures.asks in worked_so _ c.pass.result c.pass.ensures c.if-pass.true asks watched

pub returns-then-pass-clause-reads : goal.returns-then-pass-clause-reads
returns-then-pass-clause-reads g c = g.met.D.SessionReader.reads_join _ _ _ c.pass_over.ensures.reads c.watch.ensures.reads
