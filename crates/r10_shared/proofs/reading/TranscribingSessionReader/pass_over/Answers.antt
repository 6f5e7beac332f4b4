use Rattle.r10_shared.proofs.reading.TranscribingSessionReader.pass_over.Goals as goal

pub returns-clause-reads : goal.returns-clause-reads
returns-clause-reads c = c.pass_over.ensures.taken c.args.self.now.instalments.items
