use Rattle.r10_gauge.proofs.cell.compare.Goals as goal

pub returns-clause-seen : goal.returns-clause-seen
returns-clause-seen g c = c.look-words.ensures.saw.5 c.requires.writes
