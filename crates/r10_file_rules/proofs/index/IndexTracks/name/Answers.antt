use Rattle.r10_index.proofs.Counting.{is_added}
use Rattle.r10_file_rules.proofs.index.IndexTracks.name.Goals as goal

pub returns-clause-counted : goal.returns-clause-counted
returns-clause-counted c = λ packets p book entry count.
    (is_added c.add.result (c.add.ensures.ready c.requires) (c.add.ensures.book packets p book entry count)).counted
