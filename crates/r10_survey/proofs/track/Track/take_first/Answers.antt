use Rattle.r10_survey.proofs.track.Track.take_first.Goals as goal

pub returns-in-Stray-clause-taken : goal.returns-in-Stray-clause-taken
returns-in-Stray-clause-taken c = λ whole so_far.
    c.take_stray.ensures.taken whole c.args.bytes.now c.args.last c.in-Stray.field-0 so_far c.requires.some c.in-Stray.ensures.0 c.in-Stray.ensures.1
