use Rattle.r10_session.proofs.WhatScriptsGive.{left}
use Rattle.r10_session.proofs.command.session_image.Goals as goal

pub returns-clause-leaves : goal.returns-clause-leaves
returns-clause-leaves g c =
    left _ _ _ _ _ _ _ c.in_ok-left.ensures c.in_ok-write_image.ensures.image c.outcome.ensures
