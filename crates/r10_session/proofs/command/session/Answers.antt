use Rattle.std.proofs.Common.{◌∙◌, Bool, List, ap}
use Rattle.r10_session.specs.Text.{session_text}
use Rattle.r10_session.proofs.WhatScriptsGive.{reported}
use Rattle.r10_session.proofs.command.session.Goals as goal

pub returns-clause-ends : goal.returns-clause-ends
returns-clause-ends g c =
    reported _ _ _ _ _ _ _ _ c.in_ok-left.ensures (c.as_str.ensures.value ∙ c.in_ok-lines.ensures ∙ ap (λ (a : List Bool). session_text a c.in_ok-left.left.ended) c.as_slice.ensures.value)
    c.in_ok-put.ensures.text c.outcome.ensures
