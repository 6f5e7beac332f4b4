use Rattle.std.proofs.Common.{◌∙◌, subst, sym}
use Rattle.r10_held.specs.State.{HeldState}
use Rattle.r10_shared.specs.Settling.{IsEndRefusal}
use Rattle.r10_shared.proofs.Ended.{refused_so}
use Rattle.r10_shared.proofs.ending.end_session.Goals as goal

pub returns-in-Err-clause-refused : goal.returns-in-Err-clause-refused
returns-in-Err-clause-refused g c =
    (c.of_parts.ensures.gauge ∙ c.into_parts-held.ensures, c.in-Err.ensures.refused.1, refused_so _ _ _ c.of_parts.ensures.made (subst (λ (h : HeldState _). IsEndRefusal h.recorder.kept.work c.in-Err.refusal) (sym c.in-Err.ensures.refused.0) c.in-Err.ensures.refused.2))
