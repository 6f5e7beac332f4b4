use Rattle.std.proofs.Common.{◌≡◌, sym, subst, ◌∙◌}
use Rattle.r10_world.specs.State.{WorldState}
use Rattle.r10_calls.proofs.OneEvent.{put_back}
use Rattle.r10_calls.specs.EventCalls.{StepsToReply}
use Rattle.r10_calls.proofs.running.run_bound.Goals as goal

pub returns-clause-steps : goal.returns-clause-steps
returns-clause-steps g c =
    let disk = g.M.BlockMedium.disk in let a = c.args in let done = c.run_one-reply in
    let before : c.over-bound.result ≡ a.world = put_back a.world c.lift-lifted.result.0 c.over-bound.result c.new.result c.over-bound.ensures c.lift-lifted.ensures.0 (c.new.ensures ∙ c.lift-lifted.ensures.1) in
    let after : c.over.result ≡ done.new.world = put_back done.new.world c.lift-lifted-2.result.0 c.over.result c.into_medium.result c.over.ensures c.lift-lifted-2.ensures.0
    (c.into_medium.ensures.same ∙ c.lift-lifted-2.ensures.1) in
    subst (λ (w : WorldState _). StepsToReply disk w a.event done.result c.over.result) before
    (subst (λ (w : WorldState _). StepsToReply disk c.over-bound.result a.event done.result w) (sym after) done.ensures.steps)
