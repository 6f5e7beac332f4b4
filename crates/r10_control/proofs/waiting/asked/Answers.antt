use Rattle.std.proofs.Common.{◌≡◌, Option, None, Some, MatchResult, sym, ap, ◌∙◌, subst}
use Rattle.r10_machine.specs.Checks.{offer_refusal}
use Rattle.r10_machine.specs.Machine.{Lane, is_channel}
use Rattle.r10_control.proofs.Offers.{is_at, is_nowhere}
use Rattle.r10_control.proofs.waiting.asked.Goals as goal

pub returns-in-Some : goal.returns-in-Some
returns-in-Some c =
    let at = is_at (is_channel c.args.channel) c.args.lanes.now c.in-Some.at c.index-lanes-at.result (sym c.place_of.ensures ∙ c.in-Some.is) c.index-lanes-at.is in
    subst (λ (o : Option Lane). MatchResult c.would_take.result (λ u. offer_refusal o c.args.count c.args.message.now ≡ None) (λ r. offer_refusal o c.args.count c.args.message.now ≡ Some r)) (sym at.found) c.would_take.ensures

pub returns-in-None : goal.returns-in-None
returns-in-None c = ap (λ (o : Option Lane). offer_refusal o c.args.count c.args.message.now) (is_nowhere (is_channel c.args.channel) c.args.lanes.now (sym c.place_of.ensures ∙ c.in-None.is))
