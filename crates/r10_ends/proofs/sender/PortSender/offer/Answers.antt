use Rattle.std.proofs.Common.{◌≡◌, Some, Err, ◌∙◌, sym, subst}
use Rattle.r10_body.specs.declared.spec.ChannelSpec.{ChannelSpec}
use Rattle.r10_machine.specs.Checks.{first_broken, taking_checks}
use Rattle.r10_port.proofs.Offers.{offered_same}
use Rattle.r10_port.specs.Ends.{Sending}
use Rattle.r10_ends.specs.Sending.{OffersByPort}
use Rattle.r10_ends.proofs.Ranges.{far_of, refused_first}
use Rattle.r10_ends.proofs.sender.PortSender.offer.Goals as goal

pub returns-in_default : goal.returns-in_default
returns-in_default c =
    let port = c.self.inside.port in
    let r = c.out_of_range.result in
    let broken = c.out_of_range.ensures port.lane.last c.args.count (far_of c.args.count c.in_default.ensures) in
    subst (λ (v : Sending). OffersByPort v c.args.count c.args.message c.number_of.result v) c.self.view_is (
      Err r,
      refused_first port c.args.count c.args.message r
          (subst (λ (s : ChannelSpec). first_broken (taking_checks s port.lane.last c.args.count c.args.message) ≡ Some r) c.self.invariant broken),
      c.number_of.ensures,
    )

pub invariant_of-self : goal.invariant_of-self
invariant_of-self c =
    c.self.invariant ∙ sym (offered_same c.self.inside.port c.in-Some.count c.args.message c.offer.result c.offer.new.self c.offer.ensures.offered).1
