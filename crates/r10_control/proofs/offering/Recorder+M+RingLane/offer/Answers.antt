use Rattle.std.proofs.Common.{◌≡◌, ℕ, List, None, Some, Err, set, sym, ap, ◌∙◌, refl, subst}
use Rattle.std.specs.List.{position}
use Rattle.std.proofs.lemmas.List.{set-get_or}
use Rattle.r10_body.specs.declared.refusal.Refusal.TheVariants as refusals
use Rattle.r10_body.specs.declared.spec.ChannelSpec.{ChannelSpec}
use Rattle.r10_count.specs.Checks.{first_broken}
use Rattle.r10_lane.specs.Lanes.{Offers}
use Rattle.r10_machine.specs.Checks.{taking_checks}
use Rattle.r10_machine.specs.Machine.{Lane, is_channel}
use Rattle.r10_control.specs.Lanes.{AnswersWith, OffersTo}
use Rattle.r10_control.specs.State.{RecorderState}
use Rattle.r10_control.proofs.Offers.{is_nowhere, offer_leads, offers_at, one_risen, owns_risen, refused_early}
use Rattle.r10_machine.specs.declared.event.Event.TheVariants as events
use Rattle.r10_machine.specs.declared.reply.Reply.TheVariants as replies
use Rattle.r10_control.proofs.offering.Recorder+M+RingLane.offer.Given.{Over}
use Rattle.r10_control.proofs.offering.Recorder+M+RingLane.offer.Goals.{In_default, After-refuse_late, After-offer}
use Rattle.r10_control.proofs.offering.Recorder+M+RingLane.offer.Goals as goal

-- no lane is of the channel
nowhere : (g : Over) (c : In_default g) → OffersTo c.args.channel c.self.inside.lanes.items c.args.count c.args.message (Err refusals.NoSuchChannel) c.self.inside.lanes.items
nowhere g c =
    let items = c.self.inside.lanes.items in
    let e : position (is_channel c.args.channel) items ≡ None = ap (position (is_channel c.args.channel)) (sym c.as_slice.ensures.value) ∙ sym c.place_of.ensures ∙ c.in_default.is in
    rw (is_nowhere (is_channel c.args.channel) items e) (refl, refl)

-- the count has more than 48 bits
late : (g : Over) (c : After-refuse_late g) → OffersTo c.args.channel c.self.inside.lanes.items c.args.count c.args.message (Err c.refuse_late.result) c.self.inside.lanes.items
late g c =
    let items = c.self.inside.lanes.items in
    let old = c.index.result.now in
    let here = c.index.ensures in
    let e : position (is_channel c.args.channel) items ≡ Some c.in-Some.at = ap (position (is_channel c.args.channel)) (sym c.as_slice.ensures.value) ∙ sym c.place_of.ensures ∙ c.in-Some.is in
    let first : first_broken (taking_checks old.spec None c.args.count c.args.message) ≡ Some c.refuse_late.result =
    subst (λ (s : ChannelSpec). first_broken (taking_checks s None c.args.count c.args.message) ≡ Some c.refuse_late.result) c.spec.ensures c.refuse_late.ensures in
    subst (λ (l : List Lane). OffersTo c.args.channel items c.args.count c.args.message (Err c.refuse_late.result) l) (ap (set items c.in-Some.at) here ∙ set-get_or items c.in-Some.at old)
    (offers_at c.args.channel items c.in-Some.at old old c.args.count c.args.message (Err c.refuse_late.result) e here (refused_early old c.args.count c.args.message c.refuse_late.result first))

-- the lane says what it is
asked : (g : Over) (c : After-offer g) → OffersTo c.args.channel c.self.inside.lanes.items c.args.count c.args.message c.offer.result (set c.self.inside.lanes.items c.in-Some.at c.offer.new.self)
asked g c =
    let items = c.self.inside.lanes.items in
    let old = c.index_mut-lane.result.now in
    let e : position (is_channel c.args.channel) items ≡ Some c.in-Some.at = ap (position (is_channel c.args.channel)) (sym c.as_slice.ensures.value) ∙ sym c.place_of.ensures ∙ c.in-Some.is in
    offers_at c.args.channel items c.in-Some.at old c.offer.new.self c.args.count c.args.message c.offer.result e c.index_mut-lane.ensures.value
    (subst (λ (n : ℕ). Offers old n c.args.message c.offer.result c.offer.new.self) (c.in-Some-of.ensures.1) c.offer.ensures.offers)

pub returns-in_default-clause-offers : goal.returns-in_default-clause-offers
returns-in_default-clause-offers g c =
    subst (λ (v : RecorderState _ _). OffersTo c.args.channel v.lanes c.args.count c.args.message (Err refusals.NoSuchChannel) v.lanes) c.self.view_is (nowhere g (goal.at.returns-in_default-clause-offers g c).In_default)

pub returns-in_default-clause-steps : goal.returns-in_default-clause-steps
returns-in_default-clause-steps g c =
    let disk = g.M.BlockMedium.disk in
    let items = c.self.inside.lanes.items in
    subst (λ (v : RecorderState _ _). AnswersWith {T = Unit {0}} v.lanes v.kept (disk v.medium).blocks (disk v.medium).failures (events.Offer c.args.channel c.args.count c.args.message) (λ u. replies.Done) (Err refusals.NoSuchChannel) v.lanes) c.self.view_is
    (offer_leads c.offers_are_steps.ensures.accepted c.offers_are_steps.ensures.refused _ _ _ c.args.channel c.args.count c.args.message _ items (Err refusals.NoSuchChannel) c.self.invariant.limits
    (nowhere g (goal.at.returns-in_default-clause-steps g c).In_default))

pub returns-in_default-of-clause-offers : goal.returns-in_default-of-clause-offers
returns-in_default-of-clause-offers g c =
    subst (λ (v : RecorderState _ _). OffersTo c.args.channel v.lanes c.args.count c.args.message (Err c.refuse_late.result) v.lanes) c.self.view_is (late g (goal.at.returns-in_default-of-clause-offers g c).After-refuse_late)

pub returns-in_default-of-clause-steps : goal.returns-in_default-of-clause-steps
returns-in_default-of-clause-steps g c =
    let disk = g.M.BlockMedium.disk in
    let items = c.self.inside.lanes.items in
    subst (λ (v : RecorderState _ _). AnswersWith {T = Unit {0}} v.lanes v.kept (disk v.medium).blocks (disk v.medium).failures (events.Offer c.args.channel c.args.count c.args.message) (λ u. replies.Done) (Err c.refuse_late.result) v.lanes) c.self.view_is
    (offer_leads c.offers_are_steps.ensures.accepted c.offers_are_steps.ensures.refused _ _ _ c.args.channel c.args.count c.args.message _ items (Err c.refuse_late.result) c.self.invariant.limits
    (late g (goal.at.returns-in_default-of-clause-steps g c).After-refuse_late))

pub invariant_of-self : goal.invariant_of-self
invariant_of-self g c =
    let items = c.self.inside.lanes.items in
    owns_risen _ _ c.self.inside.reader.books items (set items c.in-Some.at c.offer.new.self)
    (one_risen items c.in-Some.at c.index_mut-lane.result.now c.offer.new.self c.index_mut-lane.ensures.value c.offer.ensures.spec c.offer.ensures.climbs) c.self.invariant

pub returns-clause-offers : goal.returns-clause-offers
returns-clause-offers g c =
    let items = c.self.inside.lanes.items in
    subst (λ (v : RecorderState _ _). OffersTo c.args.channel v.lanes c.args.count c.args.message c.offer.result (set items c.in-Some.at c.offer.new.self)) c.self.view_is (asked g (goal.at.returns-clause-offers g c).After-offer)

pub returns-clause-steps : goal.returns-clause-steps
returns-clause-steps g c =
    let disk = g.M.BlockMedium.disk in
    let items = c.self.inside.lanes.items in
    let lanes = set items c.in-Some.at c.offer.new.self in
    subst (λ (v : RecorderState _ _). AnswersWith v.lanes v.kept (disk v.medium).blocks (disk v.medium).failures (events.Offer c.args.channel c.args.count c.args.message) (λ u. replies.Done) c.offer.result lanes) c.self.view_is
    (offer_leads c.offers_are_steps.ensures.accepted c.offers_are_steps.ensures.refused _ _ _ c.args.channel c.args.count c.args.message _ lanes c.offer.result c.self.invariant.limits
    (asked g (goal.at.returns-clause-steps g c).After-offer))
