use Rattle.std.proofs.Common.{◌≡◌, ℕ, ◌-◌, ◌^◌, min, length, ap, subst, refl, ◌∙◌, [], ◌∷◌, ◌++◌}
use Rattle.crossbeam_utils.specs.Seq.{cell_view}
use Rattle.r10_gauge.specs.Published.{AreNumbered, PublishingEnd, triple}
use Rattle.r10_gauge.proofs.Steps.{numbers_on}
use Rattle.r10_gauge.proofs.gauge.Gauge+Commits.publish.Goals as goal

pub put-requires : goal.put-requires
put-requires g c =
    let next = triple c.saturating_add-commits.result c.args.file c.args.bytes in
    subst (λ (p : PublishingEnd). AreNumbered (p.published ++ next ∷ [])) c.self.view_is
    (numbers_on (cell_view c.self.inside.seat).seen c.self.inside.last next c.saturating_add-commits.result c.self.invariant.3 c.self.invariant.2 c.self.invariant.4 c.saturating_add-commits.ensures refl).1

pub returns-clause-grows : goal.returns-clause-grows
returns-clause-grows g c =
    let next = triple c.saturating_add-commits.result c.args.file c.args.bytes in
    let number = subst (λ (p : PublishingEnd). c.saturating_add-commits.result ≡ min (length p.published) (2 ^ 64 - 1)) c.self.view_is
    (numbers_on (cell_view c.self.inside.seat).seen c.self.inside.last next c.saturating_add-commits.result c.self.invariant.3 c.self.invariant.2 c.self.invariant.4 c.saturating_add-commits.ensures refl).0 in
    c.put.ensures.grows ∙ ap (λ (n : ℕ). c.args.self.now.published ++ triple n c.args.file c.args.bytes ∷ []) number
