use Rattle.std.proofs.Common.{rules, ap, sym, subst, ◌∙◌, [], ◌∷◌, ◌++◌}
use Rattle.crossbeam_utils.specs.Seq.{cell_view}
use Rattle.r10_gauge.specs.Published.{PublishingEnd}
use Rattle.r10_gauge.proofs.Steps.{publishes, writes_on}
use Rattle.r10_gauge.proofs.gauge.Gauge.put.Goals as goal

pub swap_as-requires : goal.swap_as-requires
swap_as-requires g c = (
  search rules,
  (
    search rules,
    (
      search rules,
      publishes g.K.GaugeKind.keeps _ (cell_view c.self.inside.seat) (c.args.next.commits ∷ c.args.next.file ∷ c.args.next.bytes ∷ []) (ap (λ v. v.writes) c.self.invariant.1)
          (subst (λ (p : PublishingEnd). g.K.GaugeKind.keeps (p.published ++ c.args.next ∷ [])) (sym c.self.view_is) c.requires),
    ),
  ),
)

pub invariant_of-self : goal.invariant_of-self
invariant_of-self g c =
    let on = writes_on g.K.GaugeKind.keeps (cell_view c.self.inside.seat) (cell_view c.swap_as.new.pass) c.args.next c.swap_as.ensures.rule
    (subst (λ (p : PublishingEnd). g.K.GaugeKind.keeps (p.published ++ c.args.next ∷ [])) (sym c.self.view_is) c.requires) in
    (c.swap_as.ensures.cell.0 ∙ c.self.invariant.0, on.0, on.1, on.2, on.3)
