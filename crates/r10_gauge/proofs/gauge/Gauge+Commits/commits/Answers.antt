use Rattle.std.proofs.Common.{ap, ◌∙◌}
use Rattle.crossbeam_utils.specs.Seq.{cell_view}
use Rattle.r10_body.specs.declared.refusal.Glance.{Glance}
use Rattle.r10_gauge.proofs.Steps.{last_counts}
use Rattle.r10_gauge.specs.Published.{PublishingEnd, commits_of}
use Rattle.r10_gauge.proofs.gauge.Gauge+Commits.commits.Goals as goal

pub returns : goal.returns
returns c =
    ap (λ (x : Glance). x.commits) c.self.invariant.3 ∙ last_counts (cell_view c.self.inside.seat).seen c.self.invariant.2 c.self.invariant.4 ∙ ap (λ (p : PublishingEnd). commits_of p.published) c.self.view_is
