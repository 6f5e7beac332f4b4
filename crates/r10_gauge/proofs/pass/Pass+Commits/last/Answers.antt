use Rattle.std.proofs.Common.{ap, ◌∙◌}
use Rattle.crossbeam_utils.specs.Seq.{cell_view}
use Rattle.r10_body.specs.declared.refusal.Glance.{Glance}
use Rattle.r10_gauge.proofs.Steps.{last_counts}
use Rattle.r10_gauge.specs.Published.{LookingEnd, commits_of}
use Rattle.r10_gauge.proofs.pass.Pass+Commits.last.Goals as goal

pub returns-clause-commits : goal.returns-clause-commits
returns-clause-commits c =
    ap (λ (x : Glance). x.commits) c.self.invariant.0 ∙ last_counts (cell_view c.self.inside.seat).seen c.self.invariant.1 c.self.invariant.2 ∙ ap (λ (p : LookingEnd). commits_of p.seen) c.self.view_is
