use Rattle.std.proofs.Common.{◌-◌, ℕ, sym, ap, ◌∙◌}
use Rattle.r10_control.proofs.Statuses.{left_held, none_held}
use Rattle.r10_control.proofs.status.left_in.Goals as goal

pub returns-in-Some-clause-held : goal.returns-in-Some-clause-held
returns-in-Some-clause-held c = λ image files f holds.
    c.saturating_sub.ensures
    ∙ ap (λ (n : ℕ). n - c.cost.result) c.area_from.ensures
    ∙ left_held c.args.settings.now image c.args.directory.now c.args.file.now files f holds c.cost.result c.in-Some.entry (sym c.last_file.ensures ∙ c.in-Some.is)
    (c.cost.ensures.held c.args.settings.now image c.args.directory.now files f holds)

pub returns-in-None-clause-held : goal.returns-in-None-clause-held
returns-in-None-clause-held c = λ image files f holds.
    absurd (none_held c.args.settings.now image c.args.directory.now c.args.file.now files f holds (sym c.last_file.ensures ∙ c.in-None.is))
