use Rattle.std.proofs.Common.{sym, ◌∙◌}
use Rattle.r10_file_rules.proofs.OnReports.{is_reported, none_reported}
use Rattle.r10_file_rules.proofs.reports.report_in.Goals as goal

pub returns-in-Report : goal.returns-in-Report
returns-in-Report c = λ p kind. is_reported p c.in-Report.loss (sym c.in-Report.is ∙ kind)

pub returns-in_default : goal.returns-in_default
returns-in_default c = λ p kind. none_reported p c.args.kind.now kind c.in_default.not-Report
