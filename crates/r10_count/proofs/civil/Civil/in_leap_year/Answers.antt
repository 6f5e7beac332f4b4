use Rattle.std.proofs.Common.{◌∙◌, ap}
use Rattle.jiff_core.specs.Calendar.{is_leap_year}
use Rattle.r10_count.proofs.Calendar.{is_leap_year-is_leap}
use Rattle.r10_count.proofs.civil.Civil.in_leap_year.Goals as goal

pub returns : goal.returns
returns c = c.in_leap_year.ensures ∙ ap is_leap_year c.calendar_day.ensures.value.0 ∙ is_leap_year-is_leap c.args.self.now.year
