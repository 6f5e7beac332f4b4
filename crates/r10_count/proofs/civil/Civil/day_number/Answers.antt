use Rattle.std.proofs.Common.{◌≡◌, pos, ap, unsigned_abs}
use Rattle.r10_count.proofs.Calendar.{IsCivil-is_date, number_of_hours, number_of_hours-day_number, day_number-fits}
use Rattle.r10_count.specs.Civil.{day_number}
use Rattle.r10_count.proofs.civil.Civil.day_number.Goals as goal

-- the number that is computed is the day's
computed : (c : goal.After-as_hours) → number_of_hours c.as_hours.result ≡ pos (day_number c.args.self.now)
computed c =
    number_of_hours-day_number c.args.self.now c.as_hours.result _ c.date.result c.calendar_day-day.result (IsCivil-is_date c.args.self.now c.calendar_day-day.ensures.civil) c.date.ensures c.calendar_day-day.ensures.value c.duration_until-since.ensures c.as_hours.ensures

pub overflow_cast-result : goal.overflow_cast-result
overflow_cast-result c = rw (computed c) (tt, day_number-fits c.args.self.now (IsCivil-is_date c.args.self.now c.calendar_day-day.ensures.civil))

pub returns : goal.returns
returns c = ap unsigned_abs (computed c)
