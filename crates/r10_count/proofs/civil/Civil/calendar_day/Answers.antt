use Rattle.r10_count.proofs.Calendar.{IsDate-is_date, IsCivil-is_date}
use Rattle.r10_count.proofs.civil.Civil.calendar_day.Goals as goal

pub unwrap-requires : goal.unwrap-requires
unwrap-requires c =
    c.date_of.ensures.some.1 (IsDate-is_date c.self.inside.parts (IsCivil-is_date c.self.inside.parts c.self.invariant))
