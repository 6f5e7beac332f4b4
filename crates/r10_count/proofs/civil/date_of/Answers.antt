use Rattle.std.proofs.Common.{◌≡◌, pos, rules, FitsSigned, w8, w16}
use Rattle.std.proofs.lemmas.Int.{to_z-of_z}
use Rattle.r10_count.proofs.civil.date_of.Goals as goal

pub returns-clause-some : goal.returns-clause-some
returns-clause-some c =
    let year : c.in_ok-year.year ≡ pos c.args.parts.now.year = search rules in
    let month : c.in_ok-month.month ≡ pos c.args.parts.now.month = search rules in
    let day : c.in_ok-day.day ≡ pos c.args.parts.now.day = search rules in
    let fy : FitsSigned w16 (pos c.args.parts.now.year) = search rules in
    let fm : FitsSigned w8 (pos c.args.parts.now.month) = search rules in
    let fd : FitsSigned w8 (pos c.args.parts.now.day) = search rules in
    let succeeds = rw (year, month, day, to_z-of_z w16 _ fy, to_z-of_z w8 _ fm, to_z-of_z w8 _ fd) at c.new.ensures.succeeds in
    (λ some. succeeds.0 (search rules), λ date. let ok = succeeds.1 date in search rules)
