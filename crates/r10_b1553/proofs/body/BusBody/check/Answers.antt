use Rattle.std.proofs.Common.{rules}
use Rattle.std.proofs.lemmas.Iterator.{cases_from_all, YieldsList-from_slice}
use borrow.Author.Tests.{tests}
use Rattle.r10_b1553.specs.Bus.{FitsBus}
use Rattle.r10_b1553.proofs.Checks.{all_decides}
use Rattle.r10_b1553.proofs.body.BusBody.check.Goals as goal

pub returns-then-entries-lt16777216 : goal.returns-then-entries-lt16777216
returns-then-entries-lt16777216 c = all_decides c.args.self.now.entries c.all.result (search rules) (search rules)
    (cases_from_all _ _ _ FitsBus (λ e. FitsBus e → ⊥) c.all.ensures.ran (YieldsList-from_slice c.args.self.now.entries cc) (λ x q k. search (rules, tests)) (λ x q k. search (rules, tests)))
