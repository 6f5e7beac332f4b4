use Rattle.std.proofs.Common.{◌≡◌, ◌∙◌, sym, ap, arith, eq-eqb}
use Rattle.std.proofs.lemmas.Bool.Decides.{nat_tests}
use Rattle.r10_count.specs.Civil.{centis}
use Rattle.r10_count.proofs.Moments.{centis_injective}
use Rattle.r10_count.proofs.civil.CivilPartialEq.eq.Goals as goal

pub returns-clause-same : goal.returns-clause-same
returns-clause-same c = (
  λ test.
      let same : c.centis.result ≡ c.centis-2.result = grind (arith, nat_tests) in
      centis_injective c.args.self.now c.args.other.now c.centis.ensures.civil c.centis-2.ensures.civil (sym c.centis.ensures.value ∙ same ∙ c.centis-2.ensures.value),
  λ same. eq-eqb c.centis.result c.centis-2.result (c.centis.ensures.value ∙ ap centis same ∙ sym c.centis-2.ensures.value),
)
