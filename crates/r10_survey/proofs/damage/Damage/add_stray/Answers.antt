use Rattle.std.proofs.Common.{refl}
use Rattle.r10_survey.proofs.Stretches.{stray_more}
use Rattle.r10_survey.proofs.damage.Damage.add_stray.Goals as goal

pub returns : goal.returns
returns c = λ at parts byte small is. stray_more c.args.self.now _ at parts byte small refl refl c.saturating_add-self.ensures is
