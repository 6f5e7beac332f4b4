use Rattle.std.proofs.Common.{refl, arith}
use Rattle.r10_survey.proofs.Taking.{stray_on}
use Rattle.r10_survey.proofs.track.Track.take_stray.Goals as goal

pub returns-clause-taken : goal.returns-clause-taken
returns-clause-taken c = λ bytes rest last fault so_far some h short.
    stray_on c.args.self.now _ bytes rest last fault refl refl (λ parts b is. c.add_stray.ensures c.args.self.now.offset parts b (omega (arith, c.requires)) is) so_far some h short
