use Rattle.std.proofs.Common.{◌∷◌, [], ◌++◌, arith}
use Rattle.std.proofs.lemmas.List.{length-append}
use Rattle.r10_file_rules.proofs.times.TimeTracks.add.Goals as goal
use Rattle.r10_body.proofs.Lengths.{packets_few}

pub returns : goal.returns
returns c = λ packets p times tells short. record {
  packets_are = omega (arith, c.saturating_add.ensures, times.packets_are, length-append packets (p ∷ []), packets_few (packets ++ p ∷ []), short);
  first = c.first_with.ensures packets p times tells;
  last = c.last_with.ensures packets p times.last tells;
}
