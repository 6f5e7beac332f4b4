use Rattle.std.proofs.Common.{◌≡◌, map, take}
use Rattle.r10_calls.specs.Accounts.{not_yet}
use Rattle.r10_calls.proofs.accounts.none_accepted.Given as goal

abbrev pub invariant-loop-spec : goal.invariant-loop-spec
invariant-loop-spec l = l.accepted.items ≡ map not_yet (take l.spec-index l.channels)
