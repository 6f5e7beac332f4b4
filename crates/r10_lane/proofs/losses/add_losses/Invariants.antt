use Rattle.std.proofs.Common.{◌≡◌, ◌+◌, take}
use Rattle.std.specs.List.{sum_by}
use Rattle.r10_body.specs.Gaps.{told_lost}
use Rattle.r10_machine.specs.Machine.{saturated}
use Rattle.r10_lane.proofs.losses.add_losses.Given as goal

-- the losses of the samples so far are added
abbrev pub invariant-loop-sample : goal.invariant-loop-sample
invariant-loop-sample l = l.lost ≡ saturated (l.before + sum_by (λ x. told_lost x.gap) (take l.sample-index l.samples))
