-- How many messages of a lane were lost.
use Rattle.std.specs.Prelude.{ℕ, List}
use Rattle.std.specs.List.{sum_by}
use Rattle.r10_body.specs.Gaps.{told_lost}
use Rattle.r10_body.specs.declared.entry.Sample.{Sample}
use Rattle.r10_machine.specs.Machine.{Lane, saturated}
use Rattle.r10_lane.specs.declared.losses.Losses.{Losses}

-- how many the gaps of these samples report
abbrev pub lost_before : List Sample → ℕ
lost_before xs = saturated (sum_by (λ x. told_lost x.gap) xs)

-- in all, since the last message that was accepted, and before those that wait
abbrev pub losses_of : Lane → Losses
losses_of lane = record { lost = lane.lost; missed = lane.missed; waiting = lost_before lane.waiting }
