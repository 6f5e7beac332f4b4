use Rattle.std.proofs.Common.{◌≡◌, take}
use Rattle.r10_body.proofs.same.are_same.Given as goal

-- the entries so far are the same
abbrev pub invariant-loop-place : goal.invariant-loop-place
invariant-loop-place l = take l.place l.some ≡ take l.place l.others
