use Rattle.std.proofs.Common.{◌≡◌, take}
use Rattle.r10_control.specs.RecorderStatus.{channels_in}
use Rattle.r10_control.proofs.status.channels_in.Given as goal

abbrev pub invariant-loop-place : goal.invariant-loop-place
invariant-loop-place l = l.channels.items ≡ channels_in l.mode (take l.place l.lanes) (take l.place l.erased)
