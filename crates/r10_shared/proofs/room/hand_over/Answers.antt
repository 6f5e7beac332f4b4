use Rattle.std.proofs.Common.{arith}
use Rattle.r10_shared.proofs.Moved.{all_written}
use Rattle.r10_shared.proofs.room.hand_over.Goals as goal

pub returns : goal.returns
returns c = all_written _ _ c.loop-place.place _ _ c.requires c.loop-place.invariant (omega (arith, c.loop-place-test.false, c.len-place-end.ensures, c.requires.number))
