use Rattle.std.proofs.Common.{◌≡◌}
use Rattle.r10_doublewrite.proofs.Changing.{IsPlacing}
use Rattle.r10_doublewrite.proofs.place.put_in_place.Given as goal

abbrev pub invariant-loop-i : goal.invariant-loop-i
invariant-loop-i g l = (l.per ≡ g.D.SectorDevice.per) × IsPlacing l.firsts l.blocks (g.D.SectorDevice.plate l.initial.device) (g.D.SectorDevice.plate l.device) l.i l.rest
