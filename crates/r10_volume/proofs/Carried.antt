-- The file that is written, as it is whatever files the medium has.
use Rattle.std.proofs.Common.{ℕ, take, sym, subst, arith}
use Rattle.r10_blockout.specs.Blocks.{Shows}
use Rattle.r10_body.specs.Packets.{file_bytes}
use Rattle.r10_volume.specs.Holding.{IsCarried, IsWritten, OpenState}
use Rattle.r10_machine.specs.Config.{Config}
use Rattle.r10_machine.specs.Machine.{File}
use Rattle.r10_medium.specs.Disk.{Image}

abbrev pub carried_of : (s : Config) (image : Image) (o : OpenState) (f : File) → IsWritten s image o f → IsCarried image o f.setup f.entries
carried_of s image o f w = record {
  carries = w.carries;
  within = omega (arith, w.shown, w.cut.within);
  stands = subst (λ (n : ℕ). Shows image n (file_bytes (take o.shown w.carries.packets))) (sym w.first) w.stands;
}
