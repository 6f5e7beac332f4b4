use Rattle.std.proofs.Common.{refl}
use Rattle.r10_medium.proofs.PowerLoss.{unchanged_twice}
use Rattle.r10_doublewrite.specs.LayerDisk.{layer_disk}
use Rattle.r10_doublewrite.proofs.Shown.{stays_itself, unchanged_stays}
use Rattle.r10_doublewrite.proofs.layer.DoubleWrite.place.Goals as goal

pub returns-clause-same : goal.returns-clause-same
returns-clause-same g c =
    let s = c.args.self.now in let a = g.D.SectorDevice.plate s.device in
    unchanged_twice (layer_disk s) _ (layer_disk c.load.new.self)
    (unchanged_stays a a s.firsts.items s.firsts.items s.blocks.items s.blocks.items s.sectors _ s.refused s.refused (stays_itself a) refl)
    (unchanged_twice _ (layer_disk c.make_room.new.self) (layer_disk c.load.new.self) c.make_room.ensures.same c.load.ensures.same)
