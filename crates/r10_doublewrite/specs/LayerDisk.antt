-- The disk that a layer shows.
use Rattle.std.specs.Prelude.{◌≡◌, ◌⊎◌, ◌-◌, ◌^◌, true}
use Rattle.r10_medium.specs.Disk.{Disk}
use Rattle.r10_sector.specs.declared.device.SectorDevice.{Ghosts}
use Rattle.r10_doublewrite.specs.Layer.{layer_over}
use Rattle.r10_doublewrite.specs.declared.layer.DoubleWrite.{DoubleWrite}

abbrev pub layer_disk : {D : Type 0} {G : Ghosts D} → DoubleWrite D G → Disk
layer_disk {G = G} d = layer_over (G.plate d.device) d.firsts.items d.blocks.items d.sectors d.refused

abbrev pub device_in : {D : Type 0} {G : Ghosts D} → DoubleWrite D G → D
device_in d = d.device

-- No batch is written any more: a write or a sync failed, or the newest slot has the last number.
abbrev pub IsLayerClosed : {D : Type 0} {G : Ghosts D} → DoubleWrite D G → Type 0
IsLayerClosed d = (d.failed ≡ true) ⊎ (d.number ≡ 2 ^ 64 - 1)
