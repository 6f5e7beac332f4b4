use Rattle.std.proofs.Common.{◌≡◌, ◌≤◌, drop, take}
use Rattle.r10_sector.specs.Held.{put_sectors}
use Rattle.r10_sector.specs.Plate.{Stays}
use Rattle.r10_doublewrite.proofs.read.read_sector.Given as goal

-- so many blocks were read, and nothing changed
abbrev pub invariant-loop-j : goal.invariant-loop-j
invariant-loop-j g l =
    let per = g.D.SectorDevice.per in let old = g.D.SectorDevice.plate l.initial.device in let now = g.D.SectorDevice.plate l.device in
    (l.per ≡ per) × Stays old now × (now.trusted ≡ old.trusted) × (old.failures ≤ now.failures)
    × (l.sector.items ≡ take l.j (drop l.first (put_sectors per l.firsts l.blocks old.now.image)))
