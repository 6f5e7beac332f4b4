-- What a medium in memory reads and leaves.
use Rattle.r10_medium.specs.Disk.{Disk, Image}
use Rattle.r10_medium.specs.Memory.{disk_of, with_zeros, whole_zeros, zeros_fit}
use Rattle.r10_medium.specs.declared.memory.Memory.{Memory}

-- the blocks up to the highest one that was written
abbrev pub blocks_made : Memory → Image
blocks_made m = m.front.items

abbrev pub memory_blocks : Memory → Image
memory_blocks m = with_zeros m.size (blocks_made m)

abbrev pub memory_disk : Memory → Disk
memory_disk m = disk_of (memory_blocks m) (whole_zeros m.size m.front.items m.whole) (zeros_fit m.front m.size m.within m.room)
