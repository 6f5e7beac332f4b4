-- The bytes of a file on a medium.
use Rattle.std.specs.Prelude.{ℕ, List}
use Rattle.r10_blockout.specs.Blocks.{bytes_from}
use Rattle.r10_medium.specs.Disk.{Image}
use Rattle.r10_judge.specs.declared.extent.Extent.{Extent}

-- so many bytes from the file's first block on
abbrev pub file_at : Image → Extent → List ℕ
file_at image e = bytes_from image e.first e.size
