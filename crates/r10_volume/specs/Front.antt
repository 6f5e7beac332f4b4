-- The blocks of files in front of another.
use Rattle.std.specs.Prelude.{◌≡◌, ℕ, ◌<◌, length}
use Rattle.r10_medium.specs.Disk.{Image, block_at}

-- as long, and block 0, and the blocks after the reserved ones and below this one, are as they were
pub record KeepsFront (reserved first : ℕ) (old new : Image) : Type 0 where
  pub size : length new ≡ length old
  pub zeroth : 0 < first → block_at new 0 ≡ block_at old 0
  pub blocks : (k : ℕ) → reserved < k → k < first → block_at new k ≡ block_at old k
