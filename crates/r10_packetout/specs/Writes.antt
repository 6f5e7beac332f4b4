-- What a call that writes leaves of any medium.
use Rattle.std.specs.Prelude.{◌≡◌, length, Result}
use Rattle.r10_medium.specs.Disk.{Disk, Counts}

-- the medium has as many blocks as before, and an error has a failure of it as its cause
pub record WritesCounted {T E : Type 0} (old new : Disk) (result : Result T E) : Type 0 where
  pub blocks : length new.blocks ≡ length old.blocks
  pub counts : Counts old new result
