-- Which medium it is, whatever it holds.
use Rattle.r10_medium.specs.Disk.{Image}
use Rattle.r10_region.specs.Links.{RingName}

-- the rings through which it asks its disk, and what the memory held that was lent to it
pub record Identity : Type 0 where
  pub links : RingName
  pub first : RingName
  pub lent : Image
