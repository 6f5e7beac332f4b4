-- The two slots.
use Rattle.r10_sector.specs.declared.side.Side.{Side}
use Rattle.r10_sector.specs.declared.side.Side.TheVariants.{One, Two}

abbrev pub opposite : Side → Side
opposite One = Two
opposite Two = One
