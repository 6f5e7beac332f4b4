-- What was read from a slot.
use Rattle.std.specs.Prelude.{Option, None, Some}
use Rattle.r10_sector.specs.Held.{Slot}
use Rattle.r10_sector.specs.declared.stored.Stored.{Stored as StoredValue}

abbrev pub slot_in : Option StoredValue → Option Slot
slot_in None = None
slot_in (Some s) = Some (record { number = s.number; firsts = s.firsts.items; blocks = s.blocks.items })
