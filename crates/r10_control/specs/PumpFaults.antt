-- Why a pump moved nothing, or could not go on.
use Rattle.r10_mux.specs.declared.fault.Full.{Full as Shortage}

pub data PumpFault : Type 0 where
  -- the first sample has no room
  Full : Shortage → PumpFault
  -- memory was refused
  Memory : PumpFault
  -- the medium failed
  Medium : PumpFault
