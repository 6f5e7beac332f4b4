-- Whether a file that was left open may be closed.
use Rattle.std.specs.Prelude.{◌≡◌, ℕ, ◌<◌, ◌≤◌, false, List, Some, None}
use Rattle.r10_body.specs.Faults.{IsAtFault}
use Rattle.r10_body.specs.Packets.{Packet}
use Rattle.r10_body.specs.declared.fault.FileFault.{FileFault}
use Rattle.r10_medium.specs.Disk.{Disk, Unchanged}
use Rattle.r10_file_rules.specs.Times.{last_mark}
use Rattle.r10_file_rules.specs.Tracks.{IsTracked}
use Rattle.r10_seal.specs.Sealing.{IsUnsealed, cost_of_packets}
use Rattle.r10_seal.specs.declared.fault.SealFault.{SealFault}
use Rattle.r10_seal.specs.declared.fault.SealFault.TheVariants.{BadFile, MediumFull, Medium, OutOfMemory}
use Rattle.r10_seal.specs.declared.judging.Sealable.{Sealable}

-- it may, with so many bytes of the medium, and this is kept of its packets
pub record IsSealable (bytes : List ℕ) (area : ℕ) (v : Sealable) : Type 0 where
  pub text : List ℕ
  pub packets : List Packet
  pub unsealed : IsUnsealed bytes text packets
  pub tracked : IsTracked v.tracks packets
  pub room : cost_of_packets text packets ≤ area
  pub last : last_mark None packets ≡ Some v.time

-- strict packets that cost too much
pub record CostsTooMuch (bytes : List ℕ) (area : ℕ) : Type 0 where
  pub text : List ℕ
  pub packets : List Packet
  pub unsealed : IsUnsealed bytes text packets
  pub much : area < cost_of_packets text packets

-- the file may not be closed: its bytes are at fault, or strict packets that cost too much
pub data IsUnsealable (bytes : List ℕ) (area : ℕ) : Type 0 where
  at_fault : (offset : ℕ) (fault : FileFault) → IsAtFault bytes false offset fault → IsUnsealable bytes area
  too_much : CostsTooMuch bytes area → IsUnsealable bytes area

-- what a fault says of the file's bytes
abbrev pub IsSealFault : List ℕ → ℕ → SealFault → Type 0
IsSealFault bytes area (BadFile at) = IsAtFault bytes false at.offset at.fault
IsSealFault bytes area MediumFull = CostsTooMuch bytes area
IsSealFault bytes area Medium = Unit {0}
IsSealFault bytes area OutOfMemory = Unit {0}

-- what a fault of reading says of them
abbrev pub IsReadFault : List ℕ → SealFault → Type 0
IsReadFault bytes (BadFile at) = IsAtFault bytes false at.offset at.fault
IsReadFault bytes MediumFull = ⊥
IsReadFault bytes Medium = Unit {0}
IsReadFault bytes OutOfMemory = Unit {0}

-- a fault leaves the medium as it was, unless it failed
abbrev pub IsUntouched : Disk → Disk → SealFault → Type 0
IsUntouched old new (BadFile at) = Unchanged old new
IsUntouched old new MediumFull = Unchanged old new
IsUntouched old new Medium = Unit {0}
IsUntouched old new OutOfMemory = Unchanged old new
