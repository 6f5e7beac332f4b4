-- What is known of the bytes of a file that were given so far.
use Rattle.std.specs.Prelude.{◌≡◌, ℕ, ◌≤◌, ◌⊎◌, true, List, [], ◌++◌, length, take, Option, Some, None}
use Rattle.r10_body.specs.Faults.{HasFault, IsFaulty}
use Rattle.r10_body.specs.declared.fault.FileFault.TheVariants.{Truncated}
use Rattle.r10_packet_rules.specs.declared.file.FirstFault.{FirstFault}
use Rattle.r10_judge.specs.Walks.{TracksWalked}
use Rattle.r10_judge.specs.declared.walk.Walk.{Walk}
use Rattle.r10_windowcheck.specs.declared.check.WindowCheck.{WindowCheck}
use Rattle.r10_windowcheck.specs.declared.walk.FirstTaken.{FirstTaken}
use Rattle.r10_windowcheck.specs.declared.walk.FirstTaken.TheVariants.{Packet, Fault}

-- ---- one packet

-- the packet that stands first in bytes is taken after those before it, or none of any recorder's stands there whole and
-- nothing is taken
abbrev pub TakesWindow : Walk → Walk → List ℕ → FirstTaken → Type 0
TakesWindow old new bytes (Packet n) = (24 ≤ n) × (n ≤ length bytes)
    × ((before : List ℕ) → TracksWalked old before → TracksWalked new (before ++ take n bytes))
TakesWindow old new bytes (Fault fault) = HasFault bytes fault × (new ≡ old)

-- ---- what was given

-- these bytes are packets of any recorder, which were taken, and then no more than the beginning of one
pub record AreTakenOver (walk : Walk) (bytes rest : List ℕ) : Type 0 where
  pub before : List ℕ
  pub bytes_are : bytes ≡ before ++ rest
  pub walked : TracksWalked walk before
  pub closed : walk.judge.closed ≡ true
  pub beginning : (rest ≡ []) ⊎ HasFault rest Truncated

-- a file that begins with these bytes is at fault first at this place, whatever its other bytes are
abbrev pub StaysFaulty : List ℕ → FirstFault → Type 0
StaysFaulty bytes at = (later : List ℕ) → IsFaulty (bytes ++ later) at.offset at.fault

abbrev pub Stands : Option FirstFault → Walk → List ℕ → List ℕ → Type 0
Stands None walk bytes rest = AreTakenOver walk bytes rest
Stands (Some at) walk bytes rest = StaysFaulty bytes at × (rest ≡ [])

-- these bytes were given so far, one after the other
abbrev pub WasGivenAll : WindowCheck → List ℕ → Type 0
WasGivenAll c bytes = Stands c.broken c.walk bytes c.pending.items
