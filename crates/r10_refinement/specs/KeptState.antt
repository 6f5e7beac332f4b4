-- What a recorder keeps beside its lanes and its medium: its settings, its clock, and what it does.
use Rattle.std.specs.Prelude.{ℕ, List, Option}
use Rattle.r10_dirchain.specs.declared.chain.ChainBlock.{ChainBlock}
pub use Rattle.r10_volume.specs.Holding.{OpenState}
use Rattle.r10_machine.specs.Config.{Config}
use Rattle.r10_machine.specs.Machine.{Tick}
use Rattle.r10_machine.specs.declared.mode.Mode.{Mode}
use Rattle.r10_machine.specs.declared.mode.Mode.TheVariants as modes

-- what it does, with the directory that it has in use, and the file that it writes
pub data Work : Type 0 where
  unmounted : Work
  idle : List ChainBlock → Work
  recording : List ChainBlock → OpenState → Work
  failed : Work

abbrev pub mode_of : Work → Mode
mode_of unmounted = modes.Unmounted
mode_of (idle chain) = modes.Idle
mode_of (recording chain file) = modes.Recording
mode_of failed = modes.Failed

pub record Kept : Type 0 where
  pub config : Config
  pub work : Work
  pub tick : Option Tick
  pub last_event : Option ℕ
  pub generation : ℕ
  -- of each channel, in the settings' order: how many entries were taken in, of all files, and how many of them erases took;
  -- both up to 2^64 - 1
  pub taken : List ℕ
  pub erased : List ℕ
  -- how many files the medium listed when it was first mounted, and before that none; 0 from an erase on: those listed after
  -- them are the recorder's own
  pub found : Option ℕ
