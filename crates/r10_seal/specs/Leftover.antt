-- A last file that was left open, among the files that a recorder holds, and what a seal makes of it.
use Rattle.std.specs.Prelude.{◌≡◌, ◌⊎◌, ℕ, ◌<◌, ◌≤◌, ◌++◌, false, List, [], ◌∷◌, None, Result, IfErr, OnOk}
use Rattle.r10_blockout.specs.Blocks.{bytes_from}
use Rattle.r10_body.specs.Cost.{file_cost}
use Rattle.r10_body.specs.Packets.{Packet}
use Rattle.r10_dirchain.specs.declared.chain.ChainBlock.{ChainBlock}
use Rattle.r10_volume.specs.Holding.{HoldsFiles}
use Rattle.r10_machine.specs.Config.{Config}
use Rattle.r10_machine.specs.Machine.{File, shown_entries}
use Rattle.r10_machine.specs.Room.{area}
use Rattle.r10_medium.specs.Disk.{Disk, Image}
use Rattle.r10_medium.specs.PowerLoss.{Leaves}
use Rattle.r10_machine.specs.Bytes.{KeepBytes}
use Rattle.r10_machine.specs.Says.{MediumSays}
use Rattle.r10_volume.specs.Settling.{IsSettled}
use Rattle.r10_seal.specs.Sealing.{IsUnsealed, sealed}
use Rattle.r10_seal.specs.declared.fault.SealFault.{SealFault}
use Rattle.r10_seal.specs.declared.fault.SealFault.TheVariants.{BadFile, MediumFull, Medium, OutOfMemory}

-- a recorder with so many nodes holds these files, of which the last was left open
pub record IsLeftOpen (s : Config) (image : Image) (chain : List ChainBlock) (nodes : ℕ) (files : List File)
    (f : File) : Type 0 where
  pub held : HoldsFiles s image chain None (files ++ f ∷ [])
  pub unclosed : f.closed ≡ false
  pub nodes_are : nodes ≡ s.nodes

-- what the file costs with the entries that it shows
abbrev pub shown_cost : File → ℕ
shown_cost f = file_cost f.setup (shown_entries f)

-- what a fault says of the file: its bytes are strict, so that they are not at fault
abbrev pub IsLeftFault : Config → File → SealFault → Type 0
IsLeftFault s f (BadFile at) = ⊥
IsLeftFault s f MediumFull = area s f < shown_cost f
IsLeftFault s f Medium = Unit {0}
IsLeftFault s f OutOfMemory = Unit {0}

-- the files with the last of them left open, or closed with the index of these packets, in groups of so many nodes
abbrev pub IsOpenOrClosed : ℕ → Config → List File → File → List Packet → Image → Type 0
IsOpenOrClosed nodes s files f packets image = MediumSays s image (files ++ f ∷ [])
    ⊎ MediumSays s image (files ++ sealed nodes packets f ∷ [])

-- Nothing is closed: the medium says the file as it was left, and where a power loss left that before, it leaves it at every
-- moment.
pub record StaysOpen (s : Config) (files : List File) (f : File) (old new : Disk) : Type 0 where
  pub says : MediumSays s new.blocks (files ++ f ∷ [])
  pub left : IsSettled s (files ++ f ∷ []) old → Leaves (λ image. MediumSays s image (files ++ f ∷ [])) old new

-- The medium has these packets of the file, which with their index are no fewer bytes. After an Ok the file is held closed
-- with their index, and a power loss leaves it so; else, and at every moment, the medium says the file as it was left, or so. All
-- files keep the bytes that they showed.
pub record SealsLast {T E : Type 0} (nodes : ℕ) (s : Config) (files : List File) (f : File) (old new : Disk)
    (made : List ChainBlock) (result : Result T E) : Type 0 where
  pub packets : List Packet
  pub unsealed : IsUnsealed (bytes_from old.blocks f.first_block f.size) f.setup packets
  pub grows : f.size ≤ (sealed nodes packets f).size
  pub holds : OnOk result (HoldsFiles s new.blocks made None (files ++ sealed nodes packets f ∷ []))
  pub bytes : KeepBytes old.blocks new.blocks (files ++ f ∷ [])
  pub reads : IsOpenOrClosed nodes s files f packets new.blocks
  pub moments : IsSettled s (files ++ f ∷ []) old → Leaves (IsOpenOrClosed nodes s files f packets) old new
  pub settled : OnOk result (IsSettled s (files ++ sealed nodes packets f ∷ []) new)

-- Of files that a recorder with so many nodes holds, the last of them left open, that one is closed with the entries that it
-- shows. Where it may be closed, and after an Ok, it has room. A fault says why it wasn't.
pub record SealsHeld {T : Type 0} (nodes : ℕ) (chain made : List ChainBlock) (old new : Disk)
    (result : Result T SealFault) : Type 0 where
  pub sealed : (s : Config) (files : List File) (f : File) → IsLeftOpen s old.blocks chain nodes files f
      → SealsLast nodes s files f old new made result
  pub room : (s : Config) (files : List File) (f : File) → IsLeftOpen s old.blocks chain nodes files f
      → OnOk result (shown_cost f ≤ area s f)
  pub costs : (s : Config) (files : List File) (f : File) → IsLeftOpen s old.blocks chain nodes files f
      → StaysOpen s files f old new ⊎ (shown_cost f ≤ area s f)
  pub left : (s : Config) (files : List File) (f : File) → IsLeftOpen s old.blocks chain nodes files f
      → IfErr result (IsLeftFault s f)
