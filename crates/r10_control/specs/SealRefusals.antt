-- What a seal makes of a last file, and why it isn't closed.
use Rattle.std.specs.Prelude.{ℕ, ◌-◌, ◌*◌, false, List, length, None, IsSomeAnd}
use Rattle.std.specs.List.{last_or}
use Rattle.r10_blockout.specs.Blocks.{bytes_from}
use Rattle.r10_body.specs.Faults.{IsAtFault}
use Rattle.r10_body.specs.declared.refusal.Refusal.{Refusal}
use Rattle.r10_body.specs.declared.refusal.Refusal.TheVariants.{BadFile, MediumFull}
use Rattle.r10_dirchain.specs.Chain.{listed_files}
use Rattle.r10_machine.specs.Config.{Config}
use Rattle.r10_refinement.specs.KeptState.{Kept, Work, idle}
use Rattle.r10_medium.specs.Disk.{Disk, Image}
use Rattle.r10_seal.specs.Judging.{CostsTooMuch}
use Rattle.r10_seal.specs.Sealing.{SealsFile}
use Rattle.r10_control.specs.Checks.{files_of}

-- the bytes of a file aren't strict, first at this fault, or cost more than there is of the medium
abbrev pub IsLastAtFault : List ℕ → ℕ → Refusal → Type 0
IsLastAtFault bytes area (BadFile offset fault) = IsAtFault bytes false offset fault
IsLastAtFault bytes area MediumFull = CostsTooMuch bytes area
IsLastAtFault bytes area r = ⊥

-- a seal is refused because of what the medium shows of the last file
abbrev pub IsSealRefusal : Kept → Disk → Refusal → Type 0
IsSealRefusal k disk r =
    IsSomeAnd (last_or None (files_of k.work)) (λ e. IsLastAtFault (bytes_from disk.blocks e.first_block e.size)
    (512 * (length disk.blocks - e.first_block)) r)

-- the last file of the directory in use is closed with its index, which has room
abbrev pub IsSealed : Config → Image → Work → Image → Work → Type 0
IsSealed s old (idle chain) new (idle made) = IsSomeAnd (last_or None (listed_files chain))
    (λ e. SealsFile old chain e s.nodes (512 * (length old - e.first_block)) new made)
IsSealed s old work new later = ⊥
