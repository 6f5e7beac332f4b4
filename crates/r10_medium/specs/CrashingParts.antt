-- What a medium that is stopped after some calls is made of, and what each choice of a power loss gives.
use Rattle.std.specs.Prelude.{◌≡◌, ℕ, ◌+◌, ◌<◌, Result, IsOk, IsErr}
use Rattle.r10_medium.specs.Disk.{Disk, Image}
use Rattle.r10_medium.specs.Crashing.{crashing, with_block_of}
use Rattle.r10_medium.specs.declared.crashing.Crashing.{Crashing}
use Rattle.r10_medium.specs.declared.crashing.Choice.{Choice}
use Rattle.r10_medium.specs.declared.crashing.Choice.TheVariants.{Synced, Read, LowestSynced, LowestRead}

abbrev pub crashing_disk : Crashing → Disk
crashing_disk c = crashing c.reads c.synced.items c.whole c.whole_synced c.same c.failures

-- what was read after the last sync that succeeded
abbrev pub synced_blocks : Crashing → Image
synced_blocks c = c.synced.items

-- the calls before the power loss
abbrev pub calls_left : Crashing → ℕ
calls_left c = c.left

-- the lowest block that was written since that sync, or a number past the blocks
abbrev pub lowest_written : Crashing → ℕ
lowest_written c = c.lowest

-- the blocks are the same, and what a power loss leaves of them
pub record IsSameButCalls (old new : Crashing) : Type 0 where
  pub reads : new.reads ≡ old.reads
  pub synced : new.synced ≡ old.synced
  pub lowest : new.lowest ≡ old.lowest

-- A call: one of those that are left goes well, and where none is left it fails without effect.
pub record CallsCrashing {T E : Type 0} (old new : Crashing) (result : Result T E) : Type 0 where
  pub taken : 0 < calls_left old → IsOk result × (calls_left new + 1 ≡ calls_left old)
  pub stopped : calls_left old ≡ 0 → IsErr result × (calls_left new ≡ 0) × IsSameButCalls old new

-- what a power loss now leaves by each choice
abbrev pub left_by : Choice → Crashing → Image
left_by Synced c = synced_blocks c
left_by Read c = (crashing_disk c).blocks
left_by LowestSynced c = with_block_of (crashing_disk c).blocks (synced_blocks c) (lowest_written c)
left_by LowestRead c = with_block_of (synced_blocks c) (crashing_disk c).blocks (lowest_written c)
