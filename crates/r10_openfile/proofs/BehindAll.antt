-- A file that is written after all others, before it is listed.
use Rattle.std.proofs.Common.{◌≡◌, ℕ, List, [], ◌++◌, None, subst, arith}
use Rattle.std.proofs.lemmas.List.Elements.{All-from_get_or}
use Rattle.r10_count.specs.Checks.{first_broken}
use Rattle.r10_medium.specs.Disk.{Disk, Image, IsWhole}
use Rattle.r10_medium.specs.PowerLoss.{ComesBy, Leaves, PutsSome, SameBelow, Settled}
use Rattle.r10_medium.proofs.PowerLoss.{below_puts, weakened, whole_left}
use Rattle.r10_blockout.specs.Blocks.{first_blocks}
use Rattle.r10_blockout.specs.Output.{Puts}
use Rattle.r10_blockout.proofs.Showing.{whole_put}
use Rattle.r10_dirchain.specs.Chain.{HoldsBlock, IsDirectory, at, blank_block, listed_files}
use Rattle.r10_dirchain.specs.Mount.{mount_rules}
use Rattle.r10_dirchain.specs.declared.chain.ChainBlock.{ChainBlock}
use Rattle.r10_dirchain.proofs.Directories.{still_holds}
use Rattle.r10_dirchain.proofs.RulesAsFacts.{Stand, usable_of}
use Rattle.r10_dirchain.proofs.Unique.{one_directory}
use Rattle.r10_dirchain.proofs.Usable.{placed}
use Rattle.r10_volume.specs.Holding.{HoldsFiles}
use Rattle.r10_volume.proofs.OtherFilesStay.{found_stays}
use Rattle.r10_machine.specs.Config.{Config}
use Rattle.r10_machine.specs.Machine.{File}
use Rattle.r10_machine.specs.Room.{next_block}
use Rattle.r10_machine.proofs.Said.{closed_kept, closed_stand}
use Rattle.r10_machine.specs.Says.{MediumSays}
use Rattle.r10_openfile.specs.Begun.{IsPut}
use Rattle.r10_openfile.proofs.BackToBack.{behind, behind_all}

-- ---- the directory that is held

pub held_mounts : (s : Config) (image : Image) (chain : List ChainBlock) (files : List File) → MediumSays s image files → IsDirectory image chain → first_broken (mount_rules s.directory s.blocks chain) ≡ None
held_mounts s image chain files says there = subst (λ (c : List ChainBlock). first_broken (mount_rules s.directory s.blocks c) ≡ None) (one_directory image says.chain chain says.directory there) says.mounts

pub stand_from : (s : Config) (chain : List ChainBlock) → first_broken (mount_rules s.directory s.blocks chain) ≡ None → Stand s.blocks (behind s None) (listed_files chain)
stand_from s chain mounts = subst (λ (k : ℕ). Stand s.blocks k (listed_files chain)) (omega arith) (usable_of s.directory s.blocks chain mounts).stand

-- its blocks are below the next file
directory_below : (s : Config) (old new : Image) (chain : List ChainBlock) (files : List File) → MediumSays s old files → IsDirectory old chain → SameBelow (next_block s files) 0 old new → IsDirectory new chain
directory_below s old new chain files says there below =
    let next = behind_all s old s.blocks None (listed_files says.chain) files (stand_from s says.chain says.mounts) says.each in
    let places = (usable_of s.directory s.blocks chain (held_mounts s old chain files says there)).placed in
    record {
      linked = there.linked;
      holds = All-from_get_or (HoldsBlock new) chain blank_block (λ i lt.
          let place = placed s.directory 1 chain places i lt in
          still_holds old new (at chain i) (there.holds i blank_block lt) below.size (below.blocks (at chain i).number (omega (arith, place.0, place.1, next))));
    }

-- ---- blocks after all files

module _ (s : Config) (files : List File) (bytes : List ℕ) (old new : Image) (whole : IsWhole old) (put : IsPut (next_block s files) bytes old new) where
  below : SameBelow (next_block s files) 0 old new
  below = below_puts (next_block s files) (first_blocks (bytes ++ put.more) put.count) old new put.puts

  pub behind_says : MediumSays s old files → MediumSays s new files
  behind_says says = closed_stand s old new files whole (whole_put (bytes ++ put.more) (next_block s files) put.count old new whole put.puts) says 0 below

  pub behind_holds : (chain : List ChainBlock) → HoldsFiles s old chain None files → HoldsFiles s new chain None files
  behind_holds chain held = record {
    says = behind_says held.says;
    directory = directory_below s old new chain files held.says held.directory below;
    found = found_stays old new files (closed_kept s old new files whole held.says 0 below) held.found;
    last = tt;
  }

-- at every moment
pub behind_moments : (s : Config) (files : List File) (bytes : List ℕ) (n : ℕ) (old new : Disk) → Puts (next_block s files) (first_blocks (bytes ++ []) n) old new → Settled (λ image. MediumSays s image files) old → Leaves (λ image. MediumSays s image files) old new
behind_moments s files bytes n old new put settled =
    weakened (ComesBy (PutsSome (next_block s files) (first_blocks (bytes ++ []) n)) old) (λ image. MediumSays s image files) old new
    (λ image from. behind_says s files bytes from.0 image (whole_left old from.0 from.1) (record { more = []; count = n; puts = from.2 }) (settled from.0 from.1))
    put.moments
