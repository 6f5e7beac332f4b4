-- What a medium says of its files.
use Rattle.std.proofs.Common.{◌≡◌, ℕ, ◌*◌, ◌≤◌, List, [], ◌∷◌, length, None, refl, arith}
use Rattle.std.specs.List.{All, AllByRecursion}
use Rattle.std.proofs.lemmas.List.{length-append}
use Rattle.std.proofs.lemmas.List.Elements.{All-tail}
use Rattle.r10_count.specs.Checks.{first_broken}
use Rattle.r10_medium.specs.Disk.{Image}
use Rattle.r10_dirblock.specs.declared.entry.Entry.{Entry as DirectoryEntry}
use Rattle.r10_dirchain.specs.declared.chain.ChainBlock.{ChainBlock}
use Rattle.r10_dirchain.specs.Chain.{HoldsBlock, blank_block, listed_files}
use Rattle.r10_dirchain.specs.Mount.{place_rules}
use Rattle.r10_dirchain.proofs.Usable.{placed, place_rules_hold}
use Rattle.r10_machine.specs.Config.{Config}
use Rattle.r10_machine.specs.Machine.{File}
use Rattle.r10_machine.specs.EventChecks.{most_files}
use Rattle.r10_machine.specs.Says.{SaysEach, AreFound, MediumHas}
use Rattle.r10_machine.specs.Sound.{IsFoundFile}

-- a block lists at most four files
four_each : (image : Image) (chain : List ChainBlock) → All (HoldsBlock image) chain → length (listed_files chain) ≤ 4 * length chain
four_each image [] holds = omega arith
four_each image (b ∷ chain) holds =
    let here : HoldsBlock image b = holds 0 blank_block (omega arith) in
    omega (arith, here.is.head.entries, four_each image chain (All-tail (HoldsBlock image) b chain holds), length-append b.block.entries (listed_files chain))

-- and stands among the reserved ones
few_blocks : (reserved : ℕ) (chain : List ChainBlock) → first_broken (place_rules reserved 1 chain) ≡ None → length chain ≤ reserved
few_blocks reserved [] places = omega arith
few_blocks reserved (b ∷ chain) places = let last = placed reserved 1 (b ∷ chain) places (length chain) (omega arith) in omega (arith, last.1)

same_long : (image : Image) (entries : List DirectoryEntry) (files : List File) → SaysEach image entries files → length files ≡ length entries
same_long image [] [] says = refl
same_long image (e ∷ entries) (f ∷ files) (lists, said, rest) = omega (arith, same_long image entries files rest)
same_long image entries files says = absurd says

each_found : (image : Image) (files : List File) → AreFound image files → AllByRecursion IsFoundFile files
each_found image [] found = tt
each_found image (f ∷ files) (here, found) = ((here.shown, here.own), each_found image files found)

pub files_found : (s : Config) (image : Image) (files : List File) → MediumHas s image files → AllByRecursion IsFoundFile files × (length files ≤ most_files s)
files_found s image files (says, found) =
    let chain = says.chain in
    let few = few_blocks s.directory chain (place_rules_hold s.directory s.blocks chain says.mounts) in
    (each_found image files found, omega (arith, same_long image (listed_files chain) files says.each, four_each image chain says.directory.holds, few))
