-- What the entries of a directory tell of the files that they list.
use Rattle.std.proofs.Common.{◌≡◌, ℕ, ◌+◌, ◌/◌, ◌<◌, ◌≤◌, Bool, true, false, ◌&&◌, ◌-◌, List, [], ◌∷◌, length, map, Option, Some, None, refl, subst, arith}
use Rattle.std.specs.Prelude.{nat_lt, nat_le, ◌==◌}
use Rattle.std.specs.List.{last_or}
use Rattle.std.proofs.lemmas.Bool.{eqb-true, leb-true, ltb-true}
use Rattle.r10_medium.specs.Disk.{Image}
use Rattle.r10_dirblock.specs.Block.{is_closed}
use Rattle.r10_dirblock.specs.declared.entry.Entry.{Entry}
use Rattle.r10_dirchain.specs.declared.chain.ChainBlock.{ChainBlock}
use Rattle.r10_dirchain.specs.Chain.{listed_files}
use Rattle.r10_dirchain.specs.Mount.{stands}
use Rattle.r10_dirchain.proofs.RulesAsFacts.{Stand, usable_of}
use Rattle.r10_dirchain.proofs.Unique.{one_directory}
use Rattle.r10_volume.specs.Holding.{HoldsFiles, OpenState}
use Rattle.r10_machine.specs.Checks.{is_sealed, is_taken}
use Rattle.r10_machine.specs.Config.{Config}
use Rattle.r10_machine.specs.Machine.{File}
use Rattle.r10_machine.specs.Room.{blocks_of, next_block}
use Rattle.r10_machine.specs.Finding.{info_of}
use Rattle.r10_machine.specs.Says.{Lists, SaysEach}
use Rattle.r10_volume.specs.Listing.{block_behind, has_name, info_in, is_last_closed}
pub use Rattle.r10_dirchain.proofs.FileLists.{last-append}

-- ---- what a directory lists that holds files

pub record IsListed (s : Config) (image : Image) (entries : List Entry) (files : List File) : Type 0 where
  pub each : SaysEach image entries files
  pub stand : Stand s.blocks (s.directory + 1) entries
  pub blocks : length image ≡ s.blocks

pub held_lists : (s : Config) (image : Image) (chain : List ChainBlock) (written : Option OpenState) (files : List File) → HoldsFiles s image chain written files → IsListed s image (listed_files chain) files
held_lists s image chain written files holds =
    let says = holds.says in
    let same : says.chain ≡ chain = one_directory image says.chain chain says.directory holds.directory in
    record {
      each = subst (λ (l : List ChainBlock). SaysEach image (listed_files l) files) same says.each;
      stand = subst (λ (l : List ChainBlock). Stand s.blocks (s.directory + 1) (listed_files l)) same (usable_of s.directory s.blocks says.chain says.mounts).stand;
      blocks = says.blocks;
    }

-- ---- listings

same_info : (f : File) (e : Entry) → Lists f e → info_in e ≡ info_of f
same_info f e lists = rw (lists.name, lists.size, lists.block_count, lists.closed) refl

pub same_infos : (image : Image) (entries : List Entry) (files : List File) → SaysEach image entries files → map info_in entries ≡ map info_of files
same_infos image [] [] each = refl
same_infos image [] (f ∷ files) each = absurd each
same_infos image (e ∷ entries) [] each = absurd each
same_infos image (e ∷ entries) (f ∷ files) each = rw (same_info f e each.0, same_infos image entries files each.2) refl

pub same_count : (image : Image) (entries : List Entry) (files : List File) → SaysEach image entries files → length entries ≡ length files
same_count image [] [] each = refl
same_count image [] (f ∷ files) each = absurd each
same_count image (e ∷ entries) [] each = absurd each
same_count image (e ∷ entries) (f ∷ files) each = omega (arith, same_count image entries files each.2)

pub same_names : (image : Image) (entries : List Entry) (files : List File) (name : List ℕ) → SaysEach image entries files → has_name name entries ≡ is_taken name files
same_names image [] [] name each = refl
same_names image [] (f ∷ files) name each = absurd each
same_names image (e ∷ entries) [] name each = absurd each
same_names image (e ∷ entries) (f ∷ files) name each = rw (each.0.name, same_names image entries files name each.2) refl

-- the last file's entry lists the last file
abbrev pub BothLast : Option Entry → Option File → Type 0
BothLast None None = Unit {0}
BothLast None (Some f) = ⊥
BothLast (Some e) None = ⊥
BothLast (Some e) (Some f) = Lists f e

both_last : (image : Image) (entries : List Entry) (files : List File) (d : Option Entry) (g : Option File) → BothLast d g → SaysEach image entries files → BothLast (last_or d entries) (last_or g files)
both_last image [] [] d g both each = both
both_last image [] (f ∷ files) d g both each = absurd each
both_last image (e ∷ entries) [] d g both each = absurd each
both_last image (e ∷ entries) (f ∷ files) d g both each = both_last image entries files (Some e) (Some f) each.0 each.2

sealed_by : (d : Option Entry) (g : Option File) → BothLast d g → ◌≡◌ {A = Bool} (elim d [ None ↦ true | Some e ↦ is_closed e ]) (elim g [ None ↦ true | Some f ↦ f.closed ])
sealed_by None None both = refl
sealed_by None (Some f) both = absurd both
sealed_by (Some e) None both = absurd both
sealed_by (Some e) (Some f) both = both.closed

pub same_sealed : (image : Image) (entries : List Entry) (files : List File) → SaysEach image entries files → is_last_closed entries ≡ is_sealed files
same_sealed image entries files each = sealed_by (last_or None entries) (last_or None files) (both_last image entries files None None tt each)

next_by : (reserved : ℕ) (d : Option Entry) (g : Option File) → BothLast d g
    → ◌≡◌ {A = ℕ} (elim d [ None ↦ 1 + reserved | Some e ↦ e.first_block + e.block_count ]) (elim g [ None ↦ 1 + reserved | Some f ↦ f.first_block + blocks_of f.size ])
next_by reserved None None both = refl
next_by reserved None (Some f) both = absurd both
next_by reserved (Some e) None both = absurd both
next_by reserved (Some e) (Some f) both = omega (arith, both.first_block, both.block_count)

pub same_next : (s : Config) (image : Image) (entries : List Entry) (files : List File) → SaysEach image entries files → block_behind s.directory entries ≡ next_block s files
same_next s image entries files each = next_by s.directory (last_or None entries) (last_or None files) (both_last image entries files None None tt each)

-- ---- bounds

pub record IsPlaced (blocks n : ℕ) (e : Entry) : Type 0 where
  pub first : e.first_block ≡ n
  pub some : 0 < e.block_count
  pub within : n + e.block_count ≤ blocks

pub placed_at : (blocks n : ℕ) (e : Entry) → stands blocks n e ≡ true → IsPlaced blocks n e
placed_at blocks n e is =
    let parts = all_four (e.first_block == n) (nat_lt 0 e.size) (e.block_count == (e.size + 511) / 512) (nat_le (n + e.block_count) blocks) is in
    let count : e.block_count ≡ (e.size + 511) / 512 = eqb-true e.block_count ((e.size + 511) / 512) parts.2 in
    let some : 0 < e.size = ltb-true 0 e.size parts.1 in
    record { first = eqb-true e.first_block n parts.0; some = omega (arith, count, some); within = leb-true (n + e.block_count) blocks parts.3 }
  where
    all_four : (a b c d : Bool) → (a && b && c && d) ≡ true → (a ≡ true) × (b ≡ true) × (c ≡ true) × (d ≡ true)
    all_four true true true d is = (refl, refl, refl, is)
    all_four true true false d is = absurd (cc)
    all_four true false c d is = absurd (cc)
    all_four false b c d is = absurd (cc)

-- files are no more than blocks
pub few_files : (blocks n : ℕ) (entries : List Entry) → n ≤ blocks → Stand blocks n entries → n + length entries ≤ blocks
few_files blocks n [] le stand = omega (arith, le)
few_files blocks n (e ∷ entries) le stand =
    let at = placed_at blocks n e stand.0 in
    omega (arith, at.some, few_files blocks (n + e.block_count) entries at.within stand.1)

-- the block after a file, or another one
abbrev end_of : ℕ → Option Entry → ℕ
end_of k d = elim d [ None ↦ k | Some e ↦ e.first_block + e.block_count ]

-- the block after the last of them is inside the medium, or its end
last_inside : (blocks n k : ℕ) (d : Option Entry) (entries : List Entry) → end_of k d ≤ blocks → Stand blocks n entries → end_of k (last_or d entries) ≤ blocks
last_inside blocks n k d [] le stand = le
last_inside blocks n k d (e ∷ entries) le stand =
    let at = placed_at blocks n e stand.0 in
    last_inside blocks (n + e.block_count) k (Some e) entries (omega (arith, at.first, at.within)) stand.1

pub behind_inside : (blocks reserved : ℕ) (entries : List Entry) → 1 + reserved ≤ blocks → Stand blocks (reserved + 1) entries → block_behind reserved entries ≤ blocks
behind_inside blocks reserved entries le stand = last_inside blocks (reserved + 1) (1 + reserved) None entries le stand

-- ---- the whole

module _ (s : Config) (image : Image) (chain : List ChainBlock) (written : Option OpenState) (files : List File) where
  lists : HoldsFiles s image chain written files → IsListed s image (listed_files chain) files
  lists = held_lists s image chain written files

  pub infos_told : HoldsFiles s image chain written files → map info_in (listed_files chain) ≡ map info_of files
  infos_told holds = same_infos image (listed_files chain) files (lists holds).each

  pub count_told : HoldsFiles s image chain written files → length (listed_files chain) ≡ length files
  count_told holds = same_count image (listed_files chain) files (lists holds).each

  pub few_told : HoldsFiles s image chain written files → s.directory < length image → length files ≤ length image
  few_told holds less = let is = lists holds in omega (arith, is.blocks, count_told holds, few_files s.blocks (s.directory + 1) (listed_files chain) (omega (arith, less, is.blocks)) is.stand)

  pub closed_told : HoldsFiles s image chain written files → is_last_closed (listed_files chain) ≡ is_sealed files
  closed_told holds = same_sealed image (listed_files chain) files (lists holds).each

  pub behind_told : HoldsFiles s image chain written files → block_behind s.directory (listed_files chain) ≡ next_block s files
  behind_told holds = same_next s image (listed_files chain) files (lists holds).each

  pub inside_told : HoldsFiles s image chain written files → s.directory < length image → next_block s files ≤ length image
  inside_told holds less = let is = lists holds in omega (arith, is.blocks, behind_told holds, behind_inside s.blocks s.directory (listed_files chain) (omega (arith, less, is.blocks)) is.stand)

pub names_told : (s : Config) (image : Image) (chain : List ChainBlock) (written : Option OpenState) (files : List File) (name : List ℕ) → HoldsFiles s image chain written files → has_name name (listed_files chain) ≡ is_taken name files
names_told s image chain written files name holds = same_names image (listed_files chain) files name (held_lists s image chain written files holds).each
