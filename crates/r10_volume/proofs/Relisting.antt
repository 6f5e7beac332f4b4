-- The directory written anew with another entry of the last file: what the medium says then.
use Rattle.std.proofs.Common.{◌≡◌, ℕ, suc, ◌+◌, ◌-◌, ◌/◌, ◌<◌, ◌≤◌, Bool, true, false, ◌&&◌, List, [], ◌∷◌, ◌++◌, length, take, Option, None, Some, refl, sym, ap, subst, ◌∙◌, arith}
use Rattle.std.specs.Prelude.{nat_lt, nat_le, ◌==◌, IsSomeAnd}
use Rattle.std.specs.List.{All, last_or}
use Rattle.std.proofs.lemmas.List.Elements.{All-nil, All-cons}
use Rattle.std.proofs.lemmas.List.Sums.{sum_by-cons}
use Rattle.std.proofs.lemmas.Bool.{eqb-true, eq-eqb, ltb-true, lt-ltb, le-leb}
use Rattle.r10_count.specs.Checks.{first_broken}
use Rattle.r10_medium.specs.Disk.{Image, IsWhole}
use Rattle.r10_dirblock.specs.declared.entry.Entry.{Entry as DirectoryEntry}
use Rattle.r10_dirchain.specs.declared.chain.ChainBlock.{ChainBlock}
use Rattle.r10_dirchain.specs.Chain.{IsDirectory, at, listed_files}
use Rattle.r10_dirchain.specs.Mount.{blocks_in, mount_rules, stands}
use Rattle.r10_dirchain.specs.OnMedium.{Turned}
use Rattle.r10_dirchain.specs.Steps.{last_listing, updated}
use Rattle.r10_dirchain.proofs.FileLists.{files-updated, last_listing_is, last_of}
use Rattle.r10_dirchain.proofs.RulesAsFacts.{Stand, usable_of}
use Rattle.r10_dirchain.proofs.Staying.{usable-updated}
use Rattle.r10_dirchain.proofs.Unique.{one_directory}
use Rattle.r10_dirchain.proofs.Usable.{placed}
use Rattle.r10_blockout.specs.Blocks.{bytes_from}
use Rattle.r10_volume.specs.Holding.{OthersAreFound}
use Rattle.r10_volume.proofs.Ends.{all_front, all_with}
use Rattle.r10_volume.proofs.OtherFilesStay.{found_stays}
use Rattle.r10_volume.proofs.Staying.{bytes_behind}
use Rattle.r10_machine.specs.Config.{Config}
use Rattle.r10_machine.specs.Machine.{File}
use Rattle.r10_machine.specs.Room.{blocks_of}
use Rattle.r10_machine.proofs.Said.{directory_keeps, directory_turns, last_said}
use Rattle.r10_machine.specs.Says.{IsFound, Lists, MediumSays, SaysEach, SaysFile}

-- ---- files back to back

-- what it is for a file to stand at a place
pub record Place (blocks n : ℕ) (e : DirectoryEntry) : Type 0 where
  pub first : e.first_block ≡ n
  pub some : 0 < e.size

pub place_of : (blocks n : ℕ) (e : DirectoryEntry) → stands blocks n e ≡ true → Place blocks n e
place_of blocks n e is =
    let parts = three (e.first_block == n) (nat_lt 0 e.size) (e.block_count == (e.size + 511) / 512) (nat_le (n + e.block_count) blocks) is in
    record { first = eqb-true e.first_block n parts.0; some = ltb-true 0 e.size parts.1 }
  where
    three : (a b c d : Bool) → (a && b && c && d) ≡ true → (a ≡ true) × (b ≡ true)
    three true true c d is = (refl, refl)
    three true false c d is = absurd (cc)
    three false b c d is = absurd (cc)

-- where the last file stands
pub record LastStands (n : ℕ) (entries : List DirectoryEntry) (f : File) : Type 0 where
  pub listed : 0 < length entries
  pub first : f.first_block ≡ n + blocks_in (take (length entries - 1) entries)
  pub some : 0 < f.size

pub last_stands : (image : Image) (blocks n : ℕ) (entries : List DirectoryEntry) (files : List File) (f : File) → Stand blocks n entries → SaysEach image entries (files ++ f ∷ []) → LastStands n entries f
last_stands image blocks n [] [] f stand each = absurd each
last_stands image blocks n [] (g ∷ files) f stand each = absurd each
last_stands image blocks n (e ∷ []) [] f stand each =
    let place = place_of blocks n e stand.0 in
    record { listed = omega arith; first = omega (arith, place.first, each.0.first_block); some = omega (arith, place.some, each.0.size) }
last_stands image blocks n (e ∷ d ∷ entries) [] f stand each = absurd each.2
last_stands image blocks n (e ∷ []) (g ∷ []) f stand each = absurd each.2
last_stands image blocks n (e ∷ []) (g ∷ h ∷ files) f stand each = absurd each.2
last_stands image blocks n (e ∷ d ∷ entries) (g ∷ files) f stand each =
    let rest = last_stands image blocks (n + e.block_count) (d ∷ entries) files f stand.1 each.2 in
    let front : blocks_in (take (length (e ∷ d ∷ entries) - 1) (e ∷ d ∷ entries)) ≡ e.block_count + blocks_in (take (length (d ∷ entries) - 1) (d ∷ entries)) =
    ap (λ (k : ℕ). blocks_in (take k (e ∷ d ∷ entries))) (one_more e d entries) ∙ sum_by-cons (λ (c : DirectoryEntry). c.block_count) e (take (length (d ∷ entries) - 1) (d ∷ entries)) in
    record { listed = omega arith; first = omega (arith, rest.first, front); some = rest.some }
  where
    one_more : (e d : DirectoryEntry) (entries : List DirectoryEntry) → length (e ∷ d ∷ entries) - 1 ≡ suc (length (d ∷ entries) - 1)
    one_more e d entries = omega arith

-- ---- the last file, as it is stated and listed

pub last_file_said : (image : Image) (entries : List DirectoryEntry) (files : List File) (f : File) → SaysEach image entries (files ++ f ∷ []) → SaysFile image f
last_file_said image [] [] f each = absurd each
last_file_said image [] (g ∷ files) f each = absurd each
last_file_said image (e ∷ entries) [] f each = each.1
last_file_said image (e ∷ entries) (g ∷ files) f each = last_file_said image entries files f each.2

pub last_file_listed : (image : Image) (d : Option DirectoryEntry) (entries : List DirectoryEntry) (files : List File) (f : File) → SaysEach image entries (files ++ f ∷ []) → IsSomeAnd (last_or d entries) (Lists f)
last_file_listed image d [] [] f each = absurd each
last_file_listed image d [] (g ∷ files) f each = absurd each
last_file_listed image d (e ∷ []) [] f each = each.0
last_file_listed image d (e ∷ c ∷ entries) [] f each = absurd each.2
last_file_listed image d (e ∷ entries) (g ∷ files) f each = last_file_listed image (Some e) entries files f each.2

-- ---- the last file's entry

-- the numbers of the block that is written
abbrev pub written_in : List ChainBlock → List ℕ
written_in chain = (at chain (last_listing chain)).number ∷ []

-- over an image that says the files, the last of them is shown anew: it is stated, and an entry lists it
pub record Relists (s : Config) (image : Image) (chain : List ChainBlock) (files : List File) (f g : File) (e : DirectoryEntry) : Type 0 where
  pub whole : IsWhole image
  pub there : IsDirectory image chain
  pub says : MediumSays s image (files ++ f ∷ [])
  pub lists : Lists g e
  pub made : SaysFile image g
  pub first : g.first_block ≡ f.first_block
  pub some : f.size ≤ g.size

module _ (s : Config) (old : Image) (chain : List ChainBlock) (files : List File) (f g : File) (e : DirectoryEntry) (makes : Relists s old chain files f g e) where
  pub same : makes.says.chain ≡ chain
  same = one_directory old makes.says.chain chain makes.says.directory makes.there

  pub mounts : first_broken (mount_rules s.directory s.blocks chain) ≡ None
  mounts = subst (λ (c : List ChainBlock). first_broken (mount_rules s.directory s.blocks c) ≡ None) same makes.says.mounts

  pub each : SaysEach old (listed_files chain) (files ++ f ∷ [])
  each = subst (λ (c : List ChainBlock). SaysEach old (listed_files c) (files ++ f ∷ [])) same makes.says.each

  pub last : LastStands (s.directory + 1) (listed_files chain) f
  last = last_stands old s.blocks (s.directory + 1) (listed_files chain) files f (usable_of s.directory s.blocks chain mounts).stand each

  pub behind : s.directory < f.first_block
  behind = omega (arith, last.first)

  pub reserved : All (λ (n : ℕ). n ≤ s.directory) (written_in chain)
  reserved =
      let found = last_of chain last.listed in
      let place = placed s.directory 1 chain (usable_of s.directory s.blocks chain mounts).placed found.0 found.1.within in
      let number : (at chain (last_listing chain)).number ≡ 1 + found.0 = ap (λ (i : ℕ). (at chain i).number) (last_listing_is chain found.0 found.1) ∙ place.0 in
      All-cons (λ (n : ℕ). n ≤ s.directory) (at chain (last_listing chain)).number [] (omega (arith, number, place.1)) (All-nil (λ (n : ℕ). n ≤ s.directory))

  here : stands s.blocks (s.directory + 1 + blocks_in (take (length (listed_files chain) - 1) (listed_files chain))) e ≡ true
  here =
      let n = s.directory + 1 + blocks_in (take (length (listed_files chain) - 1) (listed_files chain)) in
      four (e.first_block == n) (nat_lt 0 e.size) (e.block_count == (e.size + 511) / 512) (nat_le (n + e.block_count) s.blocks)
      (eq-eqb e.first_block n (omega (arith, makes.lists.first_block, makes.first, last.first)))
      (lt-ltb 0 e.size (omega (arith, makes.lists.size, makes.some, last.some)))
      (eq-eqb e.block_count ((e.size + 511) / 512) (makes.lists.block_count ∙ ap blocks_of (sym makes.lists.size)))
      (le-leb (n + e.block_count) s.blocks (omega (arith, makes.lists.block_count, makes.first, last.first, makes.made.inside, makes.says.blocks)))
    where
      four : (a b c d : Bool) → a ≡ true → b ≡ true → c ≡ true → d ≡ true → (a && b && c && d) ≡ true
      four a b c d x y z w = rw (x, y, z, w) refl

  pub mounts_made : first_broken (mount_rules s.directory s.blocks (updated e chain)) ≡ None
  mounts_made = usable-updated s.directory s.blocks e chain mounts last.listed here

  pub made_says : (new : Image) → Turned (updated e chain) (written_in chain) old new → MediumSays s new (files ++ g ∷ [])
  made_says new turned =
      let listed : SaysEach old (listed_files (updated e chain)) (files ++ g ∷ []) =
      subst (λ (l : List DirectoryEntry). SaysEach old l (files ++ g ∷ [])) (sym (files-updated e chain last.listed)) (last_said old (listed_files chain) files f e g each makes.lists makes.made) in
      directory_turns s old new (updated e chain) (written_in chain) (files ++ g ∷ []) makes.whole makes.says.blocks turned reserved mounts_made listed

  -- others are found as they were
  pub made_found : (new : Image) → Turned (updated e chain) (written_in chain) old new → OthersAreFound old (files ++ f ∷ []) → (g.own ≡ false → IsFound new g) → OthersAreFound new (files ++ g ∷ [])
  made_found new turned found last_found =
      let Found : Image → File → Type 0 = λ image h. h.own ≡ false → IsFound image h in
      let now : OthersAreFound new (files ++ f ∷ []) = found_stays old new (files ++ f ∷ []) (directory_keeps s old new (written_in chain) (files ++ f ∷ []) makes.whole makes.says turned.others reserved) found in
      all_with (Found new) files g (all_front (Found new) files f now).0 last_found

  -- the bytes of the file
  pub made_bytes : (new : Image) (size : ℕ) → Turned (updated e chain) (written_in chain) old new → bytes_from new g.first_block size ≡ bytes_from old g.first_block size
  made_bytes new size turned = bytes_behind old new s.directory g.first_block size (written_in chain) turned.others reserved (omega (arith, behind, makes.first))
