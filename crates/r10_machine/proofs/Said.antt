-- What a medium says outlasts writes after it.
use Rattle.std.proofs.Common.{◌≡◌, ℕ, suc, ◌+◌, ◌-◌, ◌/◌, ◌<◌, ◌≤◌, Bool, true, false, ◌&&◌, List, [], ◌∷◌, ◌++◌, length, take, drop, get_or-drop, get_or-take, ext_get_or, Option, Some, None, refl, sym, ap, subst, ◌∙◌, arith}
use Rattle.std.specs.Prelude.{nat_lt, nat_le, ◌==◌, ◌≢◌}
use Rattle.std.specs.List.{All, concat, last_or}
use Rattle.std.proofs.lemmas.List.{length-drop, length-take, take-append-drop, take-append-le}
use Rattle.std.proofs.lemmas.List.Folds.{concat-append}
use Rattle.std.proofs.lemmas.List.Elements.{All-nil, All-cons, All-head, All-tail}
use Rattle.std.proofs.lemmas.Bool.{eqb-true}
use Rattle.r10_count.specs.Checks.{first_broken}
use Rattle.r10_medium.specs.Disk.{Block, Image, IsWhole, block_at}
use Rattle.r10_medium.specs.PowerLoss.{SameBelow}
use Rattle.r10_medium.proofs.Bytes.{length-concat, whole_drop}
use Rattle.r10_dirblock.specs.Block.{IsBlock}
use Rattle.r10_dirblock.specs.declared.entry.Entry.{Entry as DirectoryEntry}
use Rattle.r10_dirchain.specs.declared.chain.ChainBlock.{ChainBlock}
use Rattle.r10_dirchain.specs.Chain.{HoldsBlock, listed_files}
use Rattle.r10_dirchain.specs.Mount.{mount_rules, place_rules, stands}
use Rattle.r10_dirchain.specs.OnMedium.{SameButIn, Turned}
use Rattle.r10_dirchain.specs.Steps.{with_last_entry}
use Rattle.r10_dirchain.proofs.RulesAsFacts.{Stand, usable_of}
use Rattle.r10_dirchain.proofs.Usable.{placed}
use Rattle.r10_blockout.specs.Blocks.{bytes_from}
use Rattle.r10_body.specs.Files.{FileSays}
use Rattle.r10_machine.specs.Config.{Config}
use Rattle.r10_machine.specs.Machine.{File, shown_entries}
use Rattle.r10_machine.specs.Room.{blocks_of, next_block}
use Rattle.r10_machine.specs.Says.{Lists, MediumSays, SaysEach, SaysFile}
use Rattle.r10_machine.specs.Bytes.{KeepBytes}
use Rattle.r10_count.proofs.Rules.{none_broken}

-- ---- bytes

-- bytes lie in their blocks, whatever stands after them
in_blocks : (image part : Image) (first size : ℕ) → take (blocks_of size) (drop first image) ≡ part → size ≤ length (concat part) → bytes_from image first size ≡ take size (concat part)
in_blocks image part first size is room =
    ap (λ (l : Image). take size (concat l)) (sym (take-append-drop (blocks_of size) (drop first image)) ∙ ap (λ (l : Image). l ++ drop (blocks_of size) (drop first image)) is)
    ∙ ap (take size) (concat-append part (drop (blocks_of size) (drop first image)))
    ∙ take-append-le size (concat part) (concat (drop (blocks_of size) (drop first image))) room

whole_take : (n : ℕ) (blocks : Image) → IsWhole blocks → IsWhole (take n blocks)
whole_take n blocks whole k lt =
    ap length (get_or-take n blocks k [] (omega (arith, lt, length-take n blocks))) ∙ whole k (omega (arith, lt, length-take n blocks))

-- bytes stay where their blocks do
pub bytes_stay : (old new : Image) (first size : ℕ) → IsWhole old → length new ≡ length old → ((k : ℕ) → first ≤ k → k < first + blocks_of size → block_at new k ≡ block_at old k)
    → first + blocks_of size ≤ length old → bytes_from new first size ≡ bytes_from old first size
bytes_stay old new first size whole long same inside =
    in_blocks new (take (blocks_of size) (drop first old)) first size same_blocks room ∙ sym (in_blocks old (take (blocks_of size) (drop first old)) first size refl room)
  where
    room : size ≤ length (concat (take (blocks_of size) (drop first old)))
    room = omega (arith, inside, length-concat (take (blocks_of size) (drop first old)) (whole_take (blocks_of size) (drop first old) (whole_drop first old whole)), length-take (blocks_of size) (drop first old), length-drop first old)

    same_blocks : take (blocks_of size) (drop first new) ≡ take (blocks_of size) (drop first old)
    same_blocks = ext_get_or [] (take (blocks_of size) (drop first new)) (take (blocks_of size) (drop first old))
        (omega (arith, long, length-take (blocks_of size) (drop first old), length-take (blocks_of size) (drop first new), length-drop first old, length-drop first new))
        (λ i lt.
        let within : i < blocks_of size = omega (arith, lt, length-take (blocks_of size) (drop first new)) in
        get_or-take (blocks_of size) (drop first new) i [] within ∙ get_or-drop first new i [] ∙ same (first + i) (omega arith) (omega (arith, within))
        ∙ sym (get_or-drop first old i []) ∙ sym (get_or-take (blocks_of size) (drop first old) i [] within))

-- ---- one file

file_stays : (old new : Image) (f : File) → length new ≡ length old → bytes_from new f.first_block f.size ≡ bytes_from old f.first_block f.size → SaysFile old f → SaysFile new f
file_stays old new f long same says = record {
  inside = omega (arith, long, says.inside);
  says = subst (λ (l : List ℕ). FileSays l f.setup (shown_entries f) f.closed) (sym same) says.says;
}

bytes_below : (old new : Image) (f : File) (n : ℕ) → IsWhole old → (kept : ℕ) → SameBelow n kept old new → f.first_block + blocks_of f.size ≤ n → SaysFile old f → bytes_from new f.first_block f.size ≡ bytes_from old f.first_block f.size
bytes_below old new f n whole kept same below says =
    bytes_stay old new f.first_block f.size whole same.size (λ k from to. same.blocks k (omega (arith, to, below))) says.inside

below_stays : (old new : Image) (f : File) (n : ℕ) → IsWhole old → (kept : ℕ) → SameBelow n kept old new → f.first_block + blocks_of f.size ≤ n → SaysFile old f → SaysFile new f
below_stays old new f n whole kept same below says =
    file_stays old new f same.size (bytes_below old new f n whole kept same below says) says

-- ---- files back to back

all_four : (a b c d : Bool) → (a && b && c && d) ≡ true → a ≡ true
all_four true b c d is = refl
all_four false b c d is = absurd (cc)

pub stands_at : (blocks n : ℕ) (e : DirectoryEntry) → stands blocks n e ≡ true → e.first_block ≡ n
stands_at blocks n e is = eqb-true e.first_block n (all_four (e.first_block == n) (nat_lt 0 e.size) (e.block_count == (e.size + 511) / 512) (nat_le (n + e.block_count) blocks) is)

-- where a file ends, and the next begins
after : (blocks n : ℕ) (e : DirectoryEntry) (f : File) → stands blocks n e ≡ true → Lists f e → (f.first_block ≡ n) × (f.first_block + blocks_of f.size ≡ n + e.block_count)
after blocks n e f is lists =
    let first : e.first_block ≡ n = stands_at blocks n e is in
    (sym lists.first_block ∙ first, omega (arith, first, lists.first_block, lists.block_count))

-- the last of files after a block is after it
last_behind : (old : Image) (blocks n : ℕ) (entries : List DirectoryEntry) (files : List File) (f : File) → Stand blocks n entries → SaysEach old entries (files ++ f ∷ []) → n ≤ f.first_block
last_behind old blocks n [] [] f stand each = absurd each
last_behind old blocks n [] (g ∷ files) f stand each = absurd each
last_behind old blocks n (e ∷ []) [] f stand each = let at = after blocks n e f stand.0 each.0 in omega (arith, at.0)
last_behind old blocks n (e ∷ d ∷ entries) [] f stand each = absurd each.2
last_behind old blocks n (e ∷ entries) (g ∷ files) f stand each =
    let rest = last_behind old blocks (n + e.block_count) entries files f stand.1 each.2 in
    omega (arith, rest)

grown_stay : (old new : Image) (blocks n : ℕ) (entries : List DirectoryEntry) (files : List File) (f : File) → IsWhole old → (kept : ℕ) → SameBelow f.first_block kept old new
    → bytes_from new f.first_block f.size ≡ bytes_from old f.first_block f.size → Stand blocks n entries → SaysEach old entries (files ++ f ∷ []) → SaysEach new entries (files ++ f ∷ [])
grown_stay old new blocks n [] [] f whole kept same bytes stand each = absurd each
grown_stay old new blocks n [] (g ∷ files) f whole kept same bytes stand each = absurd each
grown_stay old new blocks n (e ∷ []) [] f whole kept same bytes stand each = (each.0, file_stays old new f same.size bytes each.1, tt)
grown_stay old new blocks n (e ∷ d ∷ entries) [] f whole kept same bytes stand each = absurd each.2
grown_stay old new blocks n (e ∷ entries) (g ∷ files) f whole kept same bytes stand each =
    let at = after blocks n e g stand.0 each.0 in
    let later = last_behind old blocks (n + e.block_count) entries files f stand.1 each.2 in (
      each.0,
      below_stays old new g f.first_block whole kept same (omega (arith, at.1, later)) each.1,
      grown_stay old new blocks (n + e.block_count) entries files f whole kept same bytes stand.1 each.2,
    )

grown_keep : (old new : Image) (blocks n : ℕ) (entries : List DirectoryEntry) (files : List File) (f : File) → IsWhole old → (kept : ℕ) → SameBelow f.first_block kept old new
    → bytes_from new f.first_block f.size ≡ bytes_from old f.first_block f.size → Stand blocks n entries → SaysEach old entries (files ++ f ∷ []) → KeepBytes old new (files ++ f ∷ [])
grown_keep old new blocks n [] [] f whole kept same bytes stand each = absurd each
grown_keep old new blocks n [] (g ∷ files) f whole kept same bytes stand each = absurd each
grown_keep old new blocks n (e ∷ entries) [] f whole kept same bytes stand each = (bytes, tt)
grown_keep old new blocks n (e ∷ entries) (g ∷ files) f whole kept same bytes stand each =
    let at = after blocks n e g stand.0 each.0 in
    let later = last_behind old blocks (n + e.block_count) entries files f stand.1 each.2 in (
      bytes_below old new g f.first_block whole kept same (omega (arith, at.1, later)) each.1,
      grown_keep old new blocks (n + e.block_count) entries files f whole kept same bytes stand.1 each.2,
    )

-- the block after the last file, where the one before these ends there
abbrev behind : Config → Option File → ℕ
behind s d = elim d [ None ↦ 1 + s.directory | Some f ↦ f.first_block + blocks_of f.size ]

behind_rises : (s : Config) (old : Image) (blocks : ℕ) (d : Option File) (entries : List DirectoryEntry) (files : List File) → Stand blocks (behind s d) entries → SaysEach old entries files → behind s d ≤ behind s (last_or d files)
behind_rises s old blocks d [] [] stand each = omega arith
behind_rises s old blocks d [] (f ∷ files) stand each = absurd each
behind_rises s old blocks d (e ∷ entries) [] stand each = absurd each
behind_rises s old blocks d (e ∷ entries) (f ∷ files) stand each =
    let at = after blocks (behind s d) e f stand.0 each.0 in
    let rest = behind_rises s old blocks (Some f) entries files (subst (λ (k : ℕ). Stand blocks k entries) (sym at.1) stand.1) each.2 in
    omega (arith, rest, at.1)

closed_stay : (s : Config) (old new : Image) (blocks : ℕ) (d : Option File) (entries : List DirectoryEntry) (files : List File) → IsWhole old → (kept : ℕ) → SameBelow (behind s (last_or d files)) kept old new
    → Stand blocks (behind s d) entries → SaysEach old entries files → SaysEach new entries files
closed_stay s old new blocks d [] [] whole kept same stand each = tt
closed_stay s old new blocks d [] (f ∷ files) whole kept same stand each = absurd each
closed_stay s old new blocks d (e ∷ entries) [] whole kept same stand each = absurd each
closed_stay s old new blocks d (e ∷ entries) (f ∷ files) whole kept same stand each =
    let at = after blocks (behind s d) e f stand.0 each.0 in
    let next : Stand blocks (behind s (Some f)) entries = subst (λ (k : ℕ). Stand blocks k entries) (sym at.1) stand.1 in
    let rises = behind_rises s old blocks (Some f) entries files next each.2 in (
      each.0,
      below_stays old new f (behind s (last_or (Some f) files)) whole kept same rises each.1,
      closed_stay s old new blocks (Some f) entries files whole kept same next each.2,
    )

closed_keep : (s : Config) (old new : Image) (blocks : ℕ) (d : Option File) (entries : List DirectoryEntry) (files : List File) → IsWhole old → (kept : ℕ) → SameBelow (behind s (last_or d files)) kept old new
    → Stand blocks (behind s d) entries → SaysEach old entries files → KeepBytes old new files
closed_keep s old new blocks d [] [] whole kept same stand each = tt
closed_keep s old new blocks d [] (f ∷ files) whole kept same stand each = absurd each
closed_keep s old new blocks d (e ∷ entries) [] whole kept same stand each = absurd each
closed_keep s old new blocks d (e ∷ entries) (f ∷ files) whole kept same stand each =
    let at = after blocks (behind s d) e f stand.0 each.0 in
    let next : Stand blocks (behind s (Some f)) entries = subst (λ (k : ℕ). Stand blocks k entries) (sym at.1) stand.1 in
    let rises = behind_rises s old blocks (Some f) entries files next each.2 in (
      bytes_below old new f (behind s (last_or (Some f) files)) whole kept same rises each.1,
      closed_keep s old new blocks (Some f) entries files whole kept same next each.2,
    )

-- ---- the directory

chain_stays : (old new : Image) (reserved n m : ℕ) (chain : List ChainBlock) → (kept : ℕ) → SameBelow m kept old new → reserved < m → first_broken (place_rules reserved n chain) ≡ None → All (HoldsBlock old) chain → All (HoldsBlock new) chain
chain_stays old new reserved n m [] kept same less places all = All-nil (HoldsBlock new)
chain_stays old new reserved n m (b ∷ chain) kept same less places all =
    let at = placed reserved n (b ∷ chain) places 0 (omega arith) in
    let holds : HoldsBlock old b = All-head (HoldsBlock old) b chain all in
    All-cons (HoldsBlock new) b chain
    (record { within = omega (arith, holds.within, same.size); is = subst (λ (c : Block). IsBlock c b.block) (sym (same.blocks b.number (omega (arith, at.0, at.1, less)))) holds.is })
    (chain_stays old new reserved (n + 1) m chain kept same less (none_broken (b.number == n && nat_le n reserved) b.number (place_rules reserved (n + 1) chain) places).1 (All-tail (HoldsBlock old) b chain all))

-- ---- the whole

said_from : (s : Config) (old new : Image) (files : List File) (m : ℕ) (says : MediumSays s old files) → (kept : ℕ) → SameBelow m kept old new → s.directory < m → SaysEach new (listed_files says.chain) files → MediumSays s new files
said_from s old new files m says kept same less each = record {
  blocks = same.size ∙ says.blocks;
  chain = says.chain;
  directory = record { linked = says.directory.linked; holds = chain_stays old new s.directory 1 m says.chain kept same less (usable_of s.directory s.blocks says.chain says.mounts).placed says.directory.holds };
  mounts = says.mounts;
  each = each;
}

stand_from_one : (s : Config) (chain : List ChainBlock) → first_broken (mount_rules s.directory s.blocks chain) ≡ None → Stand s.blocks (1 + s.directory) (listed_files chain)
stand_from_one s chain mounts = subst (λ (k : ℕ). Stand s.blocks k (listed_files chain)) (omega arith) (usable_of s.directory s.blocks chain mounts).stand

pub closed_stand : (s : Config) (old new : Image) (files : List File) → IsWhole old → IsWhole new → MediumSays s old files → (kept : ℕ) → SameBelow (next_block s files) kept old new → MediumSays s new files
closed_stand s old new files whole whole' says kept same =
    let stand = stand_from_one s says.chain says.mounts in
    let rises = behind_rises s old s.blocks None (listed_files says.chain) files stand says.each in
    said_from s old new files (next_block s files) says kept same (omega (arith, rises))
    (closed_stay s old new s.blocks None (listed_files says.chain) files whole kept same stand says.each)

pub growing_stands : (s : Config) (old new : Image) (files : List File) (f : File) → IsWhole old → IsWhole new → MediumSays s old (files ++ f ∷ []) → (kept : ℕ) → SameBelow f.first_block kept old new
    → bytes_from new f.first_block f.size ≡ bytes_from old f.first_block f.size → MediumSays s new (files ++ f ∷ [])
growing_stands s old new files f whole whole' says kept same bytes =
    let stand = stand_from_one s says.chain says.mounts in
    let later = last_behind old s.blocks (1 + s.directory) (listed_files says.chain) files f stand says.each in
    said_from s old new (files ++ f ∷ []) f.first_block says kept same (omega (arith, later))
    (grown_stay old new s.blocks (1 + s.directory) (listed_files says.chain) files f whole kept same bytes stand says.each)

pub closed_kept : (s : Config) (old new : Image) (files : List File) → IsWhole old → MediumSays s old files → (kept : ℕ) → SameBelow (next_block s files) kept old new → KeepBytes old new files
closed_kept s old new files whole says kept same = closed_keep s old new s.blocks None (listed_files says.chain) files whole kept same (stand_from_one s says.chain says.mounts) says.each

pub growing_kept : (s : Config) (old new : Image) (files : List File) (f : File) → IsWhole old → MediumSays s old (files ++ f ∷ []) → (kept : ℕ) → SameBelow f.first_block kept old new
    → bytes_from new f.first_block f.size ≡ bytes_from old f.first_block f.size → KeepBytes old new (files ++ f ∷ [])
growing_kept s old new files f whole says kept same bytes =
    grown_keep old new s.blocks (1 + s.directory) (listed_files says.chain) files f whole kept same bytes (stand_from_one s says.chain says.mounts) says.each

-- ---- a directory that is written

pub others_stay : (reserved k : ℕ) (numbers : List ℕ) → reserved < k → All (λ (n : ℕ). n ≤ reserved) numbers → All (λ (n : ℕ). k ≢ n) numbers
others_stay reserved k [] less all = All-nil (λ (n : ℕ). k ≢ n)
others_stay reserved k (n ∷ numbers) less all =
    All-cons (λ (n : ℕ). k ≢ n) n numbers (λ is. omega (arith, is, less, All-head (λ (n : ℕ). n ≤ reserved) n numbers all)) (others_stay reserved k numbers less (All-tail (λ (n : ℕ). n ≤ reserved) n numbers all))

bytes_behind : (old new : Image) (f : File) (reserved : ℕ) (numbers : List ℕ) → IsWhole old → SameButIn numbers old new → All (λ (n : ℕ). n ≤ reserved) numbers → reserved < f.first_block → SaysFile old f
    → bytes_from new f.first_block f.size ≡ bytes_from old f.first_block f.size
bytes_behind old new f reserved numbers whole same all less says =
    bytes_stay old new f.first_block f.size whole same.size (λ k from to. same.others k (others_stay reserved k numbers (omega (arith, from, less)) all)) says.inside

behind_stays : (old new : Image) (f : File) (reserved : ℕ) (numbers : List ℕ) → IsWhole old → SameButIn numbers old new → All (λ (n : ℕ). n ≤ reserved) numbers → reserved < f.first_block → SaysFile old f → SaysFile new f
behind_stays old new f reserved numbers whole same all less says =
    file_stays old new f same.size (bytes_behind old new f reserved numbers whole same all less says) says

each_behind_stays : (old new : Image) (blocks n reserved : ℕ) (numbers : List ℕ) (entries : List DirectoryEntry) (files : List File) → IsWhole old → SameButIn numbers old new → All (λ (n : ℕ). n ≤ reserved) numbers → reserved < n
    → Stand blocks n entries → SaysEach old entries files → SaysEach new entries files
each_behind_stays old new blocks n reserved numbers [] [] whole same all less stand each = tt
each_behind_stays old new blocks n reserved numbers [] (f ∷ files) whole same all less stand each = absurd each
each_behind_stays old new blocks n reserved numbers (e ∷ entries) [] whole same all less stand each = absurd each
each_behind_stays old new blocks n reserved numbers (e ∷ entries) (f ∷ files) whole same all less stand each =
    let at = after blocks n e f stand.0 each.0 in (
      each.0,
      behind_stays old new f reserved numbers whole same all (omega (arith, at.0, less)) each.1,
      each_behind_stays old new blocks (n + e.block_count) reserved numbers entries files whole same all (omega (arith, less)) stand.1 each.2,
    )

each_behind_keeps : (old new : Image) (blocks n reserved : ℕ) (numbers : List ℕ) (entries : List DirectoryEntry) (files : List File) → IsWhole old → SameButIn numbers old new → All (λ (n : ℕ). n ≤ reserved) numbers → reserved < n
    → Stand blocks n entries → SaysEach old entries files → KeepBytes old new files
each_behind_keeps old new blocks n reserved numbers [] [] whole same all less stand each = tt
each_behind_keeps old new blocks n reserved numbers [] (f ∷ files) whole same all less stand each = absurd each
each_behind_keeps old new blocks n reserved numbers (e ∷ entries) [] whole same all less stand each = absurd each
each_behind_keeps old new blocks n reserved numbers (e ∷ entries) (f ∷ files) whole same all less stand each =
    let at = after blocks n e f stand.0 each.0 in (
      bytes_behind old new f reserved numbers whole same all (omega (arith, at.0, less)) each.1,
      each_behind_keeps old new blocks (n + e.block_count) reserved numbers entries files whole same all (omega (arith, less)) stand.1 each.2,
    )

pub directory_keeps : (s : Config) (old new : Image) (numbers : List ℕ) (files : List File) → IsWhole old → MediumSays s old files → SameButIn numbers old new → All (λ (n : ℕ). n ≤ s.directory) numbers → KeepBytes old new files
directory_keeps s old new numbers files whole says same all =
    each_behind_keeps old new s.blocks (1 + s.directory) s.directory numbers (listed_files says.chain) files whole same all (omega arith) (stand_from_one s says.chain says.mounts) says.each

pub directory_turns : (s : Config) (old new : Image) (chain : List ChainBlock) (changed : List ℕ) (files : List File) → IsWhole old → length old ≡ s.blocks → Turned chain changed old new → All (λ (n : ℕ). n ≤ s.directory) changed
    → first_broken (mount_rules s.directory s.blocks chain) ≡ None → SaysEach old (listed_files chain) files → MediumSays s new files
directory_turns s old new chain changed files whole blocks turned all mounts each = record {
  blocks = turned.others.size ∙ blocks;
  chain = chain;
  directory = turned.directory;
  mounts = mounts;
  each = each_behind_stays old new s.blocks (1 + s.directory) s.directory changed (listed_files chain) files whole turned.others all (omega arith) (stand_from_one s chain mounts) each;
}

-- ---- files that are listed

pub one_more_said : (image : Image) (entries : List DirectoryEntry) (files : List File) (e : DirectoryEntry) (f : File) → SaysEach image entries files → Lists f e → SaysFile image f → SaysEach image (entries ++ e ∷ []) (files ++ f ∷ [])
one_more_said image [] [] e f each lists says = (lists, says, tt)
one_more_said image [] (g ∷ files) e f each lists says = absurd each
one_more_said image (d ∷ entries) [] e f each lists says = absurd each
one_more_said image (d ∷ entries) (g ∷ files) e f each lists says = (each.0, each.1, one_more_said image entries files e f each.2 lists says)

behind_first : (e d c : DirectoryEntry) (entries : List DirectoryEntry) → with_last_entry e (d ∷ c ∷ entries) ≡ d ∷ with_last_entry e (c ∷ entries)
behind_first e d c entries = ap (λ (k : ℕ). take k (d ∷ c ∷ entries) ++ e ∷ []) one_more
  where
    one_more : length (d ∷ c ∷ entries) - 1 ≡ suc (length (c ∷ entries) - 1)
    one_more = omega arith

pub last_said : (image : Image) (entries : List DirectoryEntry) (files : List File) (g : File) (e : DirectoryEntry) (f : File) → SaysEach image entries (files ++ g ∷ []) → Lists f e → SaysFile image f → SaysEach image (with_last_entry e entries) (files ++ f ∷ [])
last_said image [] [] g e f each lists says = absurd each
last_said image [] (h ∷ files) g e f each lists says = absurd each
last_said image (d ∷ []) [] g e f each lists says = (lists, says, tt)
last_said image (d ∷ c ∷ entries) [] g e f each lists says = absurd each.2
last_said image (d ∷ []) (h ∷ []) g e f each lists says = absurd each.2
last_said image (d ∷ []) (h ∷ i ∷ files) g e f each lists says = absurd each.2
last_said image (d ∷ c ∷ entries) (h ∷ files) g e f each lists says =
    subst (λ (l : List DirectoryEntry). SaysEach image l (h ∷ (files ++ f ∷ []))) (sym (behind_first e d c entries)) (each.0, each.1, last_said image (c ∷ entries) files g e f each.2 lists says)
