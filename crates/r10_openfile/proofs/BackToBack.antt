-- Where files stand that lie back to back, and where the next one begins.
use Rattle.std.proofs.Common.{◌≡◌, ℕ, suc, ◌+◌, ◌-◌, ◌<◌, Bool, true, List, [], ◌∷◌, length, take, drop, Option, None, Some, refl, sym, ap, subst, ◌∙◌, arith, ext_get_or, get_or-drop}
use Rattle.std.specs.List.{All, concat, last_or}
use Rattle.std.proofs.lemmas.List.{length-drop}
use Rattle.std.proofs.lemmas.List.Elements.{All-nil, All-cons, All-head, All-tail}
use Rattle.std.proofs.lemmas.List.Sums.{sum_by-cons}
use Rattle.r10_medium.specs.Disk.{Image}
use Rattle.r10_blockout.specs.Blocks.{bytes_from}
use Rattle.r10_dirblock.specs.Block.{is_closed}
use Rattle.r10_dirblock.specs.declared.entry.Entry.{Entry as DirectoryEntry}
use Rattle.r10_dirchain.specs.Mount.{blocks_in}
use Rattle.r10_dirchain.specs.OnMedium.{SameButIn}
use Rattle.r10_dirchain.proofs.RulesAsFacts.{Stand}
use Rattle.r10_machine.specs.Config.{Config}
use Rattle.r10_machine.specs.Machine.{File}
use Rattle.r10_machine.specs.Room.{blocks_of}
use Rattle.r10_machine.specs.Says.{SaysEach}
pub use Rattle.r10_volume.proofs.Staying.{bytes_behind}
use Rattle.r10_machine.proofs.Said.{stands_at}

-- ---- where the next file begins

abbrev pub behind : Config → Option File → ℕ
behind s d = elim d [ None ↦ 1 + s.directory | Some f ↦ f.first_block + blocks_of f.size ]

pub behind_all : (s : Config) (image : Image) (blocks : ℕ) (d : Option File) (entries : List DirectoryEntry) (files : List File) → Stand blocks (behind s d) entries → SaysEach image entries files
    → behind s (last_or d files) ≡ behind s d + blocks_in entries
behind_all s image blocks d [] [] stand each = omega arith
behind_all s image blocks d [] (f ∷ files) stand each = absurd each
behind_all s image blocks d (e ∷ entries) [] stand each = absurd each
behind_all s image blocks d (e ∷ entries) (f ∷ files) stand each =
    let at = stands_at blocks (behind s d) e stand.0 in
    let lists = each.0 in
    let next : behind s (Some f) ≡ behind s d + e.block_count = omega (arith, at, lists.first_block, lists.block_count) in
    let rest = behind_all s image blocks (Some f) entries files (subst (λ (k : ℕ). Stand blocks k entries) (sym next) stand.1) each.2 in
    omega (arith, rest, next, sum_by-cons (λ (c : DirectoryEntry). c.block_count) e entries)

-- ---- as many entries as files, and all closed where the last is

pub each_length : (image : Image) (entries : List DirectoryEntry) (files : List File) → SaysEach image entries files → length entries ≡ length files
each_length image [] [] each = refl
each_length image [] (f ∷ files) each = absurd each
each_length image (e ∷ entries) [] each = absurd each
each_length image (e ∷ entries) (f ∷ files) each = omega (arith, each_length image entries files each.2)

pub but_last : (e d : DirectoryEntry) (entries : List DirectoryEntry) → take (length (e ∷ d ∷ entries) - 1) (e ∷ d ∷ entries) ≡ e ∷ take (length (d ∷ entries) - 1) (d ∷ entries)
but_last e d entries = ap (λ (k : ℕ). take k (e ∷ d ∷ entries)) one_more
  where
    one_more : length (e ∷ d ∷ entries) - 1 ≡ suc (length (d ∷ entries) - 1)
    one_more = omega arith

abbrev Closed : DirectoryEntry → Type 0
Closed e = is_closed e ≡ true

pub all_closed : (image : Image) (d : Option File) (entries : List DirectoryEntry) (files : List File) → SaysEach image entries files → All Closed (take (length entries - 1) entries) → elim (last_or d files) as (λ o. Bool) [ None ↦ true | Some f ↦ f.closed ] ≡ true
    → All Closed entries
all_closed image d [] files each others last = All-nil Closed
all_closed image d (e ∷ entries) [] each others last = absurd each
all_closed image d (e ∷ []) (f ∷ []) each others last = All-cons Closed e [] (each.0.closed ∙ last) (All-nil Closed)
all_closed image d (e ∷ []) (f ∷ g ∷ files) each others last = absurd each.2
all_closed image d (e ∷ c ∷ entries) (f ∷ files) each others last =
    let front : All Closed (e ∷ take (length (c ∷ entries) - 1) (c ∷ entries)) = subst (All Closed) (but_last e c entries) others in
    All-cons Closed e (c ∷ entries) (All-head Closed e (take (length (c ∷ entries) - 1) (c ∷ entries)) front)
    (all_closed image (Some f) (c ∷ entries) files each.2 (All-tail Closed e (take (length (c ∷ entries) - 1) (c ∷ entries)) front) last)

-- ---- bytes after the blocks that change

pub same_from : (old new : Image) (first size : ℕ) (numbers : List ℕ) → SameButIn numbers old new → All (λ (n : ℕ). n < first) numbers → bytes_from new first size ≡ bytes_from old first size
same_from old new first size numbers same all =
    ap (λ (l : Image). take size (concat l))
    (ext_get_or [] (drop first new) (drop first old) (omega (arith, same.size, length-drop first new, length-drop first old))
    (λ k lt. get_or-drop first new k [] ∙ same.others (first + k) (λ i d lt is. omega (arith, is, all i d lt)) ∙ sym (get_or-drop first old k [])))
