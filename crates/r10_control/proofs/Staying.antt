-- What is kept of files that were judged stays, while blocks in front of the last file stay.
use Rattle.std.proofs.Common.{◌≡◌, ℕ, zero, suc, ◌+◌, ◌-◌, ◌/◌, ◌<◌, ◌≤◌, Bool, true, false, ◌&&◌, List, [], ◌∷◌, ◌++◌, length, take, drop, Option, None, Some, refl, sym, ap, subst, ◌∙◌, arith}
use Rattle.std.specs.Prelude.{◌==◌, IsSomeAnd, nat_le, nat_lt, slice_get}
use Rattle.std.specs.List.{last_or}
use Rattle.std.proofs.lemmas.Bool.{eqb-true}
use Rattle.std.proofs.lemmas.List.{append-nil, take-append-drop}
use Rattle.std.proofs.lemmas.List.Sums.{sum_by-cons}
use Rattle.r10_dirblock.specs.declared.entry.Entry.{Entry as DirectoryEntry}
use Rattle.r10_dirchain.specs.Chain.{listed_files}
use Rattle.r10_dirchain.specs.Mount.{blocks_in, stands}
use Rattle.r10_dirchain.specs.declared.chain.ChainBlock.{ChainBlock}
use Rattle.r10_dirchain.proofs.RulesAsFacts.{Stand, Stand-take, usable_of}
use Rattle.r10_volume.specs.Holding.{OpenState}
use Rattle.r10_refinement.specs.KeptState.{idle, recording}
use Rattle.r10_medium.specs.Disk.{Image, IsWhole}
use Rattle.r10_openfile.specs.Keeping.{ListsLast, ended_in}
use Rattle.r10_cursor.specs.JudgedFiles.{IsUnder}
use Rattle.r10_cursor.specs.Staying.{KeepListed}
use Rattle.r10_cursor.specs.declared.books.Books.{Books}
use Rattle.r10_cursor.specs.declared.judged_file.JudgedFile.{JudgedFile}
use Rattle.r10_control.specs.Owns.{AreJudged, OwnsBooks}
use Rattle.r10_machine.proofs.Said.{bytes_stay}
use Rattle.r10_volume.specs.Front.{KeepsFront}
use Rattle.r10_volume.specs.Listing.{block_behind}
use Rattle.r10_volume.specs.Mounting.{IsUsable}
use Rattle.r10_volume.proofs.Listed.{placed_at}

-- ---- bytes of the files in front

four : (a b c d : Bool) → (a && b && c && d) ≡ true → c ≡ true
four true true true d is = refl
four true true false d is = absurd (cc)
four true false c d is = absurd (cc)
four false b c d is = absurd (cc)

count_of : (blocks n : ℕ) (e : DirectoryEntry) → stands blocks n e ≡ true → e.block_count ≡ (e.size + 511) / 512
count_of blocks n e is = eqb-true e.block_count ((e.size + 511) / 512) (four (e.first_block == n) (nat_lt 0 e.size) (e.block_count == (e.size + 511) / 512) (nat_le (n + e.block_count) blocks) is)

pub front_keeps : (reserved first start : ℕ) (old new : Image) (entries : List DirectoryEntry) → IsWhole old → KeepsFront reserved first old new → reserved < start → Stand (length old) start entries → start + blocks_in entries ≤ first
    → KeepListed old new entries
front_keeps reserved first start old new [] whole same behind stand room = tt
front_keeps reserved first start old new (e ∷ entries) whole same behind stand room =
    let at = placed_at (length old) start e stand.0 in
    let count = count_of (length old) start e stand.0 in
    let sum = sum_by-cons (λ (x : DirectoryEntry). x.block_count) e entries in (
      bytes_stay old new e.first_block e.size whole same.size (λ k from to. same.blocks k (omega (arith, from, at.first, behind)) (omega (arith, to, at.first, count, room, sum))) (omega (arith, at.first, count, at.within)),
      front_keeps reserved first (start + e.block_count) old new entries whole same (omega (arith, behind)) stand.1 (omega (arith, room, sum)),
    )

-- ---- where the last of the files is

pub last_first : (blocks n first : ℕ) (entries : List DirectoryEntry) → Stand blocks n entries → IsSomeAnd (last_or None entries) (λ (e : DirectoryEntry). e.first_block ≡ first) → n + blocks_in (take (length entries - 1) entries) ≡ first
last_first blocks n first [] stand last = absurd last
last_first blocks n first (e ∷ []) stand last = let place = placed_at blocks n e stand.0 in omega (arith, place.first, last)
last_first blocks n first (e ∷ d ∷ entries) stand last =
    let rest = last_first blocks (n + e.block_count) first (d ∷ entries) stand.1 last in
    let front : blocks_in (take (length (e ∷ d ∷ entries) - 1) (e ∷ d ∷ entries)) ≡ e.block_count + blocks_in (take (length (d ∷ entries) - 1) (d ∷ entries)) =
    ap (λ (k : ℕ). blocks_in (take k (e ∷ d ∷ entries))) (one_more e d entries) ∙ sum_by-cons (λ (x : DirectoryEntry). x.block_count) e (take (length (d ∷ entries) - 1) (d ∷ entries)) in
    omega (arith, rest, front)
  where
    one_more : (e d : DirectoryEntry) (entries : List DirectoryEntry) → length (e ∷ d ∷ entries) - 1 ≡ suc (length (d ∷ entries) - 1)
    one_more e d entries = omega arith

-- ---- what is kept of a file

still_at : (n : ℕ) (old new : Image) (entries more : List DirectoryEntry) (k : JudgedFile) → KeepListed old new entries → IsSomeAnd (slice_get entries n) (λ e. IsUnder old e k) → IsSomeAnd (slice_get (entries ++ more) n) (λ e. IsUnder new e k)
still_at n old new [] more k keeps at = absurd at
still_at zero old new (e ∷ entries) more k keeps at = record { first = at.first; is_kept = rw keeps.0 at.is_kept }
still_at (suc n) old new (e ∷ entries) more k keeps at = still_at n old new entries more k keeps.1 at

still_judged : (old new : Image) (entries more : List DirectoryEntry) (judged : List JudgedFile) → KeepListed old new entries → AreJudged entries old judged → AreJudged (entries ++ more) new judged
still_judged old new entries more [] keeps are = tt
still_judged old new entries more (k ∷ judged) keeps are = (still_at k.file old new entries more k keeps are.0, still_judged old new entries more judged keeps are.1)

-- the files in front of the last one, and others after them
pub ended_stay : (reserved first : ℕ) (old new : Image) (chain : List ChainBlock) (more : List DirectoryEntry) (judged : List JudgedFile) → IsWhole old → IsUsable reserved old chain → ListsLast first chain → KeepsFront reserved first old new
    → AreJudged (ended_in chain) old judged → AreJudged (ended_in chain ++ more) new judged
ended_stay reserved first old new chain more judged whole usable last same are =
    let stand = (usable_of reserved (length old) chain usable.rules).stand in
    still_judged old new (ended_in chain) more judged
    (front_keeps reserved first (reserved + 1) old new (ended_in chain) whole same (omega arith) (Stand-take (length old) (reserved + 1) (length (listed_files chain) - 1) (listed_files chain) stand)
    (omega (arith, last_first (length old) (reserved + 1) first (listed_files chain) stand last)))
    are

-- ---- while a file is recorded

-- its calls, which leave the directory or list it anew
pub recording_stays : (reserved first : ℕ) (old new : Image) (chain made : List ChainBlock) (file later : OpenState) (books : Books) → IsWhole old → IsUsable reserved old chain → ListsLast first chain → KeepsFront reserved first old new
    → ended_in made ≡ ended_in chain → OwnsBooks (recording chain file) old books → OwnsBooks (recording made later) new books
recording_stays reserved first old new chain made file later books whole usable last same ended are =
    subst (λ (l : List DirectoryEntry). AreJudged l new books.kept.items) (append-nil (ended_in chain) ∙ sym ended) (ended_stay reserved first old new chain [] books.kept.items whole usable last same are)

-- a stop, after which it is one of the others
pub stopped_stays : (reserved first : ℕ) (old new : Image) (chain made : List ChainBlock) (file : OpenState) (books : Books) → IsWhole old → IsUsable reserved old chain → ListsLast first chain → KeepsFront reserved first old new
    → ended_in made ≡ ended_in chain → OwnsBooks (recording chain file) old books → OwnsBooks (idle made) new books
stopped_stays reserved first old new chain made file books whole usable last same ended are =
    let behind : List DirectoryEntry = drop (length (listed_files made) - 1) (listed_files made) in
    subst (λ (l : List DirectoryEntry). AreJudged l new books.kept.items) (ap (λ (l : List DirectoryEntry). l ++ behind) (sym ended) ∙ take-append-drop (length (listed_files made) - 1) (listed_files made))
    (ended_stay reserved first old new chain behind books.kept.items whole usable last same are)

-- ---- while none is recorded

abbrev end_at : ℕ → Option DirectoryEntry → ℕ
end_at k d = elim d [ None ↦ k | Some e ↦ e.first_block + e.block_count ]

behind_sum : (blocks n k : ℕ) (o : Option DirectoryEntry) (entries : List DirectoryEntry) → end_at k o ≡ n → Stand blocks n entries → end_at k (last_or o entries) ≡ n + blocks_in entries
behind_sum blocks n k o [] is stand = omega (arith, is)
behind_sum blocks n k o (e ∷ entries) is stand =
    let place = placed_at blocks n e stand.0 in
    omega (arith, behind_sum blocks (n + e.block_count) k (Some e) entries (omega (arith, place.first)) stand.1, sum_by-cons (λ (x : DirectoryEntry). x.block_count) e entries)

-- all files of a directory, where no block changes in front of the one after them
pub listed_keep : (reserved : ℕ) (old new : Image) (chain : List ChainBlock) → IsWhole old → IsUsable reserved old chain → KeepsFront reserved (block_behind reserved (listed_files chain)) old new → KeepListed old new (listed_files chain)
listed_keep reserved old new chain whole usable same =
    let stand = (usable_of reserved (length old) chain usable.rules).stand in
    front_keeps reserved (block_behind reserved (listed_files chain)) (reserved + 1) old new (listed_files chain) whole same (omega arith) stand
    (omega (arith, behind_sum (length old) (reserved + 1) (1 + reserved) None (listed_files chain) (omega arith) stand))

-- and others after them
pub listed_stay : (reserved : ℕ) (old new : Image) (chain : List ChainBlock) (more : List DirectoryEntry) (judged : List JudgedFile) → IsWhole old → IsUsable reserved old chain → KeepsFront reserved (block_behind reserved (listed_files chain)) old new
    → AreJudged (listed_files chain) old judged → AreJudged (listed_files chain ++ more) new judged
listed_stay reserved old new chain more judged whole usable same are = still_judged old new (listed_files chain) more judged (listed_keep reserved old new chain whole usable same) are

-- a start, which lists one more after them
pub started_stays : (reserved : ℕ) (old new : Image) (chain made : List ChainBlock) (file : OpenState) (books : Books) → IsWhole old → IsUsable reserved old chain → KeepsFront reserved (block_behind reserved (listed_files chain)) old new
    → ended_in made ≡ listed_files chain → OwnsBooks (idle chain) old books → OwnsBooks (recording made file) new books
started_stays reserved old new chain made file books whole usable same ended are =
    subst (λ (l : List DirectoryEntry). AreJudged l new books.kept.items) (append-nil (listed_files chain) ∙ sym ended) (listed_stay reserved old new chain [] books.kept.items whole usable same are)
