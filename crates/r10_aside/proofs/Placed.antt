-- A directory whose last file is closed as it is can be used again, and its last file is closed.
use Rattle.std.proofs.Common.{◌≡◌, ℕ, suc, ◌+◌, ◌-◌, ◌<◌, true, List, [], ◌∷◌, length, take, Option, Some, None, ap, sym, subst, ◌∙◌, arith}
use Rattle.std.specs.List.{last_or}
use Rattle.std.proofs.lemmas.List.Sums.{sum_by-cons}
use Rattle.r10_count.specs.Checks.{first_broken}
use Rattle.r10_medium.specs.Disk.{Image}
use Rattle.r10_dirblock.specs.Block.{is_closed}
use Rattle.r10_dirblock.specs.declared.entry.Entry.{Entry}
use Rattle.r10_dirchain.specs.Chain.{IsDirectory, listed_files}
use Rattle.r10_dirchain.specs.Mount.{blocks_in, mount_rules, stands}
use Rattle.r10_dirchain.specs.Steps.{entry_or_blank, updated}
use Rattle.r10_dirchain.specs.declared.chain.ChainBlock.{ChainBlock}
use Rattle.r10_dirchain.proofs.FileLists.{files-updated, last-append}
use Rattle.r10_dirchain.proofs.RulesAsFacts.{Stand, usable_of}
use Rattle.r10_dirchain.proofs.Staying.{usable-updated}
use Rattle.r10_volume.specs.Listing.{is_last_closed}
use Rattle.r10_volume.specs.Mounting.{IsUsable}
use Rattle.r10_aside.specs.Aside.{IsLastFileClosed, closed_as_is, with_last_aside}

-- where the last of entries stands that stand back to back
last_of : (blocks n : ℕ) (d e : Entry) (entries : List Entry) → Stand blocks n (d ∷ entries) → last_or None (d ∷ entries) ≡ Some e
    → stands blocks (n + blocks_in (take (length (d ∷ entries) - 1) (d ∷ entries))) e ≡ true
last_of blocks n d e [] stand is =
    let same : d ≡ e = ap (λ (o : Option Entry). elim o [ None ↦ d | Some x ↦ x ]) is in
    let here : n ≡ n + blocks_in (take (length (d ∷ []) - 1) (d ∷ [])) = omega arith in
    subst (λ (x : Entry). stands blocks (n + blocks_in (take (length (d ∷ []) - 1) (d ∷ []))) x ≡ true) same (subst (λ (m : ℕ). stands blocks m d ≡ true) here stand.0)
last_of blocks n d e (c ∷ entries) stand is =
    let rest = last_of blocks (n + d.block_count) c e entries stand.1 is in
    let front : blocks_in (take (length (d ∷ c ∷ entries) - 1) (d ∷ c ∷ entries)) ≡ d.block_count + blocks_in (take (length (c ∷ entries) - 1) (c ∷ entries)) =
    ap (λ (k : ℕ). blocks_in (take k (d ∷ c ∷ entries))) (one_more d c entries) ∙ sum_by-cons (λ (x : Entry). x.block_count) d (take (length (c ∷ entries) - 1) (c ∷ entries)) in
    let there : n + d.block_count + blocks_in (take (length (c ∷ entries) - 1) (c ∷ entries)) ≡ n + blocks_in (take (length (d ∷ c ∷ entries) - 1) (d ∷ c ∷ entries)) = omega (arith, front) in
    subst (λ (m : ℕ). stands blocks m e ≡ true) there rest
  where
    one_more : (d c : Entry) (entries : List Entry) → length (d ∷ c ∷ entries) - 1 ≡ suc (length (c ∷ entries) - 1)
    one_more d c entries = omega arith

last_stands : (blocks n : ℕ) (e : Entry) (entries : List Entry) → Stand blocks n entries → last_or None entries ≡ Some e
    → (0 < length entries) × (stands blocks (n + blocks_in (take (length entries - 1) entries)) e ≡ true)
last_stands blocks n e [] stand is = absurd (cc)
last_stands blocks n e (d ∷ entries) stand is = (omega arith, last_of blocks n d e entries stand is)

pub some_listed : (chain : List ChainBlock) (e : Entry) → last_or None (listed_files chain) ≡ Some e → 0 < length (listed_files chain)
some_listed chain e is = some (listed_files chain) e is
  where
    some : (entries : List Entry) (e : Entry) → last_or None entries ≡ Some e → 0 < length entries
    some [] e is = absurd (cc)
    some (x ∷ entries) e is = omega arith

usable_again : (reserved : ℕ) (old new : Image) (chain : List ChainBlock) (e : Entry) → IsUsable reserved old chain → last_or None (listed_files chain) ≡ Some e
    → length new ≡ length old → IsDirectory new (updated (closed_as_is e) chain) → IsUsable reserved new (updated (closed_as_is e) chain)
usable_again reserved old new chain e usable is same there =
    let place = last_stands (length old) (reserved + 1) e (listed_files chain) (usable_of reserved (length old) chain usable.rules).stand is in
    record {
      directory = there;
      rules = subst (λ (n : ℕ). first_broken (mount_rules reserved n (updated (closed_as_is e) chain)) ≡ None) (sym same)
          (usable-updated reserved (length old) (closed_as_is e) chain usable.rules place.0 place.1);
    }

closed_last : (chain : List ChainBlock) (e : Entry) → last_or None (listed_files chain) ≡ Some e → is_last_closed (listed_files (updated (closed_as_is e) chain)) ≡ true
closed_last chain e is =
    let front = take (length (listed_files chain) - 1) (listed_files chain) in
    ap is_last_closed (files-updated (closed_as_is e) chain (some_listed chain e is))
    ∙ ap (λ (o : Option Entry). elim o [ None ↦ true | Some x ↦ is_closed x ]) (last-append None front (closed_as_is e ∷ []))

-- the directory that lists the last file closed as it is
pub aside_is : (chain : List ChainBlock) (e : Entry) → last_or None (listed_files chain) ≡ Some e → updated (closed_as_is e) chain ≡ with_last_aside chain
aside_is chain e is = ap (λ (o : Option Entry). updated (closed_as_is (entry_or_blank o)) chain) (sym is)

-- a recorder can begin a file after the last one
pub closed_then : (reserved : ℕ) (old new : Image) (chain : List ChainBlock) (e : Entry) → IsUsable reserved old chain → last_or None (listed_files chain) ≡ Some e
    → length new ≡ length old → IsDirectory new (updated (closed_as_is e) chain) → IsLastFileClosed reserved new
closed_then reserved old new chain e usable is same there =
    record { chain = updated (closed_as_is e) chain; usable = usable_again reserved old new chain e usable is same there; closed = closed_last chain e is }
