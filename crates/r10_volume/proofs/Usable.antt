-- A directory that a recorder can take into use stays one with another last file, or one more.
use Rattle.std.proofs.Common.{◌≡◌, ℕ, suc, ◌+◌, ◌-◌, ◌/◌, ◌<◌, ◌≤◌, Bool, true, ◌&&◌, List, [], ◌∷◌, length, take, Option, Some, None, refl, ap, ◌∙◌, subst, arith}
use Rattle.std.specs.Prelude.{nat_lt, nat_le, ◌==◌}
use Rattle.std.specs.List.{last_or}
use Rattle.std.proofs.lemmas.Bool.{le-leb, lt-ltb, eq-eqb}
use Rattle.std.proofs.lemmas.List.Sums.{sum_by-cons}
use Rattle.r10_medium.specs.Disk.{Image}
use Rattle.r10_dirblock.specs.declared.entry.Entry.{Entry}
use Rattle.r10_dirchain.specs.declared.chain.ChainBlock.{ChainBlock}
use Rattle.r10_dirchain.specs.Chain.{IsDirectory, listed_files}
use Rattle.r10_dirchain.specs.Mount.{blocks_in, stands}
use Rattle.r10_dirchain.specs.Steps.{updated}
use Rattle.r10_dirchain.proofs.RulesAsFacts.{Stand, usable_of}
use Rattle.r10_dirchain.proofs.Staying.{usable-updated}
use Rattle.r10_volume.specs.Mounting.{IsUsable}
use Rattle.r10_volume.proofs.Listed.{placed_at}

-- an entry that stands at a block
here : (blocks n : ℕ) (e : Entry) → e.first_block ≡ n → 0 < e.size → e.block_count ≡ (e.size + 511) / 512 → n + e.block_count ≤ blocks → stands blocks n e ≡ true
here blocks n e first some count within =
    four (e.first_block == n) (nat_lt 0 e.size) (e.block_count == (e.size + 511) / 512) (nat_le (n + e.block_count) blocks)
    (eq-eqb e.first_block n first) (lt-ltb 0 e.size some) (eq-eqb e.block_count ((e.size + 511) / 512) count) (le-leb (n + e.block_count) blocks within)
  where
    four : (a b c d : Bool) → a ≡ true → b ≡ true → c ≡ true → d ≡ true → (a && b && c && d) ≡ true
    four a b c d x y z w = rw (x, y, z, w) refl

-- where the last of these stands, and what comes after it
record IsLast (n : ℕ) (entries : List Entry) (e : Entry) : Type 0 where
  pub some : 0 < length entries
  pub first : e.first_block ≡ n + blocks_in (take (length entries - 1) entries)
  pub behind : e.first_block + e.block_count ≡ n + blocks_in entries

last_of : (blocks n : ℕ) (d e : Entry) (entries : List Entry) → Stand blocks n (d ∷ entries) → last_or None (d ∷ entries) ≡ Some e → IsLast n (d ∷ entries) e
last_of blocks n d e [] stand is =
    let same : d ≡ e = ap (λ (o : Option Entry). elim o [ None ↦ d | Some x ↦ x ]) is in
    let place = placed_at blocks n d stand.0 in
    subst (λ (x : Entry). IsLast n (d ∷ []) x) same (record { some = omega arith; first = omega (arith, place.first); behind = omega (arith, place.first, sum_by-cons (λ (c : Entry). c.block_count) d []) })
last_of blocks n d e (c ∷ entries) stand is =
    let rest = last_of blocks (n + d.block_count) c e entries stand.1 is in
    let front : blocks_in (take (length (d ∷ c ∷ entries) - 1) (d ∷ c ∷ entries)) ≡ d.block_count + blocks_in (take (length (c ∷ entries) - 1) (c ∷ entries)) =
    ap (λ (k : ℕ). blocks_in (take k (d ∷ c ∷ entries))) (one_more d c entries) ∙ sum_by-cons (λ (x : Entry). x.block_count) d (take (length (c ∷ entries) - 1) (c ∷ entries)) in
    record { some = omega arith; first = omega (arith, rest.first, front); behind = omega (arith, rest.behind, sum_by-cons (λ (x : Entry). x.block_count) d (c ∷ entries)) }
  where
    one_more : (d c : Entry) (entries : List Entry) → length (d ∷ c ∷ entries) - 1 ≡ suc (length (c ∷ entries) - 1)
    one_more d c entries = omega arith

last_in : (blocks n : ℕ) (e : Entry) (entries : List Entry) → Stand blocks n entries → last_or None entries ≡ Some e → IsLast n entries e
last_in blocks n e [] stand is = absurd (cc)
last_in blocks n e (d ∷ entries) stand is = last_of blocks n d e entries stand is

pub relisted_stays : (reserved : ℕ) (old new : Image) (chain : List ChainBlock) (e f : Entry) → IsUsable reserved old chain → last_or None (listed_files chain) ≡ Some e → f.first_block ≡ e.first_block
    → 0 < f.size → f.block_count ≡ (f.size + 511) / 512 → f.first_block + f.block_count ≤ length old → length new ≡ length old → IsDirectory new (updated f chain) → IsUsable reserved new (updated f chain)
relisted_stays reserved old new chain e f usable is first some count within same there =
    let last = last_in (length old) (reserved + 1) e (listed_files chain) (usable_of reserved (length old) chain usable.rules).stand is in
    let n = reserved + 1 + blocks_in (take (length (listed_files chain) - 1) (listed_files chain)) in
    record {
      directory = there;
      rules = rw same (usable-updated reserved (length old) f chain usable.rules last.some (here (length old) n f (omega (arith, first, last.first)) some count (omega (arith, first, last.first, within))));
    }
