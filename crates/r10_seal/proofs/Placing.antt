-- Where the last file of a directory stands that a recorder can use, and what stays while its blocks are written.
use Rattle.std.proofs.Common.{◌≡◌, ℕ, ◌+◌, ◌*◌, ◌/◌, ◌<◌, ◌≤◌, Bool, true, false, ◌&&◌, List, [], ◌∷◌, length, Option, Some, None, refl, sym, ap, subst, ◌∙◌, arith}
use Rattle.std.specs.Prelude.{nat_lt, nat_le, ◌==◌, IfSome}
use Rattle.std.specs.List.{All, last_or}
use Rattle.std.proofs.lemmas.Bool.{eqb-true, leb-true}
use Rattle.std.proofs.lemmas.List.Elements.{All-nil, All-cons, All-head, All-tail}
use Rattle.r10_count.specs.Checks.{first_broken}
use Rattle.r10_medium.specs.Disk.{Block, Image}
use Rattle.r10_medium.specs.PowerLoss.{SameBelow}
use Rattle.r10_blockout.specs.Blocks.{Shows}
use Rattle.r10_dirblock.specs.Block.{IsBlock}
use Rattle.r10_dirblock.specs.declared.entry.Entry.{Entry}
use Rattle.r10_dirchain.specs.declared.chain.ChainBlock.{ChainBlock}
use Rattle.r10_dirchain.specs.Chain.{HoldsBlock, IsDirectory, at, listed_files}
use Rattle.r10_dirchain.specs.Mount.{place_rules, stands}
use Rattle.r10_dirchain.specs.OnMedium.{Turned}
use Rattle.r10_dirchain.specs.Steps.{last_listing}
use Rattle.r10_dirchain.proofs.FileLists.{last_listing_is, last_of}
use Rattle.r10_dirchain.proofs.RulesAsFacts.{Stand, usable_of}
use Rattle.r10_dirchain.proofs.Usable.{place_rules_hold, placed}
use Rattle.r10_volume.proofs.Staying.{bytes_behind}
use Rattle.r10_volume.specs.Mounting.{IsUsable}
use Rattle.r10_count.proofs.Rules.{none_broken}

-- a file after the reserved blocks, whose bytes are inside the medium
pub record Placed (blocks reserved : ℕ) (e : Entry) : Type 0 where
  pub behind : reserved < e.first_block
  pub within : 512 * e.first_block + e.size ≤ 512 * blocks

placed_at : (blocks reserved n : ℕ) (e : Entry) → reserved < n → stands blocks n e ≡ true → Placed blocks reserved e
placed_at blocks reserved n e less is =
    let parts = all_four (e.first_block == n) (nat_lt 0 e.size) (e.block_count == (e.size + 511) / 512) (nat_le (n + e.block_count) blocks) is in
    let first : e.first_block ≡ n = eqb-true e.first_block n parts.0 in
    let count : e.block_count ≡ (e.size + 511) / 512 = eqb-true e.block_count ((e.size + 511) / 512) parts.1 in
    let inside : n + e.block_count ≤ blocks = leb-true (n + e.block_count) blocks parts.2 in
    record { behind = omega (arith, less, first); within = omega (arith, first, count, inside) }
  where
    all_four : (a b c d : Bool) → (a && b && c && d) ≡ true → (a ≡ true) × (c ≡ true) × (d ≡ true)
    all_four true true true d is = (refl, refl, is)
    all_four true true false d is = absurd (cc)
    all_four true false c d is = absurd (cc)
    all_four false b c d is = absurd (cc)

last_placed : (blocks reserved n : ℕ) (d : Option Entry) (entries : List Entry) → reserved < n → IfSome d (Placed blocks reserved) → Stand blocks n entries → IfSome (last_or d entries) (Placed blocks reserved)
last_placed blocks reserved n d [] less here stand = here
last_placed blocks reserved n d (e ∷ entries) less here stand =
    last_placed blocks reserved (n + e.block_count) (Some e) entries (omega (arith, less)) (placed_at blocks reserved n e less stand.0) stand.1

pub last_place : (reserved : ℕ) (image : Image) (chain : List ChainBlock) (e : Entry) → IsUsable reserved image chain → last_or None (listed_files chain) ≡ Some e → Placed (length image) reserved e
last_place reserved image chain e usable is =
    subst (λ (o : Option Entry). IfSome o (Placed (length image) reserved)) is
    (last_placed (length image) reserved (reserved + 1) None (listed_files chain) (omega arith) tt (usable_of reserved (length image) chain usable.rules).stand)

-- ---- the directory, while blocks after it are written

holds_stay : (old new : Image) (reserved n first : ℕ) (chain : List ChainBlock) → SameBelow first 0 old new → reserved < first → first_broken (place_rules reserved n chain) ≡ None → All (HoldsBlock old) chain → All (HoldsBlock new) chain
holds_stay old new reserved n first [] same less places all = All-nil (HoldsBlock new)
holds_stay old new reserved n first (b ∷ chain) same less places all =
    let at = placed reserved n (b ∷ chain) places 0 (omega arith) in
    let holds : HoldsBlock old b = All-head (HoldsBlock old) b chain all in
    All-cons (HoldsBlock new) b chain
    (record { within = omega (arith, holds.within, same.size); is = subst (λ (c : Block). IsBlock c b.block) (sym (same.blocks b.number (omega (arith, at.0, at.1, less)))) holds.is })
    (holds_stay old new reserved (n + 1) first chain same less (none_broken (b.number == n && nat_le n reserved) b.number (place_rules reserved (n + 1) chain) places).1 (All-tail (HoldsBlock old) b chain all))

pub directory_stays : (old new : Image) (reserved first : ℕ) (chain : List ChainBlock) → IsUsable reserved old chain → SameBelow first 0 old new → reserved < first → IsDirectory new chain
directory_stays old new reserved first chain usable same less =
    record { linked = usable.directory.linked; holds = holds_stay old new reserved 1 first chain same less (place_rules_hold reserved (length old) chain usable.rules) usable.directory.holds }

-- ---- the file, while the directory is written

some_files : (entries : List Entry) (e : Entry) → last_or None entries ≡ Some e → 0 < length entries
some_files [] e is = absurd (cc)
some_files (x ∷ entries) e is = omega arith

listing_reserved : (reserved : ℕ) (image : Image) (chain : List ChainBlock) (e : Entry) → IsUsable reserved image chain → last_or None (listed_files chain) ≡ Some e → (at chain (last_listing chain)).number ≤ reserved
listing_reserved reserved image chain e usable is =
    let found = last_of chain (some_files (listed_files chain) e is) in
    let place = placed reserved 1 chain (place_rules_hold reserved (length image) chain usable.rules) found.0 found.1.within in
    let number : (at chain (last_listing chain)).number ≡ 1 + found.0 = ap (λ (i : ℕ). (at chain i).number) (last_listing_is chain found.0 found.1) ∙ place.0 in
    omega (arith, number, place.1)

pub shown_still : (reserved : ℕ) (before old new : Image) (chain made : List ChainBlock) (e : Entry) (bytes : List ℕ) → IsUsable reserved before chain → last_or None (listed_files chain) ≡ Some e → reserved < e.first_block
    → Turned made ((at chain (last_listing chain)).number ∷ []) old new → Shows old e.first_block bytes → Shows new e.first_block bytes
shown_still reserved before old new chain made e bytes usable is less turned shows =
    let number = (at chain (last_listing chain)).number in
    let low : number ≤ reserved = listing_reserved reserved before chain e usable is in
    bytes_behind old new reserved e.first_block (length bytes) (number ∷ []) turned.others (All-cons (λ (n : ℕ). n ≤ reserved) number [] low (All-nil (λ (n : ℕ). n ≤ reserved))) less ∙ shows
