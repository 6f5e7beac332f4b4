-- A directory that a recorder can use stays one over a step.
use Rattle.std.proofs.Common.{◌≡◌, ℕ, zero, suc, ◌+◌, ◌-◌, ◌*◌, ◌<◌, ◌≤◌, Bool, true, false, if◌then◌else◌, ◌&&◌, ◌==◌, nat_le, List, [], ◌∷◌, ◌++◌, length, take, set, None, refl, sym, ap, ◌∙◌, subst, arith, length-append}
use Rattle.std.specs.List.{All}
use Rattle.std.proofs.lemmas.Bool.{le-leb, eq-eqb, leb-true, eqb-true}
use Rattle.std.proofs.lemmas.List.{take_at, take_all, take-set-le, length-set, length-take-le}
use Rattle.std.proofs.lemmas.List.Elements.{All-nil, All-cons, All-head, All-tail, All-more, All-set}
use Rattle.r10_count.specs.Checks.{first_broken}
use Rattle.r10_medium.specs.Disk.{Image}
use Rattle.r10_dirblock.specs.Block.{is_closed}
use Rattle.r10_dirblock.specs.declared.entry.Entry.{Entry}
use Rattle.r10_dirchain.specs.declared.chain.ChainBlock.{ChainBlock}
use Rattle.r10_dirchain.specs.Chain.{IsDirectory, listed_files, at, blank_block}
use Rattle.r10_dirchain.specs.Mount.{blocks_in, stands, place_rules, full_rule, mount_rules}
use Rattle.r10_dirchain.specs.Steps.{with_shutdown, emptied, with_last_entry, updated, last_listing, with_entry_more, extended, added, last_place, last_block, last_is_full, next_number, next_directory_block}
use Rattle.r10_dirchain.proofs.Directories.{some_block}
use Rattle.r10_dirchain.proofs.FileLists.{files-with_shutdown, files-updated, files-filled, files-extended, last_of, last_listing_is}
use Rattle.r10_dirchain.proofs.RulesAsFacts.{IsUsable, usable_of, usable_from, Stand, Stand-take, Stand-push, ButLastClosed}
use Rattle.r10_count.proofs.Rules.{none_broken}

-- ---- places

same_places : (reserved n : ℕ) (chain : List ChainBlock) (i : ℕ) (b : ChainBlock) → b.number ≡ (at chain i).number → place_rules reserved n (set chain i b) ≡ place_rules reserved n chain
same_places reserved n [] i b same = refl
same_places reserved n (x ∷ chain) zero b same = ap (λ (m : ℕ). (m == n && nat_le n reserved, m) ∷ place_rules reserved (n + 1) chain) same
same_places reserved n (x ∷ chain) (suc i) b same =
    ap (λ l. (x.number == n && nat_le n reserved, x.number) ∷ l) (same_places reserved (n + 1) chain i b same)

one_place : (reserved n : ℕ) (b : ChainBlock) → b.number ≡ n → n ≤ reserved → first_broken ((b.number == n && nat_le n reserved, b.number) ∷ []) ≡ None
one_place reserved n b here fits =
    ap (λ (t : Bool). first_broken ((t && nat_le n reserved, b.number) ∷ [])) (eq-eqb b.number n here)
    ∙ ap (λ (t : Bool). first_broken ((t, b.number) ∷ [])) (le-leb n reserved fits)

places_more : (reserved n : ℕ) (chain : List ChainBlock) (b : ChainBlock) → first_broken (place_rules reserved n chain) ≡ None → b.number ≡ n + length chain → n + length chain ≤ reserved
    → first_broken (place_rules reserved n (chain ++ b ∷ [])) ≡ None
places_more reserved n [] b none here fits = one_place reserved n b (omega (arith, here)) (omega (arith, fits))
places_more reserved n (x ∷ chain) b none here fits =
    let first = none_broken (x.number == n && nat_le n reserved) x.number (place_rules reserved (n + 1) chain) none in
    ap (λ (t : Bool). first_broken ((t, x.number) ∷ place_rules reserved (n + 1) (chain ++ b ∷ []))) first.0
    ∙ places_more reserved (n + 1) chain b first.1 (omega (arith, here)) (omega (arith, fits))

-- ---- full blocks

abbrev Full : ChainBlock → Type 0
Full b = (full_rule b).0 ≡ true

same_full : (chain : List ChainBlock) (i k : ℕ) (b : ChainBlock) → length b.block.entries ≡ length (at chain i).block.entries → All Full (take k chain) → All Full (take k (set chain i b))
same_full [] i k b same all = all
same_full (x ∷ chain) i zero b same all = All-nil Full
same_full (x ∷ chain) zero (suc k) b same all =
    All-cons Full b (take k chain) (ap (λ (n : ℕ). n == 4) same ∙ All-head Full x (take k chain) all) (All-tail Full x (take k chain) all)
same_full (x ∷ chain) (suc i) (suc k) b same all =
    All-cons Full x (take k (set chain i b)) (All-head Full x (take k chain) all) (same_full chain i k b same (All-tail Full x (take k chain) all))

full_count : (chain : List ChainBlock) → All Full chain → length (listed_files chain) ≡ 4 * length chain
full_count [] all = refl
full_count (x ∷ chain) all =
    omega (arith, length-append x.block.entries (listed_files chain), full_count chain (All-tail Full x chain all), eqb-true (length x.block.entries) 4 (All-head Full x chain all))

all_full : (chain : List ChainBlock) → 0 < length chain → All Full (take (length chain - 1) chain) → Full (last_block chain) → All Full chain
all_full chain some all here =
    subst (All Full) (take_all (length chain - 1 + 1) chain (omega (arith, some)))
    (All-more Full chain (length chain - 1) blank_block (omega (arith, some)) all here)

-- ---- the last entry

front-push : (entries : List Entry) (e : Entry) → take (length (entries ++ e ∷ []) - 1) (entries ++ e ∷ []) ≡ entries
front-push entries e = take_at entries (e ∷ []) (length (entries ++ e ∷ []) - 1) (omega (arith, length-append entries (e ∷ [])))

-- ---- the steps

-- the block at place i has another content, with as many entries
in_place : (reserved blocks : ℕ) (chain : List ChainBlock) (i : ℕ) (b : ChainBlock) → IsUsable reserved blocks chain → b.number ≡ (at chain i).number
    → length b.block.entries ≡ length (at chain i).block.entries → Stand blocks (reserved + 1) (listed_files (set chain i b)) → ButLastClosed (listed_files (set chain i b))
    → IsUsable reserved blocks (set chain i b)
in_place reserved blocks chain i b is number entries stand closed = record {
  placed = ap first_broken (same_places reserved 1 chain i b number) ∙ is.placed;
  full = subst (λ (n : ℕ). All Full (take (n - 1) (set chain i b))) (sym (length-set chain i b)) (same_full chain i (length chain - 1) b entries is.full);
  stand = stand;
  closed = closed;
}

pub usable-with_shutdown : (reserved blocks shutdown : ℕ) (chain : List ChainBlock) → first_broken (mount_rules reserved blocks chain) ≡ None
    → first_broken (mount_rules reserved blocks (with_shutdown shutdown chain)) ≡ None
usable-with_shutdown reserved blocks shutdown chain none =
    let is = usable_of reserved blocks chain none in
    let same = sym (files-with_shutdown shutdown chain) in
    usable_from reserved blocks (with_shutdown shutdown chain)
    (in_place reserved blocks chain 0 (record { number = (at chain 0).number; block = record (at chain 0).block { shutdown = shutdown } }) is refl refl
    (subst (Stand blocks (reserved + 1)) same is.stand) (subst ButLastClosed same is.closed))

pub usable-emptied : (reserved blocks : ℕ) (chain : List ChainBlock) → 1 ≤ reserved → first_broken (mount_rules reserved blocks (emptied chain)) ≡ None
usable-emptied reserved blocks chain some = usable_from reserved blocks (emptied chain) (record {
  placed = one_place reserved 1 (at (emptied chain) 0) refl some;
  full = All-nil Full;
  stand = tt;
  closed = All-nil (λ (e : Entry). is_closed e ≡ true);
})

pub usable-updated : (reserved blocks : ℕ) (entry : Entry) (chain : List ChainBlock) → first_broken (mount_rules reserved blocks chain) ≡ None → 0 < length (listed_files chain)
    → stands blocks (reserved + 1 + blocks_in (take (length (listed_files chain) - 1) (listed_files chain))) entry ≡ true
    → first_broken (mount_rules reserved blocks (updated entry chain)) ≡ None
usable-updated reserved blocks entry chain none some here =
    let is = usable_of reserved blocks chain none in
    let found = last_of chain some in
    let i = found.0 in
    let front = take (length (listed_files chain) - 1) (listed_files chain) in
    let b : ChainBlock = record { number = (at chain i).number; block = record (at chain i).block { entries = with_last_entry entry (at chain i).block.entries } } in
    let place : last_listing chain ≡ i = last_listing_is chain i found.1 in
    let same : listed_files (set chain i b) ≡ front ++ entry ∷ [] =
    ap (λ (j : ℕ). listed_files (set chain j (record { number = (at chain j).number; block = record (at chain j).block { entries = with_last_entry entry (at chain j).block.entries } }))) (sym place)
    ∙ files-updated entry chain some in
    subst (λ (j : ℕ). first_broken (mount_rules reserved blocks (set chain j (record { number = (at chain j).number; block = record (at chain j).block { entries = with_last_entry entry (at chain j).block.entries } }))) ≡ None) (sym place)
    (usable_from reserved blocks (set chain i b)
    (in_place reserved blocks chain i b is refl
    (omega (arith, found.1.lists, length-append (take (length (at chain i).block.entries - 1) (at chain i).block.entries) (entry ∷ []), length-take-le (length (at chain i).block.entries - 1) (at chain i).block.entries (omega arith)))
    (subst (Stand blocks (reserved + 1)) (sym same) (Stand-push blocks (reserved + 1) front entry (Stand-take blocks (reserved + 1) (length (listed_files chain) - 1) (listed_files chain) is.stand) here))
    (subst ButLastClosed (sym same) (subst (All (λ (e : Entry). is_closed e ≡ true)) (sym (front-push front entry)) is.closed))))

-- one file more
module _ (reserved blocks : ℕ) (entry : Entry) (image : Image) (chain : List ChainBlock) (there : IsDirectory image chain) (is : IsUsable reserved blocks chain)
    (closed : All (λ (e : Entry). is_closed e ≡ true) (listed_files chain)) (here : stands blocks (reserved + 1 + blocks_in (listed_files chain)) entry ≡ true) where
  some : 0 < length chain
  some = some_block image chain there

  stand_more : (l : List Entry) → l ≡ listed_files chain ++ entry ∷ [] → Stand blocks (reserved + 1) l
  stand_more l same = subst (Stand blocks (reserved + 1)) (sym same) (Stand-push blocks (reserved + 1) (listed_files chain) entry is.stand here)

  closed_more : (l : List Entry) → l ≡ listed_files chain ++ entry ∷ [] → ButLastClosed l
  closed_more l same = subst ButLastClosed (sym same) (subst (All (λ (e : Entry). is_closed e ≡ true)) (sym (front-push (listed_files chain) entry)) closed)

  usable-filled : first_broken (mount_rules reserved blocks (with_entry_more entry chain)) ≡ None
  usable-filled =
      let b : ChainBlock = record { number = (last_block chain).number; block = record (last_block chain).block { entries = (last_block chain).block.entries ++ entry ∷ [] } } in
      usable_from reserved blocks (with_entry_more entry chain) (record {
        placed = ap first_broken (same_places reserved 1 chain (last_place chain) b refl) ∙ is.placed;
        full = subst (λ (n : ℕ). All Full (take (n - 1) (set chain (last_place chain) b))) (sym (length-set chain (last_place chain) b))
            (subst (All Full) (sym (take-set-le (length chain - 1) chain (last_place chain) b (omega arith))) is.full);
        stand = stand_more (listed_files (with_entry_more entry chain)) (files-filled entry chain some);
        closed = closed_more (listed_files (with_entry_more entry chain)) (files-filled entry chain some);
      })

  usable-extended : last_is_full chain ≡ true → length (listed_files chain) < 4 * reserved → first_broken (mount_rules reserved blocks (extended entry chain)) ≡ None
  usable-extended is_full few =
      let b : ChainBlock = record { number = (last_block chain).number; block = record (last_block chain).block { forward = next_number chain } } in
      let held = there.holds (last_place chain) blank_block (omega (arith, some)) in
      let four : Full (last_block chain) =
      eq-eqb (length (last_block chain).block.entries) 4 (omega (arith, leb-true 4 (length (last_block chain).block.entries) is_full, held.is.head.entries)) in
      let all : All Full chain = all_full chain some is.full four in
      let others : All Full (set chain (last_place chain) b) = All-set Full chain (last_place chain) b four all in
      usable_from reserved blocks (extended entry chain) (record {
        placed = places_more reserved 1 (set chain (last_place chain) b) (next_directory_block entry chain) (ap first_broken (same_places reserved 1 chain (last_place chain) b refl) ∙ is.placed)
            (omega (arith, length-set chain (last_place chain) b)) (omega (arith, length-set chain (last_place chain) b, few, full_count chain all));
        full = subst (All Full)
            (sym (take_at (set chain (last_place chain) b) (next_directory_block entry chain ∷ []) (length (extended entry chain) - 1) (omega (arith, length-append (set chain (last_place chain) b) (next_directory_block entry chain ∷ []))))) others;
        stand = stand_more (listed_files (extended entry chain)) (files-extended entry chain some);
        closed = closed_more (listed_files (extended entry chain)) (files-extended entry chain some);
      })

  usable_either : length (listed_files chain) < 4 * reserved → (b : Bool) → last_is_full chain ≡ b → first_broken (mount_rules reserved blocks (if b then extended entry chain else with_entry_more entry chain)) ≡ None
  usable_either few true is_full = usable-extended is_full few
  usable_either few false is_full = usable-filled

pub usable-added : (reserved blocks : ℕ) (entry : Entry) (image : Image) (chain : List ChainBlock) → IsDirectory image chain → first_broken (mount_rules reserved blocks chain) ≡ None
    → All (λ (e : Entry). is_closed e ≡ true) (listed_files chain) → length (listed_files chain) < 4 * reserved
    → stands blocks (reserved + 1 + blocks_in (listed_files chain)) entry ≡ true
    → first_broken (mount_rules reserved blocks (added entry chain)) ≡ None
usable-added reserved blocks entry image chain there none closed few here =
    usable_either reserved blocks entry image chain there (usable_of reserved blocks chain none) closed here few (last_is_full chain) refl
