-- The rules of a directory that a recorder can use, as facts of its files and blocks, and back.
use Rattle.std.proofs.Common.{◌≡◌, ℕ, zero, suc, ◌+◌, ◌-◌, Bool, true, false, List, [], ◌∷◌, ◌++◌, map, length, take, None, refl, sym, ap, ◌∙◌, subst, arith}
use Rattle.std.specs.List.{All}
use Rattle.std.proofs.lemmas.List.{length-map, map-append, take-map}
use Rattle.std.proofs.lemmas.List.Sums.{sum_by-cons}
use Rattle.std.proofs.lemmas.List.Elements.{All-cons, All-nil, All-head, All-tail, All-map}
use Rattle.r10_count.specs.Checks.{first_broken}
use Rattle.r10_dirblock.specs.Block.{is_closed}
use Rattle.r10_dirblock.specs.declared.entry.Entry.{Entry}
use Rattle.r10_dirchain.specs.declared.chain.ChainBlock.{ChainBlock}
use Rattle.r10_dirchain.specs.declared.chain.ListedFile.{ListedFile}
use Rattle.r10_dirchain.specs.Chain.{listed_files}
use Rattle.r10_dirchain.specs.Mount.{blocks_in, stands, stand_rules, closed_rule, closed_rules, listed, listed_in, place_rules, full_rule, full_rules, mount_rules}
use Rattle.r10_dirchain.proofs.Rules.{ends_with}
use Rattle.r10_dirchain.proofs.Usable.{front_holds}
use Rattle.r10_count.proofs.Rules.{none_broken}

-- ---- rules for each

pub each_from : {X F : Type 0} (rule : X → Bool × F) (xs : List X) → All (λ x. (rule x).0 ≡ true) xs → first_broken (map rule xs) ≡ None
each_from rule [] all = refl
each_from rule (x ∷ xs) all =
    ap (λ (b : Bool). first_broken ((b, (rule x).1) ∷ map rule xs)) (All-head (λ x. (rule x).0 ≡ true) x xs all) ∙ each_from rule xs (All-tail (λ x. (rule x).0 ≡ true) x xs all)

pub each_of : {X F : Type 0} (rule : X → Bool × F) (xs : List X) → first_broken (map rule xs) ≡ None → All (λ x. (rule x).0 ≡ true) xs
each_of rule [] none = All-nil (λ x. (rule x).0 ≡ true)
each_of rule (x ∷ xs) none =
    let here = none_broken (rule x).0 (rule x).1 (map rule xs) none in
    All-cons (λ x. (rule x).0 ≡ true) x xs here.0 (each_of rule xs here.1)

-- the back of rules that hold
pub back_holds : {F : Type 0} (xs ys : List (Bool × F)) → first_broken (xs ++ ys) ≡ None → first_broken ys ≡ None
back_holds [] ys none = none
back_holds ((true, f) ∷ xs) ys none = back_holds xs ys none
back_holds ((false, f) ∷ xs) ys none = absurd (cc)

-- ---- files one after the other

abbrev pub Stand : ℕ → ℕ → List Entry → Type 0
Stand blocks n [] = Unit {0}
Stand blocks n (e ∷ entries) = (stands blocks n e ≡ true) × Stand blocks (n + e.block_count) entries

abbrev pub entry_in : ListedFile → Entry
entry_in f = f.entry

stand_of : (blocks n : ℕ) (fs : List ListedFile) → first_broken (stand_rules blocks n fs) ≡ None → Stand blocks n (map entry_in fs)
stand_of blocks n [] none = tt
stand_of blocks n (f ∷ fs) none =
    let here = none_broken (stands blocks n f.entry) f.number (stand_rules blocks (n + f.entry.block_count) fs) none in
    (here.0, stand_of blocks (n + f.entry.block_count) fs here.1)

stand_from : (blocks n : ℕ) (fs : List ListedFile) → Stand blocks n (map entry_in fs) → first_broken (stand_rules blocks n fs) ≡ None
stand_from blocks n [] stand = refl
stand_from blocks n (f ∷ fs) stand =
    ap (λ (b : Bool). first_broken ((b, f.number) ∷ stand_rules blocks (n + f.entry.block_count) fs)) stand.0 ∙ stand_from blocks (n + f.entry.block_count) fs stand.1

entries_listed_in : (number : ℕ) (entries : List Entry) → map entry_in (map (listed_in number) entries) ≡ entries
entries_listed_in number [] = refl
entries_listed_in number (e ∷ entries) = ap (λ (l : List Entry). e ∷ l) (entries_listed_in number entries)

pub entries_listed : (chain : List ChainBlock) → map entry_in (listed chain) ≡ listed_files chain
entries_listed [] = refl
entries_listed (b ∷ chain) =
    map-append entry_in (map (listed_in b.number) b.block.entries) (listed chain)
    ∙ ap (λ (l : List Entry). l ++ map entry_in (listed chain)) (entries_listed_in b.number b.block.entries)
    ∙ ap (λ (l : List Entry). b.block.entries ++ l) (entries_listed chain)

pub Stand-take : (blocks n k : ℕ) (entries : List Entry) → Stand blocks n entries → Stand blocks n (take k entries)
Stand-take blocks n zero entries stand = tt
Stand-take blocks n (suc k) [] stand = tt
Stand-take blocks n (suc k) (e ∷ entries) stand = (stand.0, Stand-take blocks (n + e.block_count) k entries stand.1)

pub Stand-push : (blocks n : ℕ) (entries : List Entry) (e : Entry) → Stand blocks n entries → stands blocks (n + blocks_in entries) e ≡ true → Stand blocks n (entries ++ e ∷ [])
Stand-push blocks n [] e stand here = (subst (λ (m : ℕ). stands blocks m e ≡ true) (omega arith) here, tt)
Stand-push blocks n (x ∷ entries) e stand here =
    (stand.0, Stand-push blocks (n + x.block_count) entries e stand.1 (subst (λ (m : ℕ). stands blocks m e ≡ true) (omega (arith, sum_by-cons (λ (e : Entry). e.block_count) x entries)) here))

-- ---- all files but the last

All-unmap : {X Y : Type 0} (P : Y → Type 0) (f : X → Y) (xs : List X) → All P (map f xs) → All (λ x. P (f x)) xs
All-unmap P f [] all = All-nil (λ x. P (f x))
All-unmap P f (x ∷ xs) all = All-cons (λ x. P (f x)) x xs (All-head P (f x) (map f xs) all) (All-unmap P f xs (All-tail P (f x) (map f xs) all))

abbrev pub ButLastClosed : List Entry → Type 0
ButLastClosed entries = All (λ (e : Entry). is_closed e ≡ true) (take (length entries - 1) entries)

closed_of : (fs : List ListedFile) → first_broken (closed_rules fs) ≡ None → ButLastClosed (map entry_in fs)
closed_of fs none =
    subst (λ (k : ℕ). All (λ (e : Entry). is_closed e ≡ true) (take (k - 1) (map entry_in fs))) (sym (length-map fs entry_in))
    (subst (All (λ (e : Entry). is_closed e ≡ true)) (sym (take-map entry_in (length fs - 1) fs))
    (All-map (λ (e : Entry). is_closed e ≡ true) entry_in (take (length fs - 1) fs) (each_of closed_rule (take (length fs - 1) fs) none)))

closed_from : (fs : List ListedFile) → ButLastClosed (map entry_in fs) → first_broken (closed_rules fs) ≡ None
closed_from fs all =
    each_from closed_rule (take (length fs - 1) fs)
    (All-unmap (λ (e : Entry). is_closed e ≡ true) entry_in (take (length fs - 1) fs)
    (subst (All (λ (e : Entry). is_closed e ≡ true)) (take-map entry_in (length fs - 1) fs)
    (subst (λ (k : ℕ). All (λ (e : Entry). is_closed e ≡ true) (take (k - 1) (map entry_in fs))) (length-map fs entry_in) all)))

-- ---- all four rules

pub record IsUsable (reserved blocks : ℕ) (chain : List ChainBlock) : Type 0 where
  pub placed : first_broken (place_rules reserved 1 chain) ≡ None
  pub full : All (λ (b : ChainBlock). (full_rule b).0 ≡ true) (take (length chain - 1) chain)
  pub stand : Stand blocks (reserved + 1) (listed_files chain)
  pub closed : ButLastClosed (listed_files chain)

pub usable_of : (reserved blocks : ℕ) (chain : List ChainBlock) → first_broken (mount_rules reserved blocks chain) ≡ None → IsUsable reserved blocks chain
usable_of reserved blocks chain none =
    let places = place_rules reserved 1 chain in
    let full = full_rules chain in
    let stand = stand_rules blocks (reserved + 1) (listed chain) in
    let closed = closed_rules (listed chain) in
    let three : first_broken (places ++ full ++ stand) ≡ None = front_holds (places ++ full ++ stand) closed none in
    let two : first_broken (places ++ full) ≡ None = front_holds (places ++ full) stand three in
    record {
      placed = front_holds places full two;
      full = each_of full_rule (take (length chain - 1) chain) (back_holds places full two);
      stand = subst (Stand blocks (reserved + 1)) (entries_listed chain) (stand_of blocks (reserved + 1) (listed chain) (back_holds (places ++ full) stand three));
      closed = subst ButLastClosed (entries_listed chain) (closed_of (listed chain) (back_holds (places ++ full ++ stand) closed none));
    }

pub usable_from : (reserved blocks : ℕ) (chain : List ChainBlock) → IsUsable reserved blocks chain → first_broken (mount_rules reserved blocks chain) ≡ None
usable_from reserved blocks chain is =
    ends_with (place_rules reserved 1 chain) (full_rules chain) (stand_rules blocks (reserved + 1) (listed chain)) (closed_rules (listed chain)) None
    is.placed
    (each_from full_rule (take (length chain - 1) chain) is.full)
    (stand_from blocks (reserved + 1) (listed chain) (subst (Stand blocks (reserved + 1)) (sym (entries_listed chain)) is.stand))
    (closed_from (listed chain) (subst ButLastClosed (sym (entries_listed chain)) is.closed))
