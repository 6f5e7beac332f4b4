-- The files after a step.
use Rattle.std.proofs.Common.{◌≡◌, ℕ, zero, suc, ◌+◌, ◌-◌, ◌<◌, ◌≤◌, Bool, true, false, if◌then◌else◌, List, [], ◌∷◌, ◌++◌, length, take, drop, get_or, set, Option, Some, inl, inr, refl, sym, ap, ◌∙◌, arith, append_assoc, length-append, ◌==◌}
use Rattle.std.specs.List.{last_or}
use Rattle.std.proofs.Math.Seq.{take-append-add}
use Rattle.std.proofs.lemmas.Bool.{ne_eqb, cases_lt}
use Rattle.std.proofs.lemmas.List.{append-nil, drop_more}
use Rattle.std.proofs.lemmas.List.Concat.{flat_map-append}
use Rattle.std.proofs.lemmas.List.Sums.{suffix_len_is}
use Rattle.r10_dirblock.specs.declared.entry.Entry.{Entry}
use Rattle.r10_dirchain.specs.declared.chain.ChainBlock.{ChainBlock}
use Rattle.r10_dirchain.specs.Chain.{listed_files, at, blank_block}
use Rattle.r10_dirchain.specs.Steps.{with_shutdown, with_last_entry, lists_none, last_listing, updated, last_place, last_block, last_is_full, with_entry_more, next_number, next_directory_block, extended, added}

-- a block with the same entries
pub files-set_same : (chain : List ChainBlock) (i : ℕ) (b : ChainBlock) → i < length chain → b.block.entries ≡ (at chain i).block.entries → listed_files (set chain i b) ≡ listed_files chain
files-set_same [] i b lt same = refl
files-set_same (x ∷ chain) zero b lt same = ap (λ (l : List Entry). l ++ listed_files chain) same
files-set_same (x ∷ chain) (suc i) b lt same = ap (λ (l : List Entry). x.block.entries ++ l) (files-set_same chain i b (omega (arith, lt)) same)

-- the last block with one entry more
files-set_more : (chain : List ChainBlock) (i : ℕ) (b : ChainBlock) (entry : Entry) → i + 1 ≡ length chain → b.block.entries ≡ (at chain i).block.entries ++ entry ∷ []
    → listed_files (set chain i b) ≡ listed_files chain ++ entry ∷ []
files-set_more [] i b entry long more = absurd (omega (arith, long))
files-set_more (x ∷ []) zero b entry long more = append-nil b.block.entries ∙ more ∙ ap (λ (l : List Entry). l ++ entry ∷ []) (sym (append-nil x.block.entries))
files-set_more (x ∷ y ∷ chain) zero b entry long more = absurd (omega (arith, long))
files-set_more (x ∷ chain) (suc i) b entry long more =
    ap (λ (l : List Entry). x.block.entries ++ l) (files-set_more chain i b entry (omega (arith, long)) more) ∙ sym (append_assoc x.block.entries (listed_files chain) (entry ∷ []))

pub files-with_shutdown : (shutdown : ℕ) (chain : List ChainBlock) → listed_files (with_shutdown shutdown chain) ≡ listed_files chain
files-with_shutdown shutdown [] = refl
files-with_shutdown shutdown (x ∷ chain) = refl

pub files-filled : (entry : Entry) (chain : List ChainBlock) → 0 < length chain → listed_files (with_entry_more entry chain) ≡ listed_files chain ++ entry ∷ []
files-filled entry chain some = files-set_more chain (last_place chain) _ entry (omega (arith, some)) refl

pub files-extended : (entry : Entry) (chain : List ChainBlock) → 0 < length chain → listed_files (extended entry chain) ≡ listed_files chain ++ entry ∷ []
files-extended entry chain some =
    let linking : ChainBlock = record { number = (last_block chain).number; block = record (last_block chain).block { forward = next_number chain } } in
    flat_map-append (λ (b : ChainBlock). b.block.entries) (set chain (last_place chain) linking) (next_directory_block entry chain ∷ [])
    ∙ ap (λ (l : List Entry). l ++ entry ∷ []) (files-set_same chain (last_place chain) linking (omega (arith, some)) refl)

pub files-added : (entry : Entry) (chain : List ChainBlock) → 0 < length chain → listed_files (added entry chain) ≡ listed_files chain ++ entry ∷ []
files-added entry chain some = go (last_is_full chain)
  where
    go : (b : Bool) → listed_files (if b then extended entry chain else with_entry_more entry chain) ≡ listed_files chain ++ entry ∷ []
    go true = files-extended entry chain some
    go false = files-filled entry chain some

-- ---- another last file

with_last-append : (entry : Entry) (front entries : List Entry) → 0 < length entries → with_last_entry entry (front ++ entries) ≡ front ++ with_last_entry entry entries
with_last-append entry front entries some =
    ap (λ (n : ℕ). take n (front ++ entries) ++ entry ∷ []) (omega (arith, length-append front entries, some))
    ∙ ap (λ (l : List Entry). l ++ entry ∷ []) (take-append-add front entries (length entries - 1))
    ∙ append_assoc front (take (length entries - 1) entries) (entry ∷ [])

-- the block at place i lists the last file
pub record IsLast (chain : List ChainBlock) (i : ℕ) : Type 0 where
  pub within : i < length chain
  pub lists : 0 < length (at chain i).block.entries
  pub behind : listed_files (drop (suc i) chain) ≡ []
  pub empty : (k : ℕ) → suc i ≤ k → k < length chain → lists_none (get_or chain k blank_block) ≡ true

none_left : (xs ys : List Entry) → xs ++ ys ≡ [] → (xs ≡ []) × (ys ≡ [])
none_left [] ys none = (refl, none)
none_left (x ∷ xs) ys none = absurd (cc)

lists_nothing : (chain : List ChainBlock) → listed_files chain ≡ [] → (k : ℕ) → k < length chain → lists_none (get_or chain k blank_block) ≡ true
lists_nothing [] none k lt = absurd (omega (arith, lt))
lists_nothing (x ∷ chain) none zero lt = ap (λ (l : List Entry). length l == 0) (none_left x.block.entries (listed_files chain) none).0
lists_nothing (x ∷ chain) none (suc k) lt = lists_nothing chain (none_left x.block.entries (listed_files chain) none).1 k (omega (arith, lt))

nil_of : (entries : List Entry) → length entries ≡ 0 → entries ≡ []
nil_of [] none = refl
nil_of (x ∷ entries) none = absurd (omega (arith, none))

pub last_of : (chain : List ChainBlock) → 0 < length (listed_files chain) → (i : ℕ) × IsLast chain i
last_of [] some = absurd (omega (arith, some))
last_of (x ∷ chain) some = elim (cases_lt 0 (length (listed_files chain))) [
  | inl more ↦
      let found = last_of chain more in (
        suc found.0,
        record {
          within = omega (arith, found.1.within);
          lists = found.1.lists;
          behind = found.1.behind;
          empty = λ k. later found.0 found.1 k;
        },
      )
  | inr no_more ↦
      let none : listed_files chain ≡ [] = nil_of (listed_files chain) (omega (arith, no_more)) in (
        0,
        record {
          within = omega arith;
          lists = omega (arith, some, no_more, length-append x.block.entries (listed_files chain));
          behind = none;
          empty = λ k. first none k;
        },
      )
]
  where
    later : (i : ℕ) → IsLast chain i → (k : ℕ) → suc (suc i) ≤ k → k < length (x ∷ chain) → lists_none (get_or (x ∷ chain) k blank_block) ≡ true
    later i is zero le lt = absurd (omega (arith, le))
    later i is (suc k) le lt = is.empty k (omega (arith, le)) (omega (arith, lt))

    first : listed_files chain ≡ [] → (k : ℕ) → suc 0 ≤ k → k < length (x ∷ chain) → lists_none (get_or (x ∷ chain) k blank_block) ≡ true
    first none zero le lt = absurd (omega (arith, le))
    first none (suc k) le lt = lists_nothing chain none k (omega (arith, lt))

pub last_listing_is : (chain : List ChainBlock) (i : ℕ) → IsLast chain i → last_listing chain ≡ i
last_listing_is chain i is =
    omega (arith, is.within, suffix_len_is lists_none chain (suc i) blank_block (omega (arith, is.within)) is.empty (λ some. not_empty))
  where
    not_empty : lists_none (get_or chain (suc i - 1) blank_block) ≡ false
    not_empty = ap (λ (j : ℕ). lists_none (at chain j)) (omega arith) ∙ ne_eqb (length (at chain i).block.entries) 0 (λ none. omega (arith, is.lists, none))

files-set_last : (chain : List ChainBlock) (i : ℕ) (b : ChainBlock) (entry : Entry) → i < length chain → 0 < length (at chain i).block.entries → listed_files (drop (suc i) chain) ≡ []
    → b.block.entries ≡ with_last_entry entry (at chain i).block.entries → listed_files (set chain i b) ≡ with_last_entry entry (listed_files chain)
files-set_last [] i b entry lt lists behind same = absurd (omega (arith, lt))
files-set_last (x ∷ chain) zero b entry lt lists behind same =
    ap (λ (l : List Entry). b.block.entries ++ l) behind ∙ append-nil b.block.entries ∙ same
    ∙ ap (with_last_entry entry) (sym (append-nil x.block.entries)) ∙ ap (λ (l : List Entry). with_last_entry entry (x.block.entries ++ l)) (sym behind)
files-set_last (x ∷ chain) (suc i) b entry lt lists behind same =
    ap (λ (l : List Entry). x.block.entries ++ l) (files-set_last chain i b entry (omega (arith, lt)) lists behind same)
    ∙ sym (with_last-append entry x.block.entries (listed_files chain) (some_files chain i (omega (arith, lt)) lists))
  where
    some_files : (l : List ChainBlock) (k : ℕ) → k < length l → 0 < length (at l k).block.entries → 0 < length (listed_files l)
    some_files [] k less some = absurd (omega (arith, less))
    some_files (y ∷ l) zero less some = omega (arith, some, length-append y.block.entries (listed_files l))
    some_files (y ∷ l) (suc k) less some = omega (arith, some_files l k (omega (arith, less)) some, length-append y.block.entries (listed_files l))

pub files-updated : (entry : Entry) (chain : List ChainBlock) → 0 < length (listed_files chain) → listed_files (updated entry chain) ≡ with_last_entry entry (listed_files chain)
files-updated entry chain some =
    let found = last_of chain some in
    let i = found.0 in
    let is = found.1 in
    ap (λ (j : ℕ). listed_files (set chain j (record { number = (at chain j).number; block = record (at chain j).block { entries = with_last_entry entry (at chain j).block.entries } }))) (last_listing_is chain i is)
    ∙ files-set_last chain i (record { number = (at chain i).number; block = record (at chain i).block { entries = with_last_entry entry (at chain i).block.entries } }) entry is.within is.lists is.behind refl

-- ---- one block after another

-- the entries from a block on are its own and those after it
pub files_from : (chain : List ChainBlock) (i : ℕ) (b : ChainBlock) → i < length chain → b ≡ get_or chain i b → listed_files (drop i chain) ≡ b.block.entries ++ listed_files (drop (i + 1) chain)
files_from chain i b lt is = ap listed_files (drop_more chain i b lt ∙ ap (λ (c : ChainBlock). c ∷ drop (i + 1) chain) (sym is))

-- ---- the last file

pub last-append : {A : Type 0} (d : Option A) (xs ys : List A) → last_or d (xs ++ ys) ≡ last_or (last_or d xs) ys
last-append d [] ys = refl
last-append d (x ∷ xs) ys = last-append (Some x) xs ys

-- the last of entries by its place
pub last_at : (d : Option Entry) (entries : List Entry) (e : Entry) → 0 < length entries → e ≡ get_or entries (length entries - 1) e → Some e ≡ last_or d entries
last_at d [] e some is = absurd (omega (arith, some))
last_at d (x ∷ []) e some is = ap Some is
last_at d (x ∷ y ∷ entries) e some is = last_at (Some x) (y ∷ entries) e (omega arith) (is ∙ ap (λ (k : ℕ). get_or (x ∷ y ∷ entries) k e) one_more)
  where
    one_more : length (x ∷ y ∷ entries) - 1 ≡ suc (length (y ∷ entries) - 1)
    one_more = omega arith

pub last_left : (chain : List ChainBlock) (i : ℕ) (b : ChainBlock) (last now all : Option Entry) → i < length chain → b ≡ get_or chain i b → now ≡ last_or last b.block.entries
    → last_or last (listed_files (drop i chain)) ≡ all → last_or now (listed_files (drop (i + 1) chain)) ≡ all
last_left chain i b last now all lt is next done =
    ap (λ (o : Option Entry). last_or o (listed_files (drop (i + 1) chain))) next
    ∙ sym (last-append last b.block.entries (listed_files (drop (i + 1) chain)))
    ∙ ap (last_or last) (sym (files_from chain i b lt is))
    ∙ done
