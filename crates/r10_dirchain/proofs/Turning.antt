-- A step on a disk, from what its writes do.
use Rattle.std.proofs.Common.{Bool, false, if◌then◌else◌, ◌≡◌, ◌≢◌, ◌⊎◌, ℕ, ◌<◌, List, [], ◌∷◌, length, set, Result, Ok, Err, OnOk, inl, inr, ⊎_elim, refl, sym, ap, ◌∙◌, subst, arith}
use Rattle.std.specs.List.{All}
use Rattle.std.proofs.lemmas.List.Elements.{All-cons, All-nil, All-head, All-from_get_or}
use Rattle.r10_medium.specs.Disk.{Disk, Image, IsSynced, MayLeave, block_at}
use Rattle.r10_medium.specs.PowerLoss.{Settled, Leaves, ComesBy, SameBut}
use Rattle.r10_medium.proofs.PowerLoss.{weakened, reads_now, settled_reads}
use Rattle.r10_dirchain.specs.declared.chain.ChainBlock.{ChainBlock}
use Rattle.r10_dirchain.specs.Chain.{IsDirectory, at, blank_block}
use Rattle.r10_dirchain.specs.OnMedium.{SameButIn, Put, PutTwo, IsPublished, IsWrittenByteForByte, Turned, Turns, HasNext}
use Rattle.r10_dirblock.specs.Block.{block_bytes}
use Rattle.r10_dirblock.specs.declared.entry.Entry.{Entry}
use Rattle.r10_dirblock.specs.declared.block.DirBlock.{DirBlock}
use Rattle.r10_dirchain.specs.Steps.{formatted, replaced, emptied, with_shutdown, extended, last_place, last_block, next_number, next_directory_block, last_is_full, with_entry_more, added, spare}
use Rattle.r10_dirchain.proofs.Directories.{still_directory, turned_in, turned_alone, put_behind, written_behind, leading_to, some_block}

pub on_ok : {T E : Type 0} (result : Result T E) (P Q : Type 0) → (P → Q) → OnOk result P → OnOk result Q
on_ok (Ok x) P Q gives holds = gives holds
on_ok (Err e) P Q gives holds = holds

pub same_in : (numbers : List ℕ) (image : Image) → SameButIn numbers image image
same_in numbers image = record { size = refl; others = λ k none. refl }

pub but_in : (n : ℕ) (old new : Image) → SameBut n old new → SameButIn (n ∷ []) old new
but_in n old new same = record { size = same.size; others = λ k none. same.others k (All-head (λ (j : ℕ). k ≢ j) n [] none) }

-- a step, from what a power loss leaves, what is read and what an Ok says
pub turns_of : {T E : Type 0} (chain made : List ChainBlock) (unlinked changed : List ℕ) (old new : Disk) (result : Result T E) → IsDirectory old.blocks chain
    → ((i : ℕ) → i < length chain → All (λ (n : ℕ). (at chain i).number ≢ n) unlinked)
    → Leaves (λ image. ComesBy (SameButIn unlinked) old image ⊎ Turned made changed old.blocks image) old new
    → SameButIn unlinked old.blocks new.blocks ⊎ Turned made changed old.blocks new.blocks
    → OnOk result (Settled (Turned made changed old.blocks) new)
    → Turns chain made unlinked changed old new result
turns_of chain made unlinked changed old new result is none moments reads settled = record {
  moments = moments;
  either = λ here. weakened (λ image. ComesBy (SameButIn unlinked) old image ⊎ Turned made changed old.blocks image) (λ image. IsDirectory image chain ⊎ IsDirectory image made) old new
      (λ image. ⊎_elim (λ from. inl (still_directory from.0 image chain unlinked (here from.0 from.1) from.2 none)) (λ turned. inr turned.directory)) moments;
  reads = ⊎_elim (λ same. inl (record {
    directory = still_directory old.blocks new.blocks chain unlinked is same none;
    written = All-from_get_or (IsWrittenByteForByte unlinked new.blocks) chain blank_block (λ i lt. inl (none i lt));
    others = same;
  })) (λ turned. inr turned) reads;
  settled = settled;
}

-- what a step made is the medium's directory, which is synced
pub published : {T E : Type 0} (chain made now : List ChainBlock) (unlinked changed : List ℕ) (old new : Disk) (result : Result T E) → Turns chain made unlinked changed old new result → OnOk result (now ≡ made) → OnOk result (IsSynced new)
    → OnOk result (IsPublished now new)
published chain made now unlinked changed old new (Ok x) turns is synced = record {
  directory = subst (λ (l : List ChainBlock). IsDirectory new.blocks l) (sym is) (settled_reads (Turned made changed old.blocks) new turns.settled).directory;
  synced = synced;
}
published chain made now unlinked changed old new (Err e) turns is synced = tt

-- a step that puts one block
pub turns_once : {T E : Type 0} (chain made : List ChainBlock) (changed : List ℕ) (b : ChainBlock) (old new : Disk) (result : Result T E) → IsDirectory old.blocks chain
    → ((image : Image) → Put old.blocks b image → Turned made changed old.blocks image)
    → Leaves (λ image. MayLeave old image ⊎ Put old.blocks b image) old new
    → (new.blocks ≡ old.blocks) ⊎ Put old.blocks b new.blocks
    → OnOk result (Settled (Put old.blocks b) new)
    → Turns chain made [] changed old new result
turns_once chain made changed b old new result is turned moments reads settled =
    turns_of chain made [] changed old new result is (λ i lt. All-nil (λ (n : ℕ). (at chain i).number ≢ n))
    (weakened (λ image. MayLeave old image ⊎ Put old.blocks b image) (λ image. ComesBy (SameButIn []) old image ⊎ Turned made changed old.blocks image) old new
    (λ image. ⊎_elim (λ was. inl (image, was, same_in [] image)) (λ put. inr (turned image put))) moments)
    (⊎_elim (λ e. inl (subst (λ (l : Image). SameButIn [] old.blocks l) (sym e) (same_in [] old.blocks))) (λ put. inr (turned new.blocks put)) reads)
    (on_ok result _ _ (λ holds image now. turned image (holds image now)) settled)

-- a step that puts a block that nothing links to, and then the one that links to it
pub turns_twice : {T E : Type 0} (chain made : List ChainBlock) (changed : List ℕ) (next linking : ChainBlock) (old new : Disk) (result : Result T E) → IsDirectory old.blocks chain
    → ((i : ℕ) → i < length chain → (at chain i).number ≢ next.number)
    → ((image : Image) → PutTwo old.blocks next linking image → Turned made changed old.blocks image)
    → Leaves (λ image. ComesBy (SameBut next.number) old image ⊎ PutTwo old.blocks next linking image) old new
    → SameBut next.number old.blocks new.blocks ⊎ PutTwo old.blocks next linking new.blocks
    → OnOk result (Settled (PutTwo old.blocks next linking) new)
    → Turns chain made (next.number ∷ []) changed old new result
turns_twice chain made changed next linking old new result is free turned moments reads settled =
    turns_of chain made (next.number ∷ []) changed old new result is (λ i lt. All-cons (λ (n : ℕ). (at chain i).number ≢ n) next.number [] (free i lt) (All-nil (λ (n : ℕ). (at chain i).number ≢ n)))
    (weakened (λ image. ComesBy (SameBut next.number) old image ⊎ PutTwo old.blocks next linking image) (λ image. ComesBy (SameButIn (next.number ∷ [])) old image ⊎ Turned made changed old.blocks image) old new
    (λ image. ⊎_elim (λ from. inl (from.0, from.1, but_in next.number from.0 image from.2)) (λ put. inr (turned image put))) moments)
    (⊎_elim (λ same. inl (but_in next.number old.blocks new.blocks same)) (λ put. inr (turned new.blocks put)) reads)
    (on_ok result _ _ (λ holds image now. turned image (holds image now)) settled)

-- one block with another content and the same links
pub rewritten : {T E : Type 0} (chain : List ChainBlock) (i n : ℕ) (block : DirBlock) (old new : Disk) (result : Result T E) → IsDirectory old.blocks chain → i < length chain
    → n ≡ (at chain i).number → block.forward ≡ (at chain i).block.forward → block.reverse ≡ (at chain i).block.reverse
    → Leaves (λ image. MayLeave old image ⊎ Put old.blocks (record { number = n; block = block }) image) old new
    → (new.blocks ≡ old.blocks) ⊎ Put old.blocks (record { number = n; block = block }) new.blocks
    → OnOk result (Settled (Put old.blocks (record { number = n; block = block })) new)
    → Turns chain (replaced chain i block) [] ((at chain i).number ∷ []) old new result
rewritten chain i n block old new result is within here on behind =
    turns_once chain (replaced chain i block) ((at chain i).number ∷ []) (record { number = n; block = block }) old new result is
    (λ image put. subst (λ (j : ℕ). Turned (set chain i (record { number = j; block = block })) ((at chain i).number ∷ []) old.blocks image) here
    (turned_in old.blocks image chain i (record { number = n; block = block }) is within here on behind put))

-- block 1 alone
pub left_alone : {T E : Type 0} (chain : List ChainBlock) (b : ChainBlock) (old new : Disk) (result : Result T E) → IsDirectory old.blocks chain
    → b.number ≡ 1 → b.block.forward ≡ 1 → b.block.reverse ≡ 1
    → Leaves (λ image. MayLeave old image ⊎ Put old.blocks b image) old new
    → (new.blocks ≡ old.blocks) ⊎ Put old.blocks b new.blocks
    → OnOk result (Settled (Put old.blocks b) new)
    → Turns chain (b ∷ []) [] (1 ∷ []) old new result
left_alone chain b old new result is here on behind =
    turns_once chain (b ∷ []) (1 ∷ []) b old new result is (λ image put. turned_alone old.blocks image b here on behind put)

pub erased : {T E : Type 0} (chain : List ChainBlock) (block : DirBlock) (entries : List Entry) (old new : Disk) (result : Result T E) → IsDirectory old.blocks chain
    → block ≡ (at chain 0).block → entries ≡ []
    → Leaves (λ image. MayLeave old image ⊎ Put old.blocks (record { number = 1; block = record block { forward = 1; reverse = 1; entries = entries } }) image) old new
    → (new.blocks ≡ old.blocks) ⊎ Put old.blocks (record { number = 1; block = record block { forward = 1; reverse = 1; entries = entries } }) new.blocks
    → OnOk result (Settled (Put old.blocks (record { number = 1; block = record block { forward = 1; reverse = 1; entries = entries } })) new)
    → Turns chain (emptied chain) [] (1 ∷ []) old new result
erased chain block entries old new result is first none moments reads settled =
    subst (λ (l : List ChainBlock). Turns chain l [] (1 ∷ []) old new result) (emptied_is chain block entries first none)
    (left_alone chain (record { number = 1; block = record block { forward = 1; reverse = 1; entries = entries } }) old new result is refl refl refl moments reads settled)
  where
    emptied_is : (l : List ChainBlock) (d : DirBlock) (es : List Entry) → d ≡ (at l 0).block → es ≡ []
        → ◌≡◌ {A = List ChainBlock} (record { number = 1; block = record d { forward = 1; reverse = 1; entries = es } } ∷ []) (emptied l)
    emptied_is l d es a b = rw (a, b)

-- a step that writes no other block, where a power loss could leave either of two directories
pub either_of : {T E : Type 0} (chain made one other : List ChainBlock) (changed : List ℕ) (old new : Disk) (result : Result T E) → Turns chain made [] changed old new result
    → Settled (λ image. IsDirectory image one ⊎ IsDirectory image other) old
    → Leaves (λ image. (IsDirectory image one ⊎ IsDirectory image other) ⊎ IsDirectory image made) old new
either_of chain made one other changed old new result turns here =
    weakened (λ image. ComesBy (SameButIn []) old image ⊎ Turned made changed old.blocks image) (λ image. (IsDirectory image one ⊎ IsDirectory image other) ⊎ IsDirectory image made) old new
    (λ image. ⊎_elim
    (λ from. inl (⊎_elim (λ is. inl (still one from.0 image is from.2)) (λ is. inr (still other from.0 image is from.2)) (here from.0 from.1)))
    (λ turned. inr turned.directory)) turns.moments
  where
    still : (l : List ChainBlock) (a b : Image) → IsDirectory a l → SameButIn [] a b → IsDirectory b l
    still l a b is same = still_directory a b l [] is same (λ i lt. All-nil (λ (n : ℕ). (at l i).number ≢ n))

pub either_shutdown : {T E : Type 0} (chain one other : List ChainBlock) (shutdown : ℕ) (block : DirBlock) (changed : List ℕ) (old new : Disk) (result : Result T E)
    → block ≡ (at chain 0).block → Turns chain (replaced chain 0 (record block { shutdown = shutdown })) [] changed old new result
    → Settled (λ image. IsDirectory image one ⊎ IsDirectory image other) old
    → Leaves (λ image. (IsDirectory image one ⊎ IsDirectory image other) ⊎ IsDirectory image (with_shutdown shutdown chain)) old new
either_shutdown chain one other shutdown block changed old new result first turns here =
    subst (λ (d : DirBlock). Leaves (λ image. (IsDirectory image one ⊎ IsDirectory image other) ⊎ IsDirectory image (replaced chain 0 (record d { shutdown = shutdown }))) old new) first
    (either_of chain (replaced chain 0 (record block { shutdown = shutdown })) one other changed old new result turns here)

-- ---- one block more

-- what putting a block that nothing links to, and then the one that links to it, does
abbrev pub PutsLinked : {T E : Type 0} → ChainBlock → ChainBlock → Disk → Disk → Result T E → Type 0
PutsLinked next linking old new result =
    Leaves (λ image. ComesBy (SameBut next.number) old image ⊎ PutTwo old.blocks next linking image) old new
    × (SameBut next.number old.blocks new.blocks ⊎ PutTwo old.blocks next linking new.blocks)
    × OnOk result (Settled (PutTwo old.blocks next linking) new)

turned_on : (chain : List ChainBlock) (entry : Entry) (old new : Image) → IsDirectory old chain → HasNext old chain
    → PutTwo old (next_directory_block entry chain) (leading_to (next_number chain) chain) new
    → Turned (extended entry chain) ((last_block chain).number ∷ next_number chain ∷ []) old new
turned_on chain entry old new is has put = record {
  directory =
      let some = some_block old chain is in
      put_behind old new chain (last_place chain) (next_directory_block entry chain) is (omega (arith, some)) refl (λ k lt e. absurd (omega (arith, has.in_order k lt, lt, e))) refl refl put;
  written =
      let some = some_block old chain is in
      written_behind old new chain (next_directory_block entry chain) is (omega (arith, some)) (λ k lt e. absurd (omega (arith, has.in_order k lt, lt, e))) put;
  others = put.others;
}

concretely : {T E : Type 0} (chain : List ChainBlock) (entry : Entry) (old new : Disk) (result : Result T E) → IsDirectory old.blocks chain → HasNext old.blocks chain
    → PutsLinked (next_directory_block entry chain) (leading_to (next_number chain) chain) old new result
    → Turns chain (extended entry chain) (next_number chain ∷ []) ((last_block chain).number ∷ next_number chain ∷ []) old new result
concretely chain entry old new result is has puts =
    turns_twice chain (extended entry chain) ((last_block chain).number ∷ next_number chain ∷ []) (next_directory_block entry chain) (leading_to (next_number chain) chain) old new result is
    (λ i lt e. absurd (omega (arith, has.in_order i lt, lt, e)))
    (λ image put. turned_on chain entry old.blocks image is has put) puts.0 puts.1 puts.2

pub extended_by : {T E : Type 0} (chain : List ChainBlock) (entry : Entry) (next linking : ChainBlock) (old new : Disk) (result : Result T E) → IsDirectory old.blocks chain → HasNext old.blocks chain
    → next ≡ next_directory_block entry chain → linking ≡ leading_to next.number chain
    → PutsLinked next linking old new result
    → Turns chain (extended entry chain) (next_number chain ∷ []) ((last_block chain).number ∷ next_number chain ∷ []) old new result
extended_by chain entry next linking old new result is has a b puts =
    concretely chain entry old new result is has
    (subst (λ (m : ChainBlock). PutsLinked (next_directory_block entry chain) m old new result) (b ∙ ap (λ (n : ChainBlock). leading_to n.number chain) a)
    (subst (λ (n : ChainBlock). PutsLinked n linking old new result) a puts))

-- the last block has a place: the step is the one that puts the entry there
pub in_place : {T E : Type 0} (chain : List ChainBlock) (entry : Entry) (old new : Disk) (result : Result T E) → last_is_full chain ≡ false
    → Turns chain (with_entry_more entry chain) [] ((last_block chain).number ∷ []) old new result
    → Turns chain (added entry chain) (spare chain) ((last_block chain).number ∷ spare chain) old new result
in_place chain entry old new result is turns =
    subst (λ (b : Bool). Turns chain (if b then extended entry chain else with_entry_more entry chain) (if b then next_number chain ∷ [] else [])
    ((last_block chain).number ∷ (if b then next_number chain ∷ [] else [])) old new result) (sym is) turns

-- ---- a new directory

turned_new : (volume : List ℕ) (b : ChainBlock) (old image : Image) → b ∷ [] ≡ formatted volume → Put old b image → Turned (formatted volume) (1 ∷ []) old image
turned_new volume b old image is put =
    subst (λ (l : List ChainBlock). Turned l (1 ∷ []) old image) is
    (turned_alone old image b (ap (λ (l : List ChainBlock). (at l 0).number) is) (ap (λ (l : List ChainBlock). (at l 0).block.forward) is)
    (ap (λ (l : List ChainBlock). (at l 0).block.reverse) is) put)

pub formatted_moments : (volume : List ℕ) (b : ChainBlock) (old new : Disk) → b ∷ [] ≡ formatted volume
    → Leaves (λ image. MayLeave old image ⊎ Put old.blocks b image) old new
    → Leaves (λ image. MayLeave old image ⊎ Turned (formatted volume) (1 ∷ []) old.blocks image) old new
formatted_moments volume b old new is run =
    weakened (λ image. MayLeave old image ⊎ Put old.blocks b image) (λ image. MayLeave old image ⊎ Turned (formatted volume) (1 ∷ []) old.blocks image) old new
    (λ image. ⊎_elim (λ was. inl was) (λ put. inr (turned_new volume b old.blocks image is put))) run

pub formatted_settled : (volume : List ℕ) (b : ChainBlock) (old : Image) (new : Disk) → b ∷ [] ≡ formatted volume → Settled (Put old b) new
    → Settled (Turned (formatted volume) (1 ∷ []) old) new
formatted_settled volume b old new is holds image now = turned_new volume b old image is (holds image now)

-- what is read of block 1, where a power loss leaves one new block
pub formatted_bytes : (volume : List ℕ) (b : ChainBlock) (old : Image) (new : Disk) → b ∷ [] ≡ formatted volume → Settled (Put old b) new
    → block_at new.blocks 1 ≡ block_bytes (at (formatted volume) 0).block
formatted_bytes volume b old new is holds =
    subst (λ (l : List ChainBlock). block_at new.blocks (at l 0).number ≡ block_bytes (at l 0).block) is (holds new.blocks (reads_now new)).bytes
