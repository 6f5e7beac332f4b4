-- What one new block makes of a directory.
use Rattle.std.proofs.Common.{◌≡◌, ◌≢◌, ℕ, zero, suc, ◌+◌, ◌-◌, ◌<◌, List, [], ◌∷◌, ◌++◌, map, length, take, drop, get_or, set, true, Result, Ok, inl, inr, refl, sym, ap, ◌∙◌, subst, arith, length-drop, get_or-set_same, get_or-set_other}
use Rattle.std.specs.List.{All}
use Rattle.std.proofs.lemmas.Bool.{cases_eq, cases_lt}
use Rattle.std.proofs.lemmas.List.{map-set, map_push, length-map, set-get_or, get_or-map, length-set}
use Rattle.std.proofs.lemmas.List.Elements.{All-cons, All-nil, All-head, All-tail, All-drop, All-push, All-take, All-same, All-from_get_or}
use Rattle.r10_medium.specs.Disk.{Image, block_at}
use Rattle.r10_dirblock.specs.declared.entry.Entry.{Entry}
use Rattle.r10_dirblock.specs.declared.block.DirBlock.{DirBlock}
use Rattle.r10_dirblock.specs.declared.read.DirFault.{DirFault}
use Rattle.r10_dirblock.specs.Block.{read_block, has_room_for_size, HasRooms, IsBlock}
use Rattle.r10_dirblock.proofs.BlockFields.{only}
use Rattle.r10_dirchain.specs.declared.chain.ChainBlock.{ChainBlock}
use Rattle.r10_dirchain.specs.Chain.{Link, link, Linked, HoldsBlock, IsDirectory, blank_block, at}
use Rattle.r10_dirchain.specs.OnMedium.{SameButIn, Put, PutTwo, IsWrittenByteForByte, Turned}
use Rattle.r10_dirchain.specs.Steps.{last_place, last_block}

same_ok : (x y : DirBlock) (r : Result DirBlock DirFault) → r ≡ Ok x → r ≡ Ok y → x ≡ y
same_ok x y r a b = cc

-- bytes are one directory block
pub one_block : (bytes : List ℕ) (x y : DirBlock) → IsBlock bytes x → IsBlock bytes y → x ≡ y
one_block bytes x y a b = same_ok x y (read_block bytes) (only bytes x a) (only bytes y b)

pub same_block : (image : Image) (a b : ChainBlock) → HoldsBlock image a → HoldsBlock image b → a.number ≡ b.number → a.block ≡ b.block
same_block image a b ha hb e = one_block (block_at image b.number) a.block b.block (subst (λ (n : ℕ). IsBlock (block_at image n) a.block) e ha.is) hb.is

-- two chains from one block on have one length
same_length : (image : Image) (a b : List ChainBlock) (back p other q : ℕ) → All (HoldsBlock image) a → All (HoldsBlock image) b
    → Linked back p (map link a) → Linked other q (map link b) → p ≡ q → length a ≡ length b
same_length image [] b back p other q ha hb la lb e = absurd la
same_length image (x ∷ a) [] back p other q ha hb la lb e = absurd lb
same_length image (x ∷ []) (u ∷ []) back p other q ha hb la lb e = refl
same_length image (x ∷ []) (u ∷ v ∷ b) back p other q ha hb la lb e =
    let same = same_block image x u (All-head (HoldsBlock image) x [] ha) (All-head (HoldsBlock image) u (v ∷ b) hb) (la.0 ∙ e ∙ sym lb.0) in
    absurd (lb.2 (ap (λ (d : DirBlock). d.forward) (sym same) ∙ la.2 ∙ e))
same_length image (x ∷ y ∷ a) (u ∷ []) back p other q ha hb la lb e =
    let same = same_block image x u (All-head (HoldsBlock image) x (y ∷ a) ha) (All-head (HoldsBlock image) u [] hb) (la.0 ∙ e ∙ sym lb.0) in
    absurd (la.2 (ap (λ (d : DirBlock). d.forward) same ∙ lb.2 ∙ sym e))
same_length image (x ∷ y ∷ a) (u ∷ v ∷ b) back p other q ha hb la lb e =
    let same = same_block image x u (All-head (HoldsBlock image) x (y ∷ a) ha) (All-head (HoldsBlock image) u (v ∷ b) hb) (la.0 ∙ e ∙ sym lb.0) in
    ap suc (same_length image (y ∷ a) (v ∷ b) p x.block.forward q u.block.forward (All-tail (HoldsBlock image) x (y ∷ a) ha) (All-tail (HoldsBlock image) u (v ∷ b) hb) la.3 lb.3
    (ap (λ (d : DirBlock). d.forward) same))

linked_from : (chain : List ChainBlock) (back p i : ℕ) → Linked back p (map link chain) → i < length chain
    → (other : ℕ) × Linked other (at chain i).number (map link (drop i chain))
linked_from [] back p i l lt = absurd l
linked_from (x ∷ []) back p zero l lt = (back, subst (λ (n : ℕ). Linked back n (link x ∷ [])) (sym l.0) l)
linked_from (x ∷ []) back p (suc i) l lt = absurd (omega (arith, lt))
linked_from (x ∷ y ∷ chain) back p zero l lt = (back, subst (λ (n : ℕ). Linked back n (link x ∷ link y ∷ map link chain)) (sym l.0) l)
linked_from (x ∷ y ∷ chain) back p (suc i) l lt = linked_from (y ∷ chain) p x.block.forward i l.3 (omega (arith, lt))

-- no block stands twice in a chain
pub apart : (image : Image) (chain : List ChainBlock) → IsDirectory image chain → (i k : ℕ) → i < k → k < length chain → (at chain i).number ≢ (at chain k).number
apart image chain is i k lt within e =
    let a = linked_from chain 1 1 i is.linked (omega (arith, lt, within)) in
    let b = linked_from chain 1 1 k is.linked within in
    let same = same_length image (drop i chain) (drop k chain) a.0 (at chain i).number b.0 (at chain k).number
    (All-drop (HoldsBlock image) i chain is.holds) (All-drop (HoldsBlock image) k chain is.holds) a.1 b.1 e in
    absurd (omega (arith, same, lt, within, length-drop i chain, length-drop k chain))

pub other_number : (image : Image) (chain : List ChainBlock) → IsDirectory image chain → (i k : ℕ) → i < length chain → k < length chain → k ≢ i → (at chain k).number ≢ (at chain i).number
other_number image chain is i k here there differs = elim (cases_lt k i) [
  | inl below ↦ apart image chain is k i below here
  | inr above ↦ λ e. apart image chain is i k (omega (arith, above, differs)) there (sym e)
]

same_link : (number f b g c : ℕ) → f ≡ g → b ≡ c → ◌≡◌ {A = Link} (record { number = number; forward = f; back = b }) (record { number = number; forward = g; back = c })
same_link number f b g c x y = rw (x, y)

-- a block stays where its bytes do
pub still_holds : (old new : Image) (b : ChainBlock) → HoldsBlock old b → length new ≡ length old → block_at new b.number ≡ block_at old b.number → HoldsBlock new b
still_holds old new b was size same = record {
  within = omega (arith, was.within, size);
  is = subst (λ (bytes : List ℕ). IsBlock bytes b.block) (sym same) was.is;
}

-- a directory stays where nothing is written to its blocks
pub still_directory : (old new : Image) (chain : List ChainBlock) (numbers : List ℕ) → IsDirectory old chain → SameButIn numbers old new
    → ((i : ℕ) → i < length chain → All (λ (n : ℕ). (at chain i).number ≢ n) numbers) → IsDirectory new chain
still_directory old new chain numbers is same none = record {
  linked = is.linked;
  holds = All-from_get_or (HoldsBlock new) chain blank_block (λ i lt. still_holds old new (at chain i) (is.holds i blank_block lt) same.size (same.others (at chain i).number (none i lt)));
}

-- a new block with the same links
pub put_in : (old new : Image) (chain : List ChainBlock) (i : ℕ) (b : ChainBlock) → IsDirectory old chain → i < length chain
    → b.number ≡ (at chain i).number → b.block.forward ≡ (at chain i).block.forward → b.block.reverse ≡ (at chain i).block.reverse
    → Put old b new → IsDirectory new (set chain i b)
put_in old new chain i b is within here on behind put = record {
  linked = subst (Linked 1 1) (sym (map-set link chain i b ∙ ap (set (map link chain) i) (ap (λ (n : ℕ). record { number = n; forward = b.block.forward; back = b.block.reverse }) here ∙ same_link (at chain i).number _ _ _ _ on behind ∙ sym (get_or-map link chain i blank_block (link blank_block) within))
      ∙ set-get_or (map link chain) i (link blank_block))) is.linked;
  holds = All-from_get_or (HoldsBlock new) (set chain i b) blank_block each;
}
  where
    each : (k : ℕ) → k < length (set chain i b) → HoldsBlock new (get_or (set chain i b) k blank_block)
    each k lt = elim (cases_eq k i) [
      | inl same ↦ subst (λ (j : ℕ). HoldsBlock new (get_or (set chain i b) j blank_block)) (sym same)
          (subst (HoldsBlock new) (sym (get_or-set_same chain i b blank_block within)) put.holds)
      | inr differs ↦
          let there : k < length chain = omega (arith, lt, length-set chain i b) in
          subst (HoldsBlock new) (sym (get_or-set_other chain i k b blank_block differs))
          (still_holds old new (at chain k) (is.holds k blank_block there) put.others.size
          (put.others.others (at chain k).number (λ e. other_number old chain is i k within there differs (e ∙ here))))
    ]

-- one block that links to itself
pub put_alone : (old new : Image) (b : ChainBlock) → b.number ≡ 1 → b.block.forward ≡ 1 → b.block.reverse ≡ 1 → Put old b new
    → IsDirectory new (b ∷ [])
put_alone old new b here on behind put = record {
  linked = (here, behind, on);
  holds = All-cons (HoldsBlock new) b [] put.holds (All-nil (HoldsBlock new));
}

but_one : (n m : ℕ) (old new : Image) (b : ChainBlock) → b.number ≡ n → Put old b new → SameButIn (n ∷ []) old new
but_one n m old new b here put = record {
  size = put.others.size;
  others = λ k all. put.others.others k (λ e. All-head (λ (j : ℕ). k ≢ j) n [] all (e ∙ here));
}

-- the new block alone is written
written_in : (old new : Image) (chain : List ChainBlock) (i : ℕ) (b : ChainBlock) → IsDirectory old chain → i < length chain → Put old b new
    → All (IsWrittenByteForByte ((at chain i).number ∷ []) new) (set chain i b)
written_in old new chain i b is within put = All-from_get_or (IsWrittenByteForByte ((at chain i).number ∷ []) new) (set chain i b) blank_block each
  where
    each : (k : ℕ) → k < length (set chain i b) → IsWrittenByteForByte ((at chain i).number ∷ []) new (get_or (set chain i b) k blank_block)
    each k lt = elim (cases_eq k i) [
      | inl same ↦ subst (λ (j : ℕ). IsWrittenByteForByte ((at chain i).number ∷ []) new (get_or (set chain i b) j blank_block)) (sym same)
          (subst (IsWrittenByteForByte ((at chain i).number ∷ []) new) (sym (get_or-set_same chain i b blank_block within)) (inr put.bytes))
      | inr differs ↦
          subst (IsWrittenByteForByte ((at chain i).number ∷ []) new) (sym (get_or-set_other chain i k b blank_block differs))
          (inl (All-cons (λ (n : ℕ). (at chain k).number ≢ n) (at chain i).number []
          (other_number old chain is i k within (omega (arith, lt, length-set chain i b)) differs) (All-nil (λ (n : ℕ). (at chain k).number ≢ n))))
    ]

pub turned_in : (old new : Image) (chain : List ChainBlock) (i : ℕ) (b : ChainBlock) → IsDirectory old chain → i < length chain
    → b.number ≡ (at chain i).number → b.block.forward ≡ (at chain i).block.forward → b.block.reverse ≡ (at chain i).block.reverse
    → Put old b new → Turned (set chain i b) ((at chain i).number ∷ []) old new
turned_in old new chain i b is within here on behind put =
    record {
      directory = put_in old new chain i b is within here on behind put;
      written = written_in old new chain i b is within put;
      others = but_one (at chain i).number 0 old new b here put;
    }

pub turned_alone : (old new : Image) (b : ChainBlock) → b.number ≡ 1 → b.block.forward ≡ 1 → b.block.reverse ≡ 1 → Put old b new
    → Turned (b ∷ []) (1 ∷ []) old new
turned_alone old new b here on behind put = record {
  directory = put_alone old new b here on behind put;
  written = All-cons (IsWrittenByteForByte (1 ∷ []) new) b [] (inr put.bytes) (All-nil (IsWrittenByteForByte (1 ∷ []) new));
  others = but_one 1 0 old new b here put;
}

-- a chain has a first block
pub some_block : (image : Image) (chain : List ChainBlock) → IsDirectory image chain → 0 < length chain
some_block image [] is = absurd is.linked
some_block image (x ∷ chain) is = omega arith

-- each entry of a block that is there has room
pub rooms_held : (image : Image) (chain : List ChainBlock) (i : ℕ) → IsDirectory image chain → i < length chain → HasRooms (at chain i).block
rooms_held image chain i is within = (is.holds i blank_block within).is.rooms

-- so has each where one with room is put after them
pub rooms_more : (image : Image) (chain : List ChainBlock) (i : ℕ) (block : DirBlock) (entries : List Entry) (entry : Entry) → IsDirectory image chain → i < length chain
    → block ≡ (at chain i).block → entries ≡ block.entries ++ entry ∷ [] → has_room_for_size entry ≡ true → All (λ (e : Entry). has_room_for_size e ≡ true) entries
rooms_more image chain i block entries entry is within same pushed room =
    All-same (λ (e : Entry). has_room_for_size e ≡ true) entries (block.entries ++ entry ∷ []) pushed
    (All-push (λ (e : Entry). has_room_for_size e ≡ true) block.entries entry (subst HasRooms (sym same) (rooms_held image chain i is within)) room)

-- or in place of the last
pub rooms_last : (image : Image) (chain : List ChainBlock) (i : ℕ) (block : DirBlock) (popped entries : List Entry) (entry : Entry) → IsDirectory image chain → i < length chain
    → block ≡ (at chain i).block → popped ≡ take (length block.entries - 1) block.entries → entries ≡ popped ++ entry ∷ [] → has_room_for_size entry ≡ true
    → All (λ (e : Entry). has_room_for_size e ≡ true) entries
rooms_last image chain i block popped entries entry is within same taken pushed room =
    All-same (λ (e : Entry). has_room_for_size e ≡ true) entries (popped ++ entry ∷ []) pushed
    (All-push (λ (e : Entry). has_room_for_size e ≡ true) popped entry
    (All-same (λ (e : Entry). has_room_for_size e ≡ true) popped (take (length block.entries - 1) block.entries) taken
    (All-take (λ (e : Entry). has_room_for_size e ≡ true) (length block.entries - 1) block.entries (subst HasRooms (sym same) (rooms_held image chain i is within)))) room)

-- ---- one block more

-- the last link leads on to one more
linked_on : (ls : List Link) (back p i n : ℕ) (last m none : Link) → Linked back p ls → i + 1 ≡ length ls → last ≡ get_or ls i none
    → n ≢ last.number → m.number ≡ n → m.back ≡ last.number → m.forward ≡ n
    → Linked back p (set ls i (record { number = last.number; forward = n; back = last.back }) ++ m ∷ [])
linked_on [] back p i n last m none l len is differs here behind on = absurd l
linked_on (x ∷ []) back p zero n last m none l len is differs here behind on =
    let same : last.number ≡ p = ap (λ (k : Link). k.number) is ∙ l.0 in
    (same, ap (λ (k : Link). k.back) is ∙ l.1, λ e. differs (e ∙ sym same), (here, behind ∙ same, on))
linked_on (x ∷ []) back p (suc i) n last m none l len is differs here behind on = absurd (omega (arith, len))
linked_on (x ∷ y ∷ ls) back p zero n last m none l len is differs here behind on = absurd (omega (arith, len))
linked_on (x ∷ y ∷ []) back p (suc zero) n last m none l len is differs here behind on =
    (l.0, l.1, l.2, linked_on (y ∷ []) p x.forward zero n last m none l.3 (omega (arith, len)) is differs here behind on)
linked_on (x ∷ y ∷ []) back p (suc (suc i)) n last m none l len is differs here behind on = absurd (omega (arith, len))
linked_on (x ∷ y ∷ z ∷ ls) back p (suc zero) n last m none l len is differs here behind on = absurd (omega (arith, len))
linked_on (x ∷ y ∷ z ∷ ls) back p (suc (suc i)) n last m none l len is differs here behind on =
    (l.0, l.1, l.2, linked_on (y ∷ z ∷ ls) p x.forward (suc i) n last m none l.3 (omega (arith, len)) is differs here behind on)

-- the last block with a forward link to block n
abbrev pub leading_to : ℕ → List ChainBlock → ChainBlock
leading_to n chain = record { number = (last_block chain).number; block = record (last_block chain).block { forward = n } }

pub put_behind : (old new : Image) (chain : List ChainBlock) (i : ℕ) (next : ChainBlock) → IsDirectory old chain → i + 1 ≡ length chain → i ≡ last_place chain
    → ((k : ℕ) → k < length chain → (at chain k).number ≢ next.number)
    → next.block.forward ≡ next.number → next.block.reverse ≡ (last_block chain).number
    → PutTwo old next (leading_to next.number chain) new
    → IsDirectory new (set chain (last_place chain) (leading_to next.number chain) ++ next ∷ [])
put_behind old new chain i next is long place free on behind put = record {
  linked = subst (λ (ls : List Link). Linked 1 1 ls)
      (sym (map_push link (set chain (last_place chain) b) next ∙ ap (λ (ls : List Link). ls ++ link next ∷ []) (map-set link chain (last_place chain) b)))
      (subst (λ (j : ℕ). Linked 1 1 (set (map link chain) j (link b) ++ link next ∷ [])) place
      (linked_on (map link chain) 1 1 i next.number (link (last_block chain)) (link next) (link blank_block) is.linked (omega (arith, long, length_map))
      (ap (λ (j : ℕ). link (at chain j)) (sym place) ∙ sym (get_or-map link chain i blank_block (link blank_block) within))
      (λ e. free (last_place chain) last_within (sym e)) refl behind on));
  holds = All-push (HoldsBlock new) (set chain (last_place chain) b) next (All-from_get_or (HoldsBlock new) (set chain (last_place chain) b) blank_block each) put.next_holds;
}
  where
    b : ChainBlock
    b = leading_to next.number chain

    within : i < length chain
    within = omega (arith, long)

    last_within : last_place chain < length chain
    last_within = omega (arith, within, place)

    length_map : length (map link chain) ≡ length chain
    length_map = length-map chain link

    each : (k : ℕ) → k < length (set chain (last_place chain) b) → HoldsBlock new (get_or (set chain (last_place chain) b) k blank_block)
    each k lt = elim (cases_eq k (last_place chain)) [
      | inl same ↦ subst (λ (j : ℕ). HoldsBlock new (get_or (set chain (last_place chain) b) j blank_block)) (sym same)
          (subst (HoldsBlock new) (sym (get_or-set_same chain (last_place chain) b blank_block last_within)) put.linking_holds)
      | inr differs ↦
          let there : k < length chain = omega (arith, lt, length-set chain (last_place chain) b) in
          subst (HoldsBlock new) (sym (get_or-set_other chain (last_place chain) k b blank_block differs))
          (still_holds old new (at chain k) (is.holds k blank_block there) put.others.size
          (put.others.others (at chain k).number
          (All-cons (λ (n : ℕ). (at chain k).number ≢ n) b.number (next.number ∷ []) (other_number old chain is (last_place chain) k last_within there differs)
          (All-cons (λ (n : ℕ). (at chain k).number ≢ n) next.number [] (free k there) (All-nil (λ (n : ℕ). (at chain k).number ≢ n))))))
    ]

-- the last block, which now leads on, and the new one are written
pub written_behind : (old new : Image) (chain : List ChainBlock) (next : ChainBlock) → IsDirectory old chain → last_place chain < length chain
    → ((k : ℕ) → k < length chain → (at chain k).number ≢ next.number)
    → PutTwo old next (leading_to next.number chain) new
    → All (IsWrittenByteForByte ((last_block chain).number ∷ next.number ∷ []) new) (set chain (last_place chain) (leading_to next.number chain) ++ next ∷ [])
written_behind old new chain next is last_within free put =
    All-push (IsWrittenByteForByte (b.number ∷ next.number ∷ []) new) (set chain (last_place chain) b) next
    (All-from_get_or (IsWrittenByteForByte (b.number ∷ next.number ∷ []) new) (set chain (last_place chain) b) blank_block each) (inr put.next_bytes)
  where
    b : ChainBlock
    b = leading_to next.number chain

    each : (k : ℕ) → k < length (set chain (last_place chain) b) → IsWrittenByteForByte (b.number ∷ next.number ∷ []) new (get_or (set chain (last_place chain) b) k blank_block)
    each k lt = elim (cases_eq k (last_place chain)) [
      | inl same ↦ subst (λ (j : ℕ). IsWrittenByteForByte (b.number ∷ next.number ∷ []) new (get_or (set chain (last_place chain) b) j blank_block)) (sym same)
          (subst (IsWrittenByteForByte (b.number ∷ next.number ∷ []) new) (sym (get_or-set_same chain (last_place chain) b blank_block last_within)) (inr put.linking_bytes))
      | inr differs ↦
          let there : k < length chain = omega (arith, lt, length-set chain (last_place chain) b) in
          subst (IsWrittenByteForByte (b.number ∷ next.number ∷ []) new) (sym (get_or-set_other chain (last_place chain) k b blank_block differs))
          (inl
          (All-cons (λ (n : ℕ). (at chain k).number ≢ n) b.number (next.number ∷ []) (other_number old chain is (last_place chain) k last_within there differs)
          (All-cons (λ (n : ℕ). (at chain k).number ≢ n) next.number [] (free k there) (All-nil (λ (n : ℕ). (at chain k).number ≢ n)))))
    ]
