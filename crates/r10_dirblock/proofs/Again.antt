-- What is written is read again, and what was read may be written.
use Rattle.std.proofs.Common.{◌≡◌, ℕ, zero, suc, ◌+◌, ◌*◌, ◌<◌, ◌≤◌, Bool, true, false, List, [], ◌∷◌, ◌++◌, length, take, drop, map, get_or, nat_le, ◌==◌, Ok, Option, None, refl, sym, ap, ◌∙◌, arith, rules}
use Rattle.std.proofs.lemmas.List.{append_assoc, length-append, take_at, drop_at, drop-drop, get_or-drop}
use Rattle.std.proofs.lemmas.List.FromFn.{fill_by_all}
use Rattle.std.proofs.lemmas.List.Elements.{All-cons, All-nil, All-head, All-tail, All-get_or}
use Rattle.std.specs.List.{flat_map, range_with_len, All}
use Rattle.std.specs.Int.{w16, w32, w64, to_be_bytes, from_be_bytes}
use Rattle.std.proofs.lemmas.Bool.{leb-true, eqb-true}
use Rattle.std.proofs.lemmas.Slice.Eq.{bytes_eq-Decides}
use Rattle.std.proofs.lemmas.Nat.{from_be_bytes-to_be_bytes_2, from_be_bytes-to_be_bytes_8}
use Rattle.std.specs.Str.{bytes_eq}
use Rattle.r10_count.specs.Checks.{first_broken}
use Rattle.r10_dirblock.specs.declared.entry.Entry.{Entry}
use Rattle.r10_dirblock.specs.declared.block.DirBlock.{DirBlock}
use Rattle.r10_dirblock.specs.declared.read.DirFault.{DirFault}
use Rattle.r10_dirblock.specs.declared.read.DirFault.TheVariants as directory_faults
use Rattle.r10_dirblock.specs.Block.{magic, head_bytes, used_bytes, entry_bytes, directory_entry_of, directory_entry_at, entry_count, entry_rules, block_rules, block_of, read_block, unless_broken, has_room_for_size, HasRooms, blank, big_endian_u64_at, part, FitsEntry, FitsHead}
use Rattle.r10_dirblock.proofs.Rules.{at_rule, entries_left}

-- what stands after p
past : (p r : List ℕ) (n m : ℕ) → length p ≡ n → drop (n + m) (p ++ r) ≡ drop m r
past p r n m len = sym (drop-drop m n (p ++ r)) ∙ ap (drop m) (drop_at p r n len)

-- ---- an entry

abbrev nested : Entry → List ℕ → List ℕ
nested e more = e.name ++ (to_be_bytes w64 e.first_block ++ (to_be_bytes w64 e.block_count ++ (to_be_bytes w64 e.size
    ++ (e.create_date ++ (e.create_time ++ (e.time_type ∷ (e.reserved ++ (e.close_time ++ more))))))))

is_nested : (e : Entry) (more : List ℕ) → entry_bytes e ++ more ≡ nested e more
unfolding entry_bytes
is_nested e more = simp append_assoc

pub length-entry_bytes : (e : Entry) → FitsEntry e → length (entry_bytes e) ≡ 112
unfolding entry_bytes
length-entry_bytes e fits = simp length-append (omega (arith, fits.name, fits.create_date, fits.create_time, fits.reserved, fits.close_time))

same_entry : (e : Entry) (name date time reserved close : List ℕ) (first count size kind : ℕ)
    → name ≡ e.name → first ≡ e.first_block → count ≡ e.block_count → size ≡ e.size → date ≡ e.create_date → time ≡ e.create_time
    → kind ≡ e.time_type → reserved ≡ e.reserved → close ≡ e.close_time
    → record { name = name; first_block = first; block_count = count; size = size; create_date = date; create_time = time; time_type = kind; reserved = reserved; close_time = close } ≡ e
same_entry e name date time reserved close first count size kind a b c d f g h i j = rw (a, b, c, d, f, g, h, i, j)

nested_again : (e : Entry) (more : List ℕ) → FitsEntry e → directory_entry_of (nested e more) ≡ e
unfolding directory_entry_of
nested_again e more fits =
    let all = nested e more in
    let close = e.close_time ++ more in
    let kept = e.reserved ++ close in
    let typed = e.time_type ∷ kept in
    let timed = e.create_time ++ typed in
    let dated = e.create_date ++ timed in
    let sized = to_be_bytes w64 e.size ++ dated in
    let counted = to_be_bytes w64 e.block_count ++ sized in
    let placed = to_be_bytes w64 e.first_block ++ counted in
    let at80 : drop 80 all ≡ dated = past e.name placed 56 24 fits.name in
    let at88 : drop 88 all ≡ timed = sym (drop-drop 8 80 all) ∙ ap (drop 8) at80 ∙ drop_at e.create_date timed 8 fits.create_date in
    let at96 : drop 96 all ≡ typed = sym (drop-drop 8 88 all) ∙ ap (drop 8) at88 ∙ drop_at e.create_time typed 8 fits.create_time in
    let at97 : drop 97 all ≡ kept = sym (drop-drop 1 96 all) ∙ ap (drop 1) at96 in
    let at104 : drop 104 all ≡ close = sym (drop-drop 7 97 all) ∙ ap (drop 7) at97 ∙ drop_at e.reserved close 7 fits.reserved in
    let name : part 0 56 all ≡ e.name = take_at e.name placed 56 fits.name in
    let first_block : big_endian_u64_at 56 all ≡ e.first_block =
    ap (λ (l : List ℕ). from_be_bytes w64 (take 8 l)) (drop_at e.name placed 56 fits.name) ∙ from_be_bytes-to_be_bytes_8 e.first_block fits.first_block in
    let block_count : big_endian_u64_at 64 all ≡ e.block_count =
    ap (λ (l : List ℕ). from_be_bytes w64 (take 8 l)) (past e.name placed 56 8 fits.name) ∙ from_be_bytes-to_be_bytes_8 e.block_count fits.block_count in
    let size : big_endian_u64_at 72 all ≡ e.size =
    ap (λ (l : List ℕ). from_be_bytes w64 (take 8 l)) (past e.name placed 56 16 fits.name) ∙ from_be_bytes-to_be_bytes_8 e.size fits.size in
    let create_date : part 80 8 all ≡ e.create_date = ap (take 8) at80 ∙ take_at e.create_date timed 8 fits.create_date in
    let create_time : part 88 8 all ≡ e.create_time = ap (take 8) at88 ∙ take_at e.create_time typed 8 fits.create_time in
    let time_type : get_or all 96 0 ≡ e.time_type = sym (get_or-drop 96 all 0 0) ∙ ap (λ (l : List ℕ). get_or l 0 0) at96 in
    let reserved : part 97 7 all ≡ e.reserved = ap (take 7) at97 ∙ take_at e.reserved close 7 fits.reserved in
    let close_time : part 104 8 all ≡ e.close_time = ap (take 8) at104 ∙ take_at e.close_time more 8 fits.close_time in
    same_entry e _ _ _ _ _ _ _ _ _ name first_block block_count size create_date create_time time_type reserved close_time

entry_again : (e : Entry) (more : List ℕ) → FitsEntry e → directory_entry_of (entry_bytes e ++ more) ≡ e
entry_again e more fits = ap directory_entry_of (is_nested e more) ∙ nested_again e more fits

-- entry k of those that were written
entry_found : (entries : List Entry) (more : List ℕ) → All FitsEntry entries → (k : ℕ) → k < length entries
    → directory_entry_of (drop (112 * k) (flat_map entry_bytes entries ++ more)) ≡ get_or entries k blank
entry_found [] more fits k lt = absurd (omega arith)
entry_found (e ∷ entries) more fits zero lt =
    ap directory_entry_of (append_assoc (entry_bytes e) (flat_map entry_bytes entries) more)
    ∙ entry_again e (flat_map entry_bytes entries ++ more) (All-head FitsEntry e entries fits)
entry_found (e ∷ entries) more fits (suc k) lt =
    let rest = flat_map entry_bytes entries ++ more in
    let far : 112 * suc k ≡ 112 + 112 * k = omega arith in
    ap (λ (n : ℕ). directory_entry_of (drop n ((entry_bytes e ++ flat_map entry_bytes entries) ++ more))) far
    ∙ ap (λ (l : List ℕ). directory_entry_of (drop (112 + 112 * k) l)) (append_assoc (entry_bytes e) (flat_map entry_bytes entries) more)
    ∙ ap directory_entry_of (past (entry_bytes e) rest 112 (112 * k) (length-entry_bytes e (All-head FitsEntry e entries fits)))
    ∙ entry_found entries more (All-tail FitsEntry e entries fits) k (omega arith)

-- ---- the rules of all entries

all_hold : (bytes : List ℕ) (n first : ℕ) → ((k : ℕ) → first ≤ k → k < first + n → has_room_for_size (directory_entry_at bytes k) ≡ true)
    → first_broken (entry_rules bytes (range_with_len first n)) ≡ None
all_hold bytes zero first rooms = refl
all_hold bytes (suc n) first rooms =
    at_rule bytes first (range_with_len (first + 1) n) true (rooms first (omega arith) (omega arith))
    ∙ all_hold bytes n (first + 1) (λ k low high. rooms k (omega (arith, low)) (omega (arith, high)))

none_broken : (answer : Bool) (fault : DirFault) (rest : List (Bool × DirFault)) → first_broken ((answer, fault) ∷ rest) ≡ None
    → (answer ≡ true) × (first_broken rest ≡ None)
none_broken true fault rest none = (refl, none)
none_broken false fault rest none = absurd (cc)

all_held : (bytes : List ℕ) (n first : ℕ) → first_broken (entry_rules bytes (range_with_len first n)) ≡ None
    → All (λ e. has_room_for_size e ≡ true) (map (directory_entry_at bytes) (range_with_len first n))
all_held bytes zero first none = All-nil (λ (e : Entry). has_room_for_size e ≡ true)
all_held bytes (suc n) first none =
    let here = none_broken (has_room_for_size (directory_entry_at bytes first)) (directory_faults.Entry first) (entry_rules bytes (range_with_len (first + 1) n)) none in
    All-cons (λ (e : Entry). has_room_for_size e ≡ true) (directory_entry_at bytes first) (map (directory_entry_at bytes) (range_with_len (first + 1) n)) here.0 (all_held bytes n (first + 1) here.1)

-- ---- a block

-- the 16 bytes before the volume name
abbrev front : ℕ → DirBlock → List ℕ
front revision d = magic ++ (revision ∷ d.shutdown ∷ []) ++ to_be_bytes w16 (length d.entries) ++ to_be_bytes w32 512

abbrev spread : ℕ → DirBlock → List ℕ → List ℕ
spread r d rest = front r d ++ (d.volume ++ (to_be_bytes w64 d.forward ++ (to_be_bytes w64 d.reverse ++ rest)))

is_spread : (r : ℕ) (d : DirBlock) (entries more : List ℕ) → (head_bytes r d ++ entries) ++ more ≡ spread r d (entries ++ more)
unfolding head_bytes
is_spread r d entries more = simp append_assoc

same_block : (d : DirBlock) (volume : List ℕ) (entries : List Entry) (shutdown forward reverse : ℕ)
    → shutdown ≡ d.shutdown → volume ≡ d.volume → forward ≡ d.forward → reverse ≡ d.reverse → entries ≡ d.entries
    → record { shutdown = shutdown; volume = volume; forward = forward; reverse = reverse; entries = entries } ≡ d
same_block d volume entries shutdown forward reverse a b c e f = rw (a, b, c, e, f)

abbrev all_of : ℕ → DirBlock → List ℕ → List ℕ
all_of r d more = spread r d (flat_map entry_bytes d.entries ++ more)

count_again : (r : ℕ) (d : DirBlock) (more : List ℕ) → FitsHead d → entry_count (all_of r d more) ≡ length d.entries
count_again r d more head = from_be_bytes-to_be_bytes_2 (length d.entries) (omega (arith, head.entries))

behind_head : (r : ℕ) (d : DirBlock) (rest : List ℕ) → FitsHead d → drop 64 (spread r d rest) ≡ rest
behind_head r d rest head = past d.volume (to_be_bytes w64 d.forward ++ (to_be_bytes w64 d.reverse ++ rest)) 32 16 head.volume

entry_again_at : (r : ℕ) (d : DirBlock) (more : List ℕ) → FitsHead d → All FitsEntry d.entries → (k : ℕ) → k < length d.entries
    → get_or d.entries k blank ≡ directory_entry_at (all_of r d more) k
entry_again_at r d more head fits k lt = sym (
    ap directory_entry_of (sym (drop-drop (112 * k) 64 (all_of r d more)) ∙ ap (drop (112 * k)) (behind_head r d (flat_map entry_bytes d.entries ++ more) head))
    ∙ entry_found d.entries more fits k lt)

entries_again : (r : ℕ) (d : DirBlock) (more : List ℕ) → FitsHead d → All FitsEntry d.entries
    → map (directory_entry_at (all_of r d more)) (range_with_len 0 (entry_count (all_of r d more))) ≡ d.entries
entries_again r d more head fits =
    ap (λ (n : ℕ). map (directory_entry_at (all_of r d more)) (range_with_len 0 n)) (count_again r d more head)
    ∙ sym (fill_by_all (directory_entry_at (all_of r d more)) d.entries (length d.entries) blank refl (entry_again_at r d more head fits))

block_again : (r : ℕ) (d : DirBlock) (more : List ℕ) → FitsHead d → All FitsEntry d.entries → block_of (all_of r d more) ≡ d
block_again r d more head fits =
    let links = to_be_bytes w64 d.forward ++ (to_be_bytes w64 d.reverse ++ (flat_map entry_bytes d.entries ++ more)) in
    let volume : part 16 32 (all_of r d more) ≡ d.volume = take_at d.volume links 32 head.volume in
    let forward : big_endian_u64_at 48 (all_of r d more) ≡ d.forward =
    ap (λ (l : List ℕ). from_be_bytes w64 (take 8 l)) (drop_at d.volume links 32 head.volume) ∙ from_be_bytes-to_be_bytes_8 d.forward head.forward in
    let back : big_endian_u64_at 56 (all_of r d more) ≡ d.reverse =
    ap (λ (l : List ℕ). from_be_bytes w64 (take 8 l)) (past d.volume links 32 8 head.volume) ∙ from_be_bytes-to_be_bytes_8 d.reverse head.reverse_link in
    same_block d _ _ _ _ _ refl volume forward back (entries_again r d more head fits)

no_fault : (r : ℕ) (d : DirBlock) (more : List ℕ) → FitsHead d → All FitsEntry d.entries → HasRooms d → first_broken (block_rules (all_of r d more)) ≡ None
no_fault r d more head fits rooms =
    let all = all_of r d more in
    let few : nat_le (entry_count all) 4 ≡ true = ap (λ (n : ℕ). nat_le n 4) (count_again r d more head) ∙ search (rules, head.entries) in
    entries_left all refl few refl
    ∙ ap (λ (n : ℕ). first_broken (entry_rules all (range_with_len 0 n))) (count_again r d more head)
    ∙ all_hold all (length d.entries) 0 (λ k low high.
    let lt : k < length d.entries = omega (arith, high) in
    ap has_room_for_size (sym (entry_again_at r d more head fits k lt)) ∙ All-get_or (λ (e : Entry). has_room_for_size e ≡ true) d.entries k blank lt rooms)

-- what is written is read again
pub again : (r : ℕ) (d : DirBlock) (more : List ℕ) → FitsHead d → All FitsEntry d.entries → HasRooms d
    → read_block (used_bytes r d ++ more) ≡ Ok d
unfolding read_block
again r d more head fits rooms =
    ap (λ (l : List ℕ). unless_broken (first_broken (block_rules l)) (block_of l)) (is_spread r d (flat_map entry_bytes d.entries) more)
    ∙ ap (λ (o : Option DirFault). unless_broken o (block_of (all_of r d more))) (no_fault r d more head fits rooms)
    ∙ ap (λ (b : DirBlock). Ok b) (block_again r d more head fits)

-- What holds where no rule is broken.
pub record KeepsRules (bytes : List ℕ) : Type 0 where
  pub name : part 0 8 bytes ≡ magic
  pub few : entry_count bytes ≤ 4
  pub size : from_be_bytes w32 (part 12 4 bytes) ≡ 512
  pub rooms : HasRooms (block_of bytes)

pub keeps_rules : (bytes : List ℕ) → first_broken (block_rules bytes) ≡ None → KeepsRules bytes
keeps_rules bytes none =
    let entries = entry_rules bytes (range_with_len 0 (entry_count bytes)) in
    let third = (from_be_bytes w32 (part 12 4 bytes) == 512, directory_faults.BlockSize) ∷ entries in
    let a = none_broken (bytes_eq (part 0 8 bytes) magic) directory_faults.Magic ((nat_le (entry_count bytes) 4, directory_faults.Count) ∷ third) none in
    let b = none_broken (nat_le (entry_count bytes) 4) directory_faults.Count third a.1 in
    let c = none_broken (from_be_bytes w32 (part 12 4 bytes) == 512) directory_faults.BlockSize entries b.1 in
    record {
      name = (bytes_eq-Decides (part 0 8 bytes) magic).0 a.0;
      few = leb-true (entry_count bytes) 4 b.0;
      size = eqb-true (from_be_bytes w32 (part 12 4 bytes)) 512 c.0;
      rooms = all_held bytes (entry_count bytes) 0 c.1;
    }
