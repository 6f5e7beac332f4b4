-- What is read is a block with its fields.
use Rattle.std.proofs.Common.{◌≡◌, ℕ, zero, suc, ◌+◌, ◌*◌, ◌<◌, ◌≤◌, List, [], ◌∷◌, ◌++◌, length, take, drop, get_or, map, Option, Some, None, Ok, Err, refl, sym, ap, ◌∙◌, subst, arith, length-drop, get_or-drop}
use Rattle.std.specs.List.{flat_map, range_with_len, All}
use Rattle.std.specs.Int.{w16, w32, w64, to_be_bytes, from_be_bytes}
use Rattle.std.proofs.lemmas.List.{take-append-drop, drop-drop, drop_more}
use Rattle.std.proofs.lemmas.List.FromFn.{length-map-range_with_len}
use Rattle.std.proofs.lemmas.Nat.{be_bytes_2, be_bytes_4}
use Rattle.r10_dirblock.specs.declared.block.DirBlock.{DirBlock}
use Rattle.r10_dirblock.specs.declared.read.DirFault.{DirFault}
use Rattle.r10_count.specs.Checks.{first_broken}
use Rattle.r10_dirblock.specs.Block.{magic, IsBlock, FitsHead, FitsEntry, block_rules, read_block, unless_broken, head_bytes, used_bytes, entry_bytes, directory_entry_at, entry_count, block_of, part, big_endian_u64_at}
use Rattle.r10_dirblock.proofs.Again.{again, keeps_rules}
use Rattle.r10_dirblock.proofs.SameBytes.{joined, AreBytes, part_bytes, length-part, number_again, kept}

two_bytes : (bytes : List ℕ) (at : ℕ) → at + 2 ≤ length bytes → get_or bytes at 0 ∷ get_or bytes (at + 1) 0 ∷ [] ≡ part at 2 bytes
two_bytes bytes at room =
    ap (λ (l : List ℕ). get_or bytes at 0 ∷ take 1 l) (sym (drop_more bytes (at + 1) 0 (omega (arith, room))))
    ∙ ap (take 2) (sym (drop_more bytes at 0 (omega (arith, room))))

-- the head that was read
head_found : (bytes : List ℕ) → length bytes ≡ 512 → AreBytes bytes → part 0 8 bytes ≡ magic → from_be_bytes w32 (part 12 4 bytes) ≡ 512
    → head_bytes (get_or bytes 8 0) (block_of bytes) ≡ take 64 bytes
unfolding head_bytes
head_found bytes long fits name size =
    let m = magic in
    let two = get_or bytes 8 0 ∷ get_or bytes 9 0 ∷ [] in
    let d = block_of bytes in
    let n = to_be_bytes w16 (length d.entries) in
    let s = to_be_bytes w32 512 in
    let v = part 16 32 bytes in
    let f = to_be_bytes w64 (big_endian_u64_at 48 bytes) in
    let r = to_be_bytes w64 (big_endian_u64_at 56 bytes) in
    let e1 : m ++ two ≡ take 10 bytes = ap (λ (l : List ℕ). l ++ two) (sym name) ∙ ap (λ (l : List ℕ). take 8 bytes ++ l) (two_bytes bytes 8 (omega (arith, long))) ∙ joined bytes 8 2 in
    let counted : n ≡ part 10 2 bytes = be_bytes_2 (part 10 2 bytes) (length d.entries) (length-part bytes 10 2 (omega (arith, long))) (part_bytes bytes 10 2 fits) (length-map-range_with_len (directory_entry_at bytes) 0 (entry_count bytes)) in
    let e2 : (m ++ two) ++ n ≡ take 12 bytes = ap (λ (l : List ℕ). (m ++ two) ++ l) counted ∙ ap (λ (l : List ℕ). l ++ part 10 2 bytes) e1 ∙ joined bytes 10 2 in
    let sized : s ≡ part 12 4 bytes = be_bytes_4 (part 12 4 bytes) 512 (length-part bytes 12 4 (omega (arith, long))) (part_bytes bytes 12 4 fits) (sym size) in
    let e3 : ((m ++ two) ++ n) ++ s ≡ take 16 bytes = ap (λ (l : List ℕ). ((m ++ two) ++ n) ++ l) sized ∙ ap (λ (l : List ℕ). l ++ part 12 4 bytes) e2 ∙ joined bytes 12 4 in
    let e4 : (((m ++ two) ++ n) ++ s) ++ v ≡ take 48 bytes = ap (λ (l : List ℕ). l ++ v) e3 ∙ joined bytes 16 32 in
    let e5 : ((((m ++ two) ++ n) ++ s) ++ v) ++ f ≡ take 56 bytes = ap (λ (l : List ℕ). ((((m ++ two) ++ n) ++ s) ++ v) ++ l) (number_again bytes 48 fits (omega (arith, long))) ∙ ap (λ (l : List ℕ). l ++ part 48 8 bytes) e4 ∙ joined bytes 48 8 in
    ap (λ (l : List ℕ). (((((m ++ two) ++ n) ++ s) ++ v) ++ f) ++ l) (number_again bytes 56 fits (omega (arith, long))) ∙ ap (λ (l : List ℕ). l ++ part 56 8 bytes) e5 ∙ joined bytes 56 8

-- the entries that were read
entries_found : (bytes : List ℕ) (first count : ℕ) → AreBytes bytes → 64 + 112 * (first + count) ≤ length bytes
    → flat_map entry_bytes (map (directory_entry_at bytes) (range_with_len first count)) ≡ part (64 + 112 * first) (112 * count) bytes
entries_found bytes first zero fits room = refl
entries_found bytes first (suc count) fits room =
    let at = 64 + 112 * first in
    let here = drop at bytes in
    let next : 64 + 112 * (first + 1) ≡ at + 112 = omega arith in
    ap (λ (l : List ℕ). l ++ flat_map entry_bytes (map (directory_entry_at bytes) (range_with_len (first + 1) count)))
    (kept here (omega (arith, room, length-drop at bytes)) (λ i. subst (λ (b : ℕ). b < 256) (sym (get_or-drop at bytes i 0)) (fits (at + i))))
    ∙ ap (λ (l : List ℕ). take 112 here ++ l) (entries_found bytes (first + 1) count fits (omega (arith, room)))
    ∙ ap (λ (l : List ℕ). take 112 here ++ take (112 * count) l) (ap (λ (k : ℕ). drop k bytes) next ∙ sym (drop-drop 112 at bytes))
    ∙ joined here 112 (112 * count)
    ∙ ap (λ (k : ℕ). take k here) (omega arith)

pub spelled : (bytes : List ℕ) → length bytes ≡ 512 → AreBytes bytes → part 0 8 bytes ≡ magic → entry_count bytes ≤ 4 → from_be_bytes w32 (part 12 4 bytes) ≡ 512
    → bytes ≡ used_bytes (get_or bytes 8 0) (block_of bytes) ++ drop (64 + 112 * entry_count bytes) bytes
spelled bytes long fits name few size =
    let count = entry_count bytes in
    sym (ap (λ (l : List ℕ). (l ++ flat_map entry_bytes (block_of bytes).entries) ++ drop (64 + 112 * count) bytes) (head_found bytes long fits name size)
    ∙ ap (λ (l : List ℕ). (take 64 bytes ++ l) ++ drop (64 + 112 * count) bytes) (entries_found bytes 0 count fits (omega (arith, long, few)))
    ∙ ap (λ (l : List ℕ). l ++ drop (64 + 112 * count) bytes) (joined bytes 64 (112 * count))
    ∙ take-append-drop (64 + 112 * count) bytes)

pub read_ok : (bytes : List ℕ) → first_broken (block_rules bytes) ≡ None → read_block bytes ≡ Ok (block_of bytes)
unfolding read_block
read_ok bytes none = ap (λ (o : Option DirFault). unless_broken o (block_of bytes)) none

pub read_err : (bytes : List ℕ) (fault : DirFault) → first_broken (block_rules bytes) ≡ Some fault → read_block bytes ≡ Err fault
unfolding read_block
read_err bytes fault broken = ap (λ (o : Option DirFault). unless_broken o (block_of bytes)) broken

-- what is read is a block with its fields
pub found : (bytes : List ℕ) → length bytes ≡ 512 → AreBytes bytes → first_broken (block_rules bytes) ≡ None → FitsHead (block_of bytes) → All FitsEntry (block_of bytes).entries
    → IsBlock bytes (block_of bytes)
found bytes long fits none head entries =
    let rules = keeps_rules bytes none in
    record {
      revision = get_or bytes 8 0;
      unused = drop (64 + 112 * entry_count bytes) bytes;
      spelled = spelled bytes long fits rules.name rules.few rules.size;
      rooms = rules.rooms;
      head = head;
      entries = entries;
    }

-- what is a block is read, with its fields
pub only : (bytes : List ℕ) (d : DirBlock) → IsBlock bytes d → read_block bytes ≡ Ok d
only bytes d is = ap read_block is.spelled ∙ again is.revision d is.unused is.head is.entries is.rooms
