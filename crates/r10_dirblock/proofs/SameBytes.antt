-- An entry that was read is written with the same bytes.
use Rattle.std.proofs.Common.{◌≡◌, ℕ, ◌+◌, ◌<◌, ◌≤◌, List, [], ◌∷◌, ◌++◌, inl, inr, length, length-take, take, drop, get_or, refl, sym, ap, ◌∙◌, subst, arith, length-drop, get_or-drop, get_or-take}
use Rattle.std.proofs.lemmas.Bool.{cases_lt}
use Rattle.std.proofs.lemmas.List.{take-append-drop, take-take, drop-take, drop_more, length-take-le, get_or_past}
use Rattle.std.proofs.lemmas.Nat.{be_bytes_8}
use Rattle.std.specs.Int.{w64, to_be_bytes}
use Rattle.r10_dirblock.specs.Block.{entry_bytes, directory_entry_of, part, big_endian_u64_at}

-- two neighbouring parts are one
pub joined : (bytes : List ℕ) (at n : ℕ) → take at bytes ++ part at n bytes ≡ take (at + n) bytes
joined bytes at n = ap (λ (l : List ℕ). take at bytes ++ l) (sym (drop-take at n bytes))
    ∙ ap (λ (l : List ℕ). l ++ drop at (take (at + n) bytes)) (sym (take-take at (at + n) bytes (omega arith)))
    ∙ take-append-drop at (take (at + n) bytes)

abbrev pub AreBytes : List ℕ → Type 0
AreBytes bytes = (i : ℕ) → get_or bytes i 0 < 256

pub part_bytes : (bytes : List ℕ) (at n : ℕ) → AreBytes bytes → AreBytes (part at n bytes)
part_bytes bytes at n fits i = elim (cases_lt i n) [
  | inl lt ↦ subst (λ (b : ℕ). b < 256) (sym (get_or-take n (drop at bytes) i 0 lt ∙ get_or-drop at bytes i 0)) (fits (at + i))
  | inr over ↦ subst (λ (b : ℕ). b < 256) (sym (get_or_past (part at n bytes) i 0 (omega (arith, over, length-take n (drop at bytes))))) (omega arith)
]

pub length-part : (bytes : List ℕ) (at n : ℕ) → at + n ≤ length bytes → length (part at n bytes) ≡ n
length-part bytes at n room = length-take-le n (drop at bytes) (omega (arith, room, length-drop at bytes))

-- a number that was read is written with the same bytes
pub number_again : (bytes : List ℕ) (at : ℕ) → AreBytes bytes → at + 8 ≤ length bytes → to_be_bytes w64 (big_endian_u64_at at bytes) ≡ part at 8 bytes
number_again bytes at fits room = be_bytes_8 (part at 8 bytes) (big_endian_u64_at at bytes) (length-part bytes at 8 room) (part_bytes bytes at 8 fits) refl

pub kept : (bytes : List ℕ) → 112 ≤ length bytes → AreBytes bytes → entry_bytes (directory_entry_of bytes) ≡ take 112 bytes
unfolding entry_bytes directory_entry_of
kept bytes long fits =
    let time_type : get_or bytes 96 0 ∷ [] ≡ part 96 1 bytes = ap (take 1) (sym (drop_more bytes 96 0 (omega (arith, long)))) in
    let f0 = part 0 56 bytes in
    let n1 = to_be_bytes w64 (big_endian_u64_at 56 bytes) in
    let n2 = to_be_bytes w64 (big_endian_u64_at 64 bytes) in
    let n3 = to_be_bytes w64 (big_endian_u64_at 72 bytes) in
    let e1 : f0 ++ n1 ≡ take 64 bytes = ap (λ (l : List ℕ). f0 ++ l) (number_again bytes 56 fits (omega (arith, long))) ∙ joined bytes 56 8 in
    let e2 : (f0 ++ n1) ++ n2 ≡ take 72 bytes = ap (λ (l : List ℕ). (f0 ++ n1) ++ l) (number_again bytes 64 fits (omega (arith, long))) ∙ ap (λ (l : List ℕ). l ++ part 64 8 bytes) e1 ∙ joined bytes 64 8 in
    let e3 : ((f0 ++ n1) ++ n2) ++ n3 ≡ take 80 bytes = ap (λ (l : List ℕ). ((f0 ++ n1) ++ n2) ++ l) (number_again bytes 72 fits (omega (arith, long))) ∙ ap (λ (l : List ℕ). l ++ part 72 8 bytes) e2 ∙ joined bytes 72 8 in
    let e4 : (((f0 ++ n1) ++ n2) ++ n3) ++ part 80 8 bytes ≡ take 88 bytes = ap (λ (l : List ℕ). l ++ part 80 8 bytes) e3 ∙ joined bytes 80 8 in
    let e5 : ((((f0 ++ n1) ++ n2) ++ n3) ++ part 80 8 bytes) ++ part 88 8 bytes ≡ take 96 bytes = ap (λ (l : List ℕ). l ++ part 88 8 bytes) e4 ∙ joined bytes 88 8 in
    let e6 : (((((f0 ++ n1) ++ n2) ++ n3) ++ part 80 8 bytes) ++ part 88 8 bytes) ++ (get_or bytes 96 0 ∷ []) ≡ take 97 bytes =
    ap (λ (l : List ℕ). (((((f0 ++ n1) ++ n2) ++ n3) ++ part 80 8 bytes) ++ part 88 8 bytes) ++ l) time_type ∙ ap (λ (l : List ℕ). l ++ part 96 1 bytes) e5 ∙ joined bytes 96 1 in
    ap (λ (l : List ℕ). (l ++ part 97 7 bytes) ++ part 104 8 bytes) e6 ∙ ap (λ (l : List ℕ). l ++ part 104 8 bytes) (joined bytes 97 7) ∙ joined bytes 104 8
