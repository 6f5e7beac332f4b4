use Rattle.std.proofs.Common.{rules, arith, refl, sym, ◌≡◌, ◌++◌, ◌%◌, ℕ, List, [], ◌∷◌, length, length-append, take, drop, replicate, ap, ◌∙◌, subst}
use Rattle.std.proofs.lemmas.List.{append-nil, take_at, drop_at, drop_all}
use borrow.Rule.Slice.PartMut.{put_mid}
use Rattle.r10_count.specs.Append.{Appends}
use Rattle.r10_count.specs.Padding.{padded}
use Rattle.r10_count.proofs.append.append_text.Goals as goal
use Rattle.r10_count.proofs.append.append_text.Goals.{After-copy_from_slice-2}

-- a row whose first eight bytes were written, and then its last four
filled : (s t z h : List ℕ) → s ≡ t → length s ≡ 8 → length z ≡ 4 → put_mid 8 4 (s ++ z) h ≡ t ++ h
filled s t z h is n m =
    let front : take 8 (s ++ z) ≡ s = take_at s z 8 n in
    let behind : drop 8 (s ++ z) ≡ z = drop_at s z 8 n in
    let none : drop 4 z ≡ [] = drop_all 4 z (omega (arith, m)) in
    ap (λ x. x ++ (h ++ drop 4 (drop 8 (s ++ z)))) front ∙ ap (λ x. s ++ (h ++ x)) (ap (drop 4) behind ∙ none) ∙ ap (λ x. s ++ x) (append-nil h) ∙ ap (λ x. x ++ h) is

-- the stamp, and the header after it
front_of : (c : After-copy_from_slice-2) → put_mid 8 4 (c.copy_from_slice.new.self ++ (0 ∷ 0 ∷ 0 ∷ 0 ∷ [])) c.copy_from_slice-2.new.self ≡ c.args.stamp ++ c.args.header
front_of c =
    filled c.copy_from_slice.new.self c.args.stamp (0 ∷ 0 ∷ 0 ∷ 0 ∷ []) c.copy_from_slice-2.new.self c.copy_from_slice.ensures.after c.copy_from_slice.ensures.len refl
    ∙ ap (λ h. c.args.stamp ++ h) c.copy_from_slice-2.ensures.after

-- the first of the places, so many as are even, need no byte more
unpadded : (front stamp header places bytes : List ℕ) (len : ℕ) → front ≡ stamp ++ header → bytes ≡ take len places → length (take len places) ≡ len → len % 2 ≡ 0 → front ++ take len places ≡ stamp ++ header ++ padded bytes
unpadded front stamp header places bytes len begins is long even =
    let number : length bytes ≡ len = ap length is ∙ long in
    let none : replicate {A = ℕ} (length bytes % 2) 0 ≡ [] = ap (λ n. replicate {A = ℕ} (n % 2) 0) number ∙ ap (λ n. replicate {A = ℕ} n 0) even in
    rw (begins, none, append-nil bytes, is) refl

-- an even number of bytes needs none, an odd one a zero
even : (front front' text bytes : List ℕ) → front ≡ front' → text ≡ bytes → length text % 2 ≡ 0 → front ++ (text ++ []) ≡ front' ++ padded bytes
even front front' text bytes begins is two =
    let none : replicate {A = ℕ} (length bytes % 2) 0 ≡ [] = ap (λ (l : List ℕ). replicate {A = ℕ} (length l % 2) 0) (sym is) ∙ ap (λ n. replicate {A = ℕ} n 0) two in
    rw (begins, none, is) refl

odd : (front front' text bytes : List ℕ) → front ≡ front' → text ≡ bytes → length text % 2 ≡ 1 → front ++ (text ++ (0 ∷ [])) ≡ front' ++ padded bytes
odd front front' text bytes begins is one =
    let zero : replicate {A = ℕ} (length bytes % 2) 0 ≡ 0 ∷ [] = ap (λ (l : List ℕ). replicate {A = ℕ} (length l % 2) 0) (sym is) ∙ ap (λ n. replicate {A = ℕ} n 0) one in
    rw (begins, zero, is) refl

-- it has twelve bytes
twelve : (c : After-copy_from_slice-2) → length (put_mid 8 4 (c.copy_from_slice.new.self ++ (0 ∷ 0 ∷ 0 ∷ 0 ∷ [])) c.copy_from_slice-2.new.self) ≡ 12
twelve c = ap length (front_of c) ∙ length-append c.args.stamp c.args.header ∙ omega arith

pub slice_bounds-append_all-end : goal.slice_bounds-append_all-end
slice_bounds-append_all-end c = omega (arith, twelve (goal.at.slice_bounds-append_all-end c).After-copy_from_slice-2)

pub slice_bounds-append_all-end-else-text-eq0 : goal.slice_bounds-append_all-end-else-text-eq0
slice_bounds-append_all-end-else-text-eq0 c = omega (arith, twelve (goal.at.slice_bounds-append_all-end-else-text-eq0 c).After-copy_from_slice-2)

pub returns-then-capacity-len-ge50 : goal.returns-then-capacity-len-ge50
returns-then-capacity-len-ge50 c =
    let Adds : List ℕ → Type 0 = λ more. Appends more c.args.out.now c.append_first.new.out c.append_first.result in
    subst Adds (unpadded _ c.args.stamp c.args.header c.in-Some.places.now c.args.bytes.now c.in-Some.len (front_of (goal.at.returns-then-capacity-len-ge50 c).After-copy_from_slice-2) c.in-Some.ensures.1 c.append_first.ensures.long (search rules)) c.append_first.ensures.adds

pub returns-then-text-eq0 : goal.returns-then-text-eq0
returns-then-text-eq0 c =
    let Adds : List ℕ → Type 0 = λ more. Appends more c.args.out.now c.append_all.new.out c.append_all.result in
    subst Adds (even _ (c.args.stamp ++ c.args.header) c.as_slice-text.result.now c.args.bytes.now (front_of (goal.at.returns-then-text-eq0 c).After-copy_from_slice-2) c.as_slice-text.ensures (search rules)) c.append_all.ensures

pub returns-else-text-eq0 : goal.returns-else-text-eq0
returns-else-text-eq0 c =
    let Adds : List ℕ → Type 0 = λ more. Appends more c.args.out.now c.append_all-else-text-eq0.new.out c.append_all-else-text-eq0.result in
    subst Adds (odd _ (c.args.stamp ++ c.args.header) c.as_slice-text.result.now c.args.bytes.now (front_of (goal.at.returns-else-text-eq0 c).After-copy_from_slice-2) c.as_slice-text.ensures (search rules)) c.append_all-else-text-eq0.ensures
