-- Files as far as a medium goes, and files by number.
use Rattle.std.proofs.Common.{◌≡◌, ℕ, zero, suc, ◌+◌, ◌*◌, ◌-◌, ◌<◌, ◌≤◌, List, [], ◌∷◌, ◌++◌, length, take, drop, get_or, min, Some, None, refl, sym, ap, ◌∙◌, arith}
use Rattle.std.specs.Prelude.{slice_get}
use Rattle.std.specs.List.{concat}
use Rattle.std.proofs.lemmas.List.{drop_min, take_min, length-drop, length-take}
use Rattle.std.proofs.lemmas.Option.{slice_get-get_or}
use Rattle.r10_dirblock.specs.declared.entry.Entry.{Entry as DirectoryEntry}
use Rattle.r10_dirchain.specs.Chain.{listed_files}
use Rattle.r10_dirchain.specs.declared.chain.ChainBlock.{ChainBlock}
use Rattle.r10_medium.specs.Disk.{Image, IsWhole}
use Rattle.r10_medium.proofs.Bytes.{length-concat, whole_drop}
use Rattle.r10_blockout.specs.Blocks.{bytes_from}
use Rattle.r10_dirchain.proofs.FileLists.{files_from}

-- the bytes of a file that reaches past the medium's end are those that the medium has
pub clipped : (image : Image) (blocks first size f n : ℕ) → IsWhole image → length image ≡ blocks → f ≡ min first blocks → n ≡ min size (512 * (blocks - f)) → bytes_from image f n ≡ bytes_from image first size
clipped image blocks first size f n whole long f_is n_is =
    let same : drop f image ≡ drop first image = ap (λ (k : ℕ). drop k image) (f_is ∙ ap (min first) (sym long)) ∙ drop_min first image in
    let total : length (concat (drop f image)) ≡ 512 * (blocks - f) = omega (arith, length-concat (drop f image) (whole_drop f image whole), length-drop f image, long) in
    ap (λ (k : ℕ). take k (concat (drop f image))) (n_is ∙ ap (min size) (sym total))
    ∙ take_min size (concat (drop f image))
    ∙ ap (λ (blocks : Image). take size (concat blocks)) same

-- how many these are
pub clipped_length : (image : Image) (first size : ℕ) → IsWhole image → length (bytes_from image first size) ≡ min size (512 * (length image - first))
clipped_length image first size whole =
    let total : length (concat (drop first image)) ≡ 512 * (length image - first) = omega (arith, length-concat (drop first image) (whole_drop first image whole), length-drop first image) in
    length-take size (concat (drop first image)) ∙ ap (min size) total

-- ---- by number

pub behind_those : {X : Type 0} (xs ys : List X) (k : ℕ) → length xs ≤ k → slice_get (xs ++ ys) k ≡ slice_get ys (k - length xs)
behind_those [] ys k past = ap (slice_get ys) (omega arith)
behind_those (x ∷ xs) ys zero past = absurd (omega (arith, past))
behind_those (x ∷ xs) ys (suc k) past = behind_those xs ys k (omega (arith, past)) ∙ ap (slice_get ys) (omega arith)

pub among_those : {X : Type 0} (xs ys : List X) (k : ℕ) → k < length xs → slice_get (xs ++ ys) k ≡ slice_get xs k
among_those [] ys k within = absurd (omega (arith, within))
among_those (x ∷ xs) ys zero within = refl
among_those (x ∷ xs) ys (suc k) within = among_those xs ys k (omega (arith, within))

pub among_first : {X : Type 0} (xs : List X) (n k : ℕ) → k < n → slice_get (take n xs) k ≡ slice_get xs k
among_first xs zero k lt = absurd (omega (arith, lt))
among_first [] (suc n) k lt = refl
among_first (x ∷ xs) (suc n) zero lt = refl
among_first (x ∷ xs) (suc n) (suc k) lt = among_first xs n k (omega (arith, lt))

pub past_first : {X : Type 0} (xs : List X) (n k : ℕ) → n ≤ k → slice_get (take n xs) k ≡ None
past_first xs zero k le = refl
past_first [] (suc n) k le = refl
past_first (x ∷ xs) (suc n) zero le = absurd (omega (arith, le))
past_first (x ∷ xs) (suc n) (suc k) le = past_first xs n k (omega (arith, le))

-- ---- in a chain of directory blocks

-- the file is one of a block, or stands after its files
pub entry_here : (items : List ChainBlock) (i left : ℕ) (b : ChainBlock) (d : DirectoryEntry) → i < length items → b ≡ get_or items i b → left < length b.block.entries
    → slice_get (listed_files (drop i items)) left ≡ Some (get_or b.block.entries left d)
entry_here items i left b d lt is within =
    ap (λ (es : List DirectoryEntry). slice_get es left) (files_from items i b lt is) ∙ among_those b.block.entries (listed_files (drop (i + 1) items)) left within ∙ slice_get-get_or b.block.entries left d within

pub entry_past : (items : List ChainBlock) (i left : ℕ) (b : ChainBlock) → i < length items → b ≡ get_or items i b → length b.block.entries ≤ left
    → slice_get (listed_files (drop (i + 1) items)) (left - length b.block.entries) ≡ slice_get (listed_files (drop i items)) left
entry_past items i left b lt is past =
    sym (ap (λ (es : List DirectoryEntry). slice_get es left) (files_from items i b lt is) ∙ behind_those b.block.entries (listed_files (drop (i + 1) items)) left past)
