-- The last of some sectors that a block lies in: one sector more, and what is put where.
use Rattle.std.proofs.Common.{◌≡◌, ◌⊎◌, ⊎_elim, inl, inr, ℕ, zero, suc, ◌+◌, ◌-◌, ◌*◌, ◌<◌, ◌≤◌, List, Option, None, Some, MatchOption, [], ◌∷◌, ◌++◌, length, take, drop, set, sym, ◌∙◌, ap, subst, arith, length-take-le, get_or-drop, get_or-take, ext_get_or, get_or-set_same, get_or-set_other}
use Rattle.std.specs.Prelude.{slice_index}
use Rattle.std.proofs.Math.Nat.{mul-suc}
use Rattle.std.proofs.Math.Seq.{take-set-lt, take-add}
use Rattle.std.proofs.lemmas.Bool.{cases_lt, cases_eq}
use Rattle.std.proofs.lemmas.List.{length-append, length-drop, length-set, get_or_append_left, get_or_push, take_more, take_all, drop-append-le, take-append-le, drop-set-lt, drop-set-add, take-set-le, take-append-drop, nil_from_length}
use Rattle.r10_medium.specs.Disk.{Image, Block, block_at}
use Rattle.r10_medium.specs.PowerLoss.{put_blocks}
use Rattle.r10_sector.specs.Held.{IsAmong, put_sectors}
use Rattle.r10_sector.proofs.Placing.{Lie, lie_rest, size_first, size_rest, length_one, length_put, one_below, one_inside, one_above, put_or_kept}
use Rattle.r10_doublewrite.specs.Last.{IsLast}

pub among_split : (per n : ℕ) (xs ys : List ℕ) → IsAmong per (xs ++ ys) n → IsAmong per xs n ⊎ IsAmong per ys n
among_split per n [] ys among = inr among
among_split per n (x ∷ xs) ys (inl here) = inl (inl here)
among_split per n (x ∷ xs) ys (inr there) = ⊎_elim (λ a. inl (inr a)) (λ b. inr b) (among_split per n xs ys there)

-- one sector more that it does not lie in
pub absent_more : (per n : ℕ) (xs : List ℕ) (f : ℕ) → (IsAmong per xs n → ⊥) → (f ≤ n → n < f + per → ⊥) → IsAmong per (xs ++ f ∷ []) n → ⊥
absent_more per n xs f absent misses among = ⊎_elim absent (λ last. ⊎_elim (λ here. misses here.0 here.1) (λ none. none) last) (among_split per n xs (f ∷ []) among)

pub last_kept : (per n k : ℕ) (xs : List ℕ) (f : ℕ) → (f ≤ n → n < f + per → ⊥) → IsLast per xs n k → IsLast per (xs ++ f ∷ []) n k
last_kept per n k xs f misses was = record {
  among = omega (arith, was.among, length-append xs (f ∷ []));
  from = omega (arith, was.from, same);
  below = omega (arith, was.below, same);
  none_after = λ among. absent_more per n (drop (suc k) xs) f was.none_after misses (subst (λ (l : List ℕ). IsAmong per l n) (drop-append-le (suc k) xs (f ∷ []) (omega (arith, was.among))) among);
}
  where
    same : slice_index (xs ++ f ∷ []) k ≡ slice_index xs k
    same = get_or_append_left xs (f ∷ []) 0 k was.among

pub last_new : (per n : ℕ) (xs : List ℕ) (f i : ℕ) → length xs ≡ i → f ≤ n → n < f + per → IsLast per (xs ++ f ∷ []) n i
last_new per n xs f i long from below = record {
  among = omega (arith, long, length-append xs (f ∷ []));
  from = omega (arith, from, here);
  below = omega (arith, below, here);
  none_after = λ among. subst (λ (l : List ℕ). IsAmong per l n) (nil_from_length (drop (suc i) (xs ++ f ∷ [])) (omega (arith, long, length-append xs (f ∷ []), length-drop (suc i) (xs ++ f ∷ [])))) among;
}
  where
    here : slice_index (xs ++ f ∷ []) i ≡ f
    here = get_or_push xs f 0 i long

-- of the sectors up to one more
pub found_new : (per n i : ℕ) (fs : List ℕ) → i < length fs → slice_index fs i ≤ n → n < slice_index fs i + per → IsLast per (take (i + 1) fs) n i
found_new per n i fs lt from below =
    subst (λ (l : List ℕ). IsLast per l n i) (sym (take_more fs i 0 lt)) (last_new per n (take i fs) (slice_index fs i) i (length-take-le i fs (omega (arith, lt))) from below)

pub found_kept : (per n i : ℕ) (fs : List ℕ) (o : Option ℕ) → i < length fs → (slice_index fs i ≤ n → n < slice_index fs i + per → ⊥)
    → MatchOption o (IsAmong per (take i fs) n → ⊥) (λ k. IsLast per (take i fs) n k) → MatchOption o (IsAmong per (take (i + 1) fs) n → ⊥) (λ k. IsLast per (take (i + 1) fs) n k)
found_kept per n i fs None lt misses absent =
    subst (λ (l : List ℕ). IsAmong per l n → ⊥) (sym (take_more fs i 0 lt)) (absent_more per n (take i fs) (slice_index fs i) absent misses)
found_kept per n i fs (Some k) lt misses last =
    subst (λ (l : List ℕ). IsLast per l n k) (sym (take_more fs i 0 lt)) (last_kept per n k (take i fs) (slice_index fs i) misses last)

-- ---- what is put where

module _ (per count : ℕ) where
  -- the block reads as it stands in the last sector that it lies in
  pub put_last : (fs : List ℕ) (bs a : Image) (n i : ℕ) → length bs ≡ per * length fs → Lie per count fs → length a ≡ count → IsLast per fs n i
      → block_at (put_sectors per fs bs a) n ≡ block_at bs (per * i + (n - slice_index fs i))
  put_last [] bs a n i size lie long last = absurd (omega (arith, last.among))
  put_last (f ∷ fs) bs a n zero size lie long last = elim (put_or_kept per count fs (drop per bs) n (size_rest per count f fs bs size) (lie_rest per count f fs lie)) [
    | inl put ↦ absurd (last.none_after put.0)
    | inr kept ↦ kept.1 (put_blocks a f (take per bs)) (length_one a f (take per bs) room ∙ long)
        ∙ one_inside a f (take per bs) n room last.from (omega (arith, last.below, one))
        ∙ get_or-take per bs (n - f) [] (omega (arith, last.from, last.below))
        ∙ ap (block_at bs) (omega arith)
  ]
    where
      one : length (take per bs) ≡ per
      one = size_first per count f fs bs size

      room : f + length (take per bs) ≤ length a
      room = omega (arith, one, lie 0 (omega arith), long)
  put_last (f ∷ fs) bs a n (suc i) size lie long last =
      put_last fs (drop per bs) (put_blocks a f (take per bs)) n i (size_rest per count f fs bs size) (lie_rest per count f fs lie) (length_one a f (take per bs) room ∙ long)
      (record { among = omega (arith, last.among); from = last.from; below = last.below; none_after = last.none_after })
      ∙ get_or-drop per bs (per * i + (n - slice_index fs i)) []
      ∙ ap (block_at bs) (omega (arith, mul-suc per i))
    where
      room : f + length (take per bs) ≤ length a
      room = omega (arith, size_first per count f fs bs size, lie 0 (omega arith), long)

  -- a block put by itself, where none of these sectors has it
  pub set_kept : (fs : List ℕ) (bs a : Image) (n : ℕ) (b : Block) → length bs ≡ per * length fs → Lie per count fs → length a ≡ count → n < count → (IsAmong per fs n → ⊥)
      → put_sectors per fs bs (set a n b) ≡ set (put_sectors per fs bs a) n b
  set_kept fs bs a n b size lie long within absent =
      ext_get_or [] _ _ (length_put per count fs bs (set a n b) size lie long_set ∙ sym (length-set (put_sectors per fs bs a) n b ∙ length_put per count fs bs a size lie long))
      (λ m lt. elim (cases_eq m n) [
        | inl is ↦ subst (λ (k : ℕ). block_at (put_sectors per fs bs (set a n b)) k ≡ block_at (set (put_sectors per fs bs a) n b) k) (sym is) here
        | inr differs ↦ elim (put_or_kept per count fs bs m size lie) [
          | inl put ↦ put.1.1 (set a n b) long_set ∙ sym (get_or-set_other (put_sectors per fs bs a) n m b [] differs ∙ put.1.1 a long)
          | inr kept ↦ kept.1 (set a n b) long_set ∙ get_or-set_other a n m b [] differs ∙ sym (get_or-set_other (put_sectors per fs bs a) n m b [] differs ∙ kept.1 a long)
        ]
      ])
    where
      long_set : length (set a n b) ≡ count
      long_set = length-set a n b ∙ long

      here : block_at (put_sectors per fs bs (set a n b)) n ≡ block_at (set (put_sectors per fs bs a) n b) n
      here = elim (put_or_kept per count fs bs n size lie) [
        | inl put ↦ absurd (absent put.0)
        | inr kept ↦ kept.1 (set a n b) long_set ∙ get_or-set_same a n b [] (omega (arith, within, long))
            ∙ sym (get_or-set_same (put_sectors per fs bs a) n b [] (omega (arith, within, length_put per count fs bs a size lie long)))
      ]

  one_set : (a : Image) (f : ℕ) (bs : Image) (n : ℕ) (b : Block) → f + length bs ≤ length a → f ≤ n → n < f + length bs
      → put_blocks a f (set bs (n - f) b) ≡ set (put_blocks a f bs) n b
  one_set a f bs n b le from below =
      ext_get_or [] _ _ (length_one a f (set bs (n - f) b) room ∙ sym (length-set (put_blocks a f bs) n b ∙ length_one a f bs le)) (λ m lt. elim (cases_lt m f) [
        | inl less ↦ one_below a f (set bs (n - f) b) m room less ∙ sym (get_or-set_other (put_blocks a f bs) n m b [] (λ e. omega (arith, e, less, from)) ∙ one_below a f bs m le less)
        | inr start ↦ elim (cases_lt m (f + length bs)) [
          | inl less ↦ one_inside a f (set bs (n - f) b) m room start (omega (arith, less, length-set bs (n - f) b)) ∙ elim (cases_eq m n) [
            | inl is ↦ subst (λ (k : ℕ). block_at (set bs (n - f) b) (k - f) ≡ block_at (set (put_blocks a f bs) n b) k) (sym is)
                (get_or-set_same bs (n - f) b [] (omega (arith, from, below)) ∙ sym (get_or-set_same (put_blocks a f bs) n b [] (omega (arith, below, le, length_one a f bs le))))
            | inr differs ↦ get_or-set_other bs (n - f) (m - f) b [] (λ e. differs (omega (arith, e, start, from)))
                ∙ sym (get_or-set_other (put_blocks a f bs) n m b [] differs ∙ one_inside a f bs m le start less)
          ]
          | inr more ↦ one_above a f (set bs (n - f) b) m room (omega (arith, more, length-set bs (n - f) b))
              ∙ sym (get_or-set_other (put_blocks a f bs) n m b [] (λ e. omega (arith, e, more, below)) ∙ one_above a f bs m le more)
        ]
      ])
    where
      room : f + length (set bs (n - f) b) ≤ length a
      room = omega (arith, le, length-set bs (n - f) b)

  -- a block set in the last sector that it lies in
  pub put_set : (fs : List ℕ) (bs a : Image) (n i : ℕ) (b : Block) → length bs ≡ per * length fs → Lie per count fs → length a ≡ count → IsLast per fs n i
      → put_sectors per fs (set bs (per * i + (n - slice_index fs i)) b) a ≡ set (put_sectors per fs bs a) n b
  put_set [] bs a n i b size lie long last = absurd (omega (arith, last.among))
  put_set (f ∷ fs) bs a n zero b size lie long last =
      ap (λ (k : ℕ). put_sectors per (f ∷ fs) (set bs k b) a) place
      ∙ ap (λ (l : Image). put_sectors per fs l (put_blocks a f (take per (set bs (n - f) b)))) (drop-set-lt per bs (n - f) b less)
      ∙ ap (λ (l : Image). put_sectors per fs (drop per bs) (put_blocks a f l)) (take-set-lt per bs (n - f) b less)
      ∙ ap (put_sectors per fs (drop per bs)) (one_set a f (take per bs) n b room last.from (omega (arith, last.below, one)))
      ∙ set_kept fs (drop per bs) (put_blocks a f (take per bs)) n b (size_rest per count f fs bs size) (lie_rest per count f fs lie) (length_one a f (take per bs) room ∙ long)
      (omega (arith, last.below, lie 0 (omega arith))) last.none_after
    where
      one : length (take per bs) ≡ per
      one = size_first per count f fs bs size

      room : f + length (take per bs) ≤ length a
      room = omega (arith, one, lie 0 (omega arith), long)

      place : per * 0 + (n - f) ≡ n - f
      place = omega arith

      less : n - f < per
      less = omega (arith, last.from, last.below)
  put_set (f ∷ fs) bs a n (suc i) b size lie long last =
      ap (λ (k : ℕ). put_sectors per (f ∷ fs) (set bs k b) a) place
      ∙ ap (λ (l : Image). put_sectors per fs l (put_blocks a f (take per (set bs (per + at) b)))) (drop-set-add per bs at b)
      ∙ ap (λ (l : Image). put_sectors per fs (set (drop per bs) at b) (put_blocks a f l)) (take-set-le per bs (per + at) b (omega arith))
      ∙ put_set fs (drop per bs) (put_blocks a f (take per bs)) n i b (size_rest per count f fs bs size) (lie_rest per count f fs lie) (length_one a f (take per bs) room ∙ long)
      (record { among = omega (arith, last.among); from = last.from; below = last.below; none_after = last.none_after })
    where
      at : ℕ
      at = per * i + (n - slice_index fs i)

      room : f + length (take per bs) ≤ length a
      room = omega (arith, size_first per count f fs bs size, lie 0 (omega arith), long)

      place : per * suc i + (n - slice_index fs i) ≡ per + at
      place = omega (arith, mul-suc per i)

  -- one sector more after the others
  pub put_push : (fs : List ℕ) (bs a : Image) (f : ℕ) (xs : Image) → length bs ≡ per * length fs → length xs ≡ per
      → put_sectors per (fs ++ f ∷ []) (bs ++ xs) a ≡ put_blocks (put_sectors per fs bs a) f xs
  put_push [] bs a f xs size one =
      ap (λ (l : Image). put_blocks a f (take per (l ++ xs))) (nil_from_length bs (omega (arith, size)))
      ∙ ap (put_blocks a f) (take_all per xs (omega (arith, one)))
  put_push (g ∷ fs) bs a f xs size one =
      ap (λ (l : Image). put_sectors per (fs ++ f ∷ []) l (put_blocks a g (take per (bs ++ xs)))) (drop-append-le per bs xs less)
      ∙ ap (λ (l : Image). put_sectors per (fs ++ f ∷ []) (drop per bs ++ xs) (put_blocks a g l)) (take-append-le per bs xs less)
      ∙ put_push fs (drop per bs) (put_blocks a g (take per bs)) f xs (size_rest per count g fs bs size) one
    where
      less : per ≤ length bs
      less = omega (arith, size, mul-suc per (length fs))

  -- what is read in a sector, put there, changes nothing
  pub put_back : (a : Image) (f : ℕ) → f + per ≤ length a → put_blocks a f (take per (drop f a)) ≡ a
  put_back a f le =
      ap (λ (k : ℕ). (take f a ++ take per (drop f a)) ++ drop (f + k) a) (length-take-le per (drop f a) (omega (arith, le, length-drop f a)))
      ∙ ap (λ (l : Image). l ++ drop (f + per) a) (sym (take-add f per a))
      ∙ take-append-drop (f + per) a

  -- what is written at a place that was found
  pub put_at : (fs fs0 : List ℕ) (bs a : Image) (n i k at : ℕ) (b : Block) → k ≡ per → fs0 ≡ fs → at ≡ k * i + (n - slice_index fs0 i)
      → length bs ≡ per * length fs → Lie per count fs → length a ≡ count → IsLast per fs n i → put_sectors per fs (set bs at b) a ≡ set (put_sectors per fs bs a) n b
  put_at fs fs0 bs a n i k at b is firsts place size lie long last =
      ap (λ (j : ℕ). put_sectors per fs (set bs j b) a) (place ∙ ap (λ (j : ℕ). j * i + (n - slice_index fs0 i)) is ∙ ap (λ (l : List ℕ). per * i + (n - slice_index l i)) firsts)
      ∙ put_set fs bs a n i b size lie long last
