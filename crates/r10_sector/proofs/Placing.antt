-- Sectors put in place: what each block then reads as.
use Rattle.std.proofs.Common.{◌≡◌, ◌⊎◌, ⊎_elim, ℕ, suc, ◌+◌, ◌-◌, ◌*◌, ◌<◌, ◌≤◌, inl, inr, List, [], ◌∷◌, ◌++◌, length, take, drop, refl, sym, ◌∙◌, ap, arith, length-take-le, get_or-drop, get_or-take, ext_get_or}
use Rattle.std.specs.Prelude.{slice_index}
use Rattle.std.proofs.Math.Nat.{mul-suc}
use Rattle.std.proofs.lemmas.Bool.{cases_lt}
use Rattle.std.proofs.lemmas.List.{length-append, length-drop, get_or_append_left, get_or-append_right}
use Rattle.r10_medium.specs.Disk.{Image, Block, block_at, IsWhole}
use Rattle.r10_medium.specs.PowerLoss.{put_blocks}
use Rattle.r10_sector.specs.Held.{IsAmong, put_sectors}

-- ---- one run of blocks

pub length_one : (a : Image) (f : ℕ) (bs : Image) → f + length bs ≤ length a → length (put_blocks a f bs) ≡ length a
length_one a f bs le = omega (arith, le, length-append (take f a ++ bs) (drop (f + length bs) a), length-append (take f a) bs, length-take-le f a (omega (arith, le)), length-drop (f + length bs) a)

pub one_below : (a : Image) (f : ℕ) (bs : Image) (n : ℕ) → f + length bs ≤ length a → n < f → block_at (put_blocks a f bs) n ≡ block_at a n
one_below a f bs n le lt =
    get_or_append_left (take f a ++ bs) (drop (f + length bs) a) [] n (omega (arith, lt, length-append (take f a) bs, long))
    ∙ get_or_append_left (take f a) bs [] n (omega (arith, lt, long))
    ∙ get_or-take f a n [] lt
  where
    long : length (take f a) ≡ f
    long = length-take-le f a (omega (arith, le))

pub one_inside : (a : Image) (f : ℕ) (bs : Image) (n : ℕ) → f + length bs ≤ length a → f ≤ n → n < f + length bs → block_at (put_blocks a f bs) n ≡ block_at bs (n - f)
one_inside a f bs n le from lt =
    get_or_append_left (take f a ++ bs) (drop (f + length bs) a) [] n (omega (arith, lt, length-append (take f a) bs, long))
    ∙ get_or-append_right (take f a) bs f n [] long from
  where
    long : length (take f a) ≡ f
    long = length-take-le f a (omega (arith, le))

pub one_above : (a : Image) (f : ℕ) (bs : Image) (n : ℕ) → f + length bs ≤ length a → f + length bs ≤ n → block_at (put_blocks a f bs) n ≡ block_at a n
one_above a f bs n le from =
    get_or-append_right (take f a ++ bs) (drop (f + length bs) a) (f + length bs) n [] long from
    ∙ get_or-drop (f + length bs) a (n - (f + length bs)) []
    ∙ ap (block_at a) (omega (arith, from))
  where
    long : length (take f a ++ bs) ≡ f + length bs
    long = omega (arith, length-append (take f a) bs, length-take-le f a (omega (arith, le)))

-- ---- all of them, one after the other

module _ (per count : ℕ) where
  -- sectors that lie among the blocks
  abbrev pub Lie : List ℕ → Type 0
  Lie fs = (i : ℕ) → i < length fs → slice_index fs i + per ≤ count

  pub lie_rest : (f : ℕ) (fs : List ℕ) → Lie (f ∷ fs) → Lie fs
  lie_rest f fs lie i lt = lie (suc i) (omega (arith, lt))

  pub size_first : (f : ℕ) (fs : List ℕ) (bs : Image) → length bs ≡ per * length (f ∷ fs) → length (take per bs) ≡ per
  size_first f fs bs size = length-take-le per bs (omega (arith, size, mul-suc per (length fs)))

  pub size_rest : (f : ℕ) (fs : List ℕ) (bs : Image) → length bs ≡ per * length (f ∷ fs) → length (drop per bs) ≡ per * length fs
  size_rest f fs bs size = omega (arith, size, mul-suc per (length fs), length-drop per bs)

  room_first : (f : ℕ) (fs : List ℕ) (bs a : Image) → length bs ≡ per * length (f ∷ fs) → Lie (f ∷ fs) → length a ≡ count → f + length (take per bs) ≤ length a
  room_first f fs bs a size lie long = omega (arith, size_first f fs bs size, lie 0 (omega arith), long)

  pub length_put : (fs : List ℕ) (bs a : Image) → length bs ≡ per * length fs → Lie fs → length a ≡ count → length (put_sectors per fs bs a) ≡ count
  length_put [] bs a size lie long = long
  length_put (f ∷ fs) bs a size lie long =
      length_put fs (drop per bs) (put_blocks a f (take per bs)) (size_rest f fs bs size) (lie_rest f fs lie)
      (length_one a f (take per bs) (room_first f fs bs a size lie long) ∙ long)

  -- the block reads as one of those that were put, whatever was there
  abbrev pub IsPut : List ℕ → Image → ℕ → Type 0
  IsPut fs bs n = IsAmong per fs n × ((v : Block) × ((a : Image) → length a ≡ count → block_at (put_sectors per fs bs a) n ≡ v))

  -- the block reads as what was there
  abbrev pub IsKept : List ℕ → Image → ℕ → Type 0
  IsKept fs bs n = (IsAmong per fs n → ⊥) × ((a : Image) → length a ≡ count → block_at (put_sectors per fs bs a) n ≡ block_at a n)

  pub put_or_kept : (fs : List ℕ) (bs : Image) (n : ℕ) → length bs ≡ per * length fs → Lie fs → IsPut fs bs n ⊎ IsKept fs bs n
  put_or_kept [] bs n size lie = inr ((λ among. among), (λ a long. refl))
  put_or_kept (f ∷ fs) bs n size lie = elim (put_or_kept fs (drop per bs) n (size_rest f fs bs size) (lie_rest f fs lie)) [
    | inl put ↦ inl (inr put.0, (put.1.0, (λ a long. put.1.1 (put_blocks a f (take per bs)) (same a long))))
    | inr kept ↦ elim (cases_lt n f) [
      | inl less ↦ inr (
        (λ among. ⊎_elim (λ here. omega (arith, less, here.0)) kept.0 among),
        (λ a long. kept.1 (put_blocks a f (take per bs)) (same a long) ∙ one_below a f (take per bs) n (room a long) less),
      )
      | inr from ↦ elim (cases_lt n (f + per)) [
        | inl less ↦ inl (
          inl (from, less),
          (
            block_at (take per bs) (n - f),
            (λ a long. kept.1 (put_blocks a f (take per bs)) (same a long) ∙ one_inside a f (take per bs) n (room a long) from (omega (arith, less, one))),
          ),
        )
        | inr more ↦ inr (
          (λ among. ⊎_elim (λ here. omega (arith, more, here.1)) kept.0 among),
          (λ a long. kept.1 (put_blocks a f (take per bs)) (same a long) ∙ one_above a f (take per bs) n (room a long) (omega (arith, more, one))),
        )
      ]
    ]
  ]
    where
      one : length (take per bs) ≡ per
      one = size_first f fs bs size

      room : (a : Image) → length a ≡ count → f + length (take per bs) ≤ length a
      room a long = room_first f fs bs a size lie long

      same : (a : Image) → length a ≡ count → length (put_blocks a f (take per bs)) ≡ count
      same a long = length_one a f (take per bs) (room a long) ∙ long

  -- images that agree but in these sectors, put over by them, are the same
  pub put_same : (fs : List ℕ) (bs a b : Image) → length bs ≡ per * length fs → Lie fs → length a ≡ count → length b ≡ count
      → ((n : ℕ) → (IsAmong per fs n → ⊥) → block_at b n ≡ block_at a n) → put_sectors per fs bs b ≡ put_sectors per fs bs a
  put_same fs bs a b size lie long_a long_b others =
      ext_get_or [] (put_sectors per fs bs b) (put_sectors per fs bs a) (length_put fs bs b size lie long_b ∙ sym (length_put fs bs a size lie long_a)) (λ n lt. elim (put_or_kept fs bs n size lie) [
        | inl put ↦ put.1.1 b long_b ∙ sym (put.1.1 a long_a)
        | inr kept ↦ kept.1 b long_b ∙ others n kept.0 ∙ sym (kept.1 a long_a)
      ])

  -- what agrees but in some sectors does so after others are put in both
  pub put_agrees : (qs fs : List ℕ) (bs a b : Image) → length bs ≡ per * length fs → Lie fs → length a ≡ count → length b ≡ count
      → ((n : ℕ) → (IsAmong per qs n → ⊥) → block_at b n ≡ block_at a n) → (n : ℕ) → (IsAmong per qs n → ⊥) → block_at (put_sectors per fs bs b) n ≡ block_at (put_sectors per fs bs a) n
  put_agrees qs fs bs a b size lie long_a long_b others n absent = elim (put_or_kept fs bs n size lie) [
    | inl put ↦ put.1.1 b long_b ∙ sym (put.1.1 a long_a)
    | inr kept ↦ kept.1 b long_b ∙ others n absent ∙ sym (kept.1 a long_a)
  ]

  -- what is put changes nothing else
  pub put_others : (fs : List ℕ) (bs a : Image) → length bs ≡ per * length fs → Lie fs → length a ≡ count
      → (n : ℕ) → (IsAmong per fs n → ⊥) → block_at (put_sectors per fs bs a) n ≡ block_at a n
  put_others fs bs a size lie long n absent = elim (put_or_kept fs bs n size lie) [
    | inl put ↦ absurd (absent put.0)
    | inr kept ↦ kept.1 a long
  ]

  -- blocks are whole after whole ones are put
  pub whole_put : (fs : List ℕ) (bs a : Image) → length bs ≡ per * length fs → Lie fs → length a ≡ count → IsWhole bs → IsWhole a → IsWhole (put_sectors per fs bs a)
  whole_put [] bs a size lie long whole_bs whole_a = whole_a
  whole_put (f ∷ fs) bs a size lie long whole_bs whole_a =
      whole_put fs (drop per bs) put (size_rest f fs bs size) (lie_rest f fs lie) (length_one a f (take per bs) room ∙ long)
      (λ n lt. ap length (get_or-drop per bs n []) ∙ whole_bs (per + n) (omega (arith, lt, length-drop per bs)))
      (λ n lt. elim (cases_lt n f) [
        | inl less ↦ ap length (one_below a f (take per bs) n room less) ∙ whole_a n (omega (arith, lt, length_one a f (take per bs) room))
        | inr from ↦ elim (cases_lt n (f + length (take per bs))) [
          | inl less ↦ ap length (one_inside a f (take per bs) n room from less ∙ get_or-take per bs (n - f) [] (omega (arith, from, less, one)))
              ∙ whole_bs (n - f) (omega (arith, from, less, one, size, mul-suc per (length fs)))
          | inr more ↦ ap length (one_above a f (take per bs) n room more) ∙ whole_a n (omega (arith, lt, length_one a f (take per bs) room))
        ]
      ])
    where
      put : Image
      put = put_blocks a f (take per bs)

      one : length (take per bs) ≡ per
      one = size_first f fs bs size

      room : f + length (take per bs) ≤ length a
      room = room_first f fs bs a size lie long
