-- How a run of calls goes on.
use Rattle.std.proofs.Common.{◌∷◌, ◌++◌, drop, ◌≡◌, ◌≢◌, ◌⊎◌, inl, inr, ⊎_elim, ℕ, ◌+◌, ◌-◌, ◌<◌, [], length, take, get_or, set, refl, sym, ◌∙◌, ap, subst, arith, get_or-set_other, get_or-set_same}
use Rattle.std.proofs.lemmas.Bool.{cases_eq}
use Rattle.std.proofs.lemmas.List.{length-set, length-append, length-take-le, append_assoc, drop_more, set_at, ext_get_or, set-get_or, set-set}
use Rattle.r10_medium.specs.Disk.{Disk, Image, Block, block_at, IsWhole, MayLeave, Unchanged, Wrote, IsSynced}
use Rattle.r10_medium.specs.PowerLoss.{Settled, Leaves, ComesBy, Moves, SameBelow, SameBut, PutsSome, put_blocks}

-- before the first call
pub started : (P : Image → Type 0) (disk : Disk) → Settled P disk → Leaves P disk disk
started P disk here = record { later = omega arith; each = λ image since. here image (disk.only_now image since); before = λ t image le since. inl since }

-- what holds since then holds now
pub settled_now : (P : Image → Type 0) (old new : Disk) → Leaves P old new → Settled P new
settled_now P old new run = λ image now. run.each image (new.counts_now old.moment image run.later now)

-- one run after another
pub joined : (P : Image → Type 0) (old mid new : Disk) → Leaves P old mid → Leaves P mid new → Leaves P old new
joined P old mid new first second = record {
  later = omega (arith, first.later, second.later);
  each = λ image since. ⊎_elim (first.each image) (λ p. p) (second.before old.moment image first.later since);
  before = λ t image le since. ⊎_elim (first.before t image le) (λ p. inr p) (second.before t image (omega (arith, le, first.later)) since);
}

pub weakened : (P Q : Image → Type 0) (old new : Disk) → ((image : Image) → P image → Q image) → Leaves P old new → Leaves Q old new
weakened P Q old new gives run = record {
  later = run.later;
  each = λ image since. gives image (run.each image since);
  before = λ t image le since. ⊎_elim (λ was. inl was) (λ p. inr (gives image p)) (run.before t image le since);
}

-- one write
pub called : (P : Image → Type 0) (n : ℕ) (bytes : Block) (old new : Disk) → Wrote n bytes old new → Settled P old → Settled P new → Leaves P old new
called P n bytes old new call here there = record {
  later = call.later;
  each = λ image since. ⊎_elim (λ was. here image (old.only_now image was)) (there image) (call.since old.moment image (omega arith) since);
  before = λ t image le since. ⊎_elim (λ was. inl was) (λ now. inr (there image now)) (call.since t image le since);
}

-- calls that change nothing
pub stayed : (P : Image → Type 0) (old new : Disk) → Unchanged old new → Settled P old → Leaves P old new
stayed P old new same here = record {
  later = same.later;
  each = λ image since. here image (old.only_now image (same.since old.moment image (omega arith) since));
  before = λ t image le since. inl (same.since t image le since);
}

pub unchanged : (disk : Disk) → Unchanged disk disk
unchanged disk = record { later = omega arith; since = λ t image le since. since; reads = refl; may_hold = λ k c may. may }

pub unchanged_twice : (old mid new : Disk) → Unchanged old mid → Unchanged mid new → Unchanged old new
unchanged_twice old mid new first second = record {
  later = omega (arith, first.later, second.later);
  since = λ t image le since. first.since t image le (second.since t image (omega (arith, le, first.later)) since);
  reads = second.reads ∙ first.reads;
  may_hold = λ k c may. first.may_hold k c (second.may_hold k c may);
}

-- after a sync a power loss leaves what is read
pub one_image : (disk : Disk) → IsSynced disk → (image : Image) → MayLeave disk image → image ≡ disk.blocks
one_image disk synced image now = ext_get_or [] image disk.blocks now.size (λ n lt. synced n (get_or image n []) (now.each n (subst (λ (l : ℕ). n < l) now.size lt)))

-- what is read is what a power loss may leave
pub reads_now : (disk : Disk) → MayLeave disk disk.blocks
reads_now disk = record { size = refl; each = disk.stands }

pub length_wrote : (n : ℕ) (bytes : Block) (old new : Disk) → Wrote n bytes old new → length new.blocks ≡ length old.blocks
length_wrote n bytes old new call = ⊎_elim (λ e. ap length e) (λ e. ap length e ∙ length-set old.blocks n bytes) call.reads

-- after a write a power loss leaves what it could leave before, with the block as it read or with the new bytes
pub wrote_from : (n : ℕ) (bytes : Block) (old new : Disk) → n < length old.blocks → Wrote n bytes old new → (image : Image) → MayLeave new image
    → MayLeave old image ⊎ ((block_at image n ≡ bytes) × MayLeave old (set image n (block_at old.blocks n)))
wrote_from n bytes old new within call image now = elim (call.may_hold n (block_at image n) (now.each n (omega (arith, within, same_length)))) [
  | inl was ↦ inl (record {
    size = now.size ∙ same_length;
    each = λ k lt. elim (cases_eq k n) [
      | inl is ↦ subst (λ (i : ℕ). old.may_hold i (block_at image i)) (sym is) was
      | inr differs ↦ other k differs lt
    ];
  })
  | inr is_new ↦ inr (
    is_new.1,
    record {
      size = length-set image n (block_at old.blocks n) ∙ now.size ∙ same_length;
      each = λ k lt. elim (cases_eq k n) [
        | inl is ↦ subst (λ (i : ℕ). old.may_hold i (block_at (set image n (block_at old.blocks n)) i)) (sym is)
            (subst (old.may_hold n) (sym (get_or-set_same image n (block_at old.blocks n) [] (omega (arith, within, now.size, same_length)))) (old.stands n within))
        | inr differs ↦ subst (old.may_hold k) (sym (get_or-set_other image n k (block_at old.blocks n) [] differs)) (other k differs lt)
      ];
    },
  )
]
  where
    same_length : length new.blocks ≡ length old.blocks
    same_length = length_wrote n bytes old new call

    other : (k : ℕ) → k ≢ n → k < length old.blocks → old.may_hold k (block_at image k)
    other k differs lt = ⊎_elim (λ was. was) (λ e. absurd (differs e.0)) (call.may_hold k (block_at image k) (now.each k (omega (arith, lt, same_length))))

-- A relation between images that runs of calls can be joined by.
pub record Joins (R : Image → Image → Type 0) : Type 0 where
  pub same : (a : Image) → R a a
  pub next : (a b c : Image) → R a b → R b c → R a c

-- a run that has moved nothing yet
pub at_rest : (R : Image → Image → Type 0) → Joins R → (disk : Disk) → Moves R disk disk
at_rest R joins disk = started (ComesBy R disk) disk (λ image now. (image, now, joins.same image))

-- a run that moves by R, and then what comes by R from there
pub moved_on : (R : Image → Image → Type 0) → Joins R → (old mid : Disk) → Moves R old mid → (image : Image) → ComesBy R mid image → ComesBy R old image
moved_on R joins old mid run image from =
    let was = settled_now (ComesBy R old) old mid run from.0 from.1 in
    (was.0, was.1, joins.next was.0 from.0 image was.2 from.2)

pub moved_twice : (R : Image → Image → Type 0) → Joins R → (old mid new : Disk) → Moves R old mid → Moves R mid new → Moves R old new
moved_twice R joins old mid new first second = joined (ComesBy R old) old mid new first (weakened (ComesBy R mid) (ComesBy R old) mid new (moved_on R joins old mid first) second)

-- a run that moves by R, where R says more than S
pub weaker_moves : (R S : Image → Image → Type 0) (old new : Disk) → ((a b : Image) → R a b → S a b) → Moves R old new → Moves S old new
weaker_moves R S old new gives run = weakened (ComesBy R old) (ComesBy S old) old new (λ image from. (from.0, from.1, gives from.0 image from.2)) run

-- A write of one block moves by R, where R allows these bytes in each image that has there what was read.
pub write_moves : (R : Image → Image → Type 0) → Joins R → (n : ℕ) (bytes : Block) (old new : Disk) → n < length old.blocks → Wrote n bytes old new
    → ((from : Image) → n < length from → block_at from n ≡ block_at old.blocks n → R from (set from n bytes)) → Moves R old new
write_moves R joins n bytes old new within call change =
    called (ComesBy R old) n bytes old new call (λ image now. (image, now, joins.same image)) (λ image now. ⊎_elim
    (λ was. (image, was, joins.same image))
    (λ wrote.
    let from = set image n (block_at old.blocks n) in
    let long : n < length image = omega (arith, within, now.size, length_wrote n bytes old new call) in (
      from,
      wrote.1,
      subst (R from)
          (set-set image n (block_at old.blocks n) bytes ∙ ap (λ (b : Block). set image n b) (sym wrote.0) ∙ set-get_or image n [])
          (change from (omega (arith, long, length-set image n (block_at old.blocks n))) (get_or-set_same image n (block_at old.blocks n) [] long)),
    ))
    (wrote_from n bytes old new within call image now))

-- one write more
pub then_writes : (P : Image → Type 0) (n : ℕ) (bytes : Block) (old mid new : Disk) → Leaves P old mid → Wrote n bytes mid new → Settled P new → Leaves P old new
then_writes P n bytes old mid new run call there = joined P old mid new run (called P n bytes mid new call (settled_now P old mid run) there)

pub then_stays : (P : Image → Type 0) (old mid new : Disk) → Leaves P old mid → Unchanged mid new → Leaves P old new
then_stays P old mid new run same = joined P old mid new run (stayed P mid new same (settled_now P old mid run))

-- a write to a medium that was synced leaves all as it was, or with this block
pub wrote_synced : (n : ℕ) (bytes : Block) (old new : Disk) → n < length old.blocks → IsSynced old → Wrote n bytes old new
    → Settled (λ image. (image ≡ old.blocks) ⊎ (image ≡ set old.blocks n bytes)) new
wrote_synced n bytes old new within synced call image now = ⊎_elim
    (λ was. inl (one_image old synced image was))
    (λ wrote. inr (
    sym (set-get_or image n []) ∙ ap (λ (b : Block). set image n b) wrote.0
    ∙ sym (set-set image n (block_at old.blocks n) bytes)
    ∙ ap (λ (l : Image). set l n bytes) (one_image old synced (set image n (block_at old.blocks n)) wrote.1)))
    (wrote_from n bytes old new within call image now)

-- a write to a medium that was synced, where what was read and what it makes both have P
pub then_writes_synced : (P : Image → Type 0) (n : ℕ) (bytes : Block) (old mid new : Disk) → Leaves P old mid → n < length mid.blocks → IsSynced mid
    → P (set mid.blocks n bytes) → Wrote n bytes mid new → Leaves P old new
then_writes_synced P n bytes old mid new run within synced made call = then_writes P n bytes old mid new run call
    (λ image now. ⊎_elim
    (λ e. subst P (sym e) (settled_now P old mid run mid.blocks (reads_now mid)))
    (λ e. subst P (sym e) made)
    (wrote_synced n bytes mid new within synced call image now))

pub put_more : (blocks : Image) (first : ℕ) (bytes : Image) (one : Block) → first + length bytes < length blocks
    → set (put_blocks blocks first bytes) (first + length bytes) one ≡ put_blocks blocks first (bytes ++ one ∷ [])
put_more blocks first bytes one room =
    let at = first + length bytes in
    ap (λ (l : Image). set ((take first blocks ++ bytes) ++ l) at one) (drop_more blocks at [] room)
    ∙ set_at (take first blocks ++ bytes) (get_or blocks at []) (drop (at + 1) blocks) one at (omega (arith, length-append (take first blocks) bytes, length-take-le first blocks (omega (arith, room))))
    ∙ (sym (append_assoc (take first blocks ++ bytes) (one ∷ []) (drop (at + 1) blocks)))
    ∙ ap (λ (l : Image). l ++ drop (at + 1) blocks) (append_assoc (take first blocks) bytes (one ∷ []))
    ∙ ap (λ (k : ℕ). (take first blocks ++ (bytes ++ one ∷ [])) ++ drop k blocks) (omega (arith, length-append bytes (one ∷ [])))

pub but : (n : ℕ) → Joins (SameBut n)
but n = record { same = λ a. record { size = refl; others = λ k differs. refl }; next = λ a b c x y. record { size = y.size ∙ x.size; others = λ k differs. y.others k differs ∙ x.others k differs } }

-- a write of one block, as one that nothing names yet
pub write_but : (n : ℕ) (bytes : Block) (old new : Disk) → n < length old.blocks → Wrote n bytes old new → Moves (SameBut n) old new
write_but n bytes old new within call =
    write_moves (SameBut n) (but n) n bytes old new within call (λ from long reads. record {
      size = length-set from n bytes;
      others = λ k differs. get_or-set_other from n k bytes [] differs;
    })

-- a call that changes nothing
pub moved_nowhere : (R : Image → Image → Type 0) → Joins R → (old new : Disk) → Unchanged old new → Moves R old new
moved_nowhere R joins old new same = stayed (ComesBy R old) old new same (λ image now. (image, now, joins.same image))

-- what is settled stays so where nothing changes
pub settled_stays : (P : Image → Type 0) (old new : Disk) → Unchanged old new → Settled P old → Settled P new
settled_stays P old new same here = settled_now P old new (stayed P old new same here)

-- what is settled holds of what is read
pub settled_reads : (P : Image → Type 0) (disk : Disk) → Settled P disk → P disk.blocks
settled_reads P disk here = here disk.blocks (reads_now disk)

-- a power loss leaves whole blocks
pub whole_left : (disk : Disk) (image : Image) → MayLeave disk image → IsWhole image
whole_left disk image now n lt =
    let within : n < length disk.blocks = omega (arith, lt, now.size) in
    disk.whole n (block_at image n) within (now.each n within)

pub whole_reads : (disk : Disk) → IsWhole disk.blocks
whole_reads disk = whole_left disk disk.blocks (reads_now disk)

puts_next : (first : ℕ) (bytes a b c : Image) → PutsSome first bytes a b → PutsSome first bytes b c → PutsSome first bytes a c
puts_next first bytes a b c x y = record {
  size = y.size ∙ x.size;
  each = λ k. ⊎_elim
      (λ same. ⊎_elim (λ was. inl (same ∙ was)) (λ put. inr (put.0, put.1, same ∙ put.2)) (x.each k))
      (λ put. inr put) (y.each k);
}

pub puts : (first : ℕ) (bytes : Image) → Joins (PutsSome first bytes)
puts first bytes = record { same = λ a. record { size = refl; each = λ k. inl refl }; next = puts_next first bytes }

-- one of the blocks put in its place
pub puts_one : (first i : ℕ) (bytes from : Image) → i < length bytes → first + i < length from → PutsSome first bytes from (set from (first + i) (block_at bytes i))
puts_one first i bytes from among long = record {
  size = length-set from (first + i) (block_at bytes i);
  each = λ k. elim (cases_eq k (first + i)) [
    | inl is ↦ inr (
      omega (arith, is),
      omega (arith, is, among),
      subst (λ (j : ℕ). block_at (set from (first + i) (block_at bytes i)) j ≡ block_at bytes (j - first)) (sym is)
          (get_or-set_same from (first + i) (block_at bytes i) [] long ∙ ap (block_at bytes) (omega arith)),
    )
    | inr differs ↦ inl (get_or-set_other from (first + i) k (block_at bytes i) [] differs)
  ];
}

-- a write of one of the blocks, and what reads then give
pub write_puts : (first i : ℕ) (bytes : Image) (old new : Disk) → i < length bytes → first + i < length old.blocks → Wrote (first + i) (block_at bytes i) old new
    → Moves (PutsSome first bytes) old new
write_puts first i bytes old new among within call =
    write_moves (PutsSome first bytes) (puts first bytes) (first + i) (block_at bytes i) old new within call (λ from long reads. puts_one first i bytes from among long)

pub read_puts : (first i : ℕ) (bytes : Image) (old new : Disk) → i < length bytes → first + i < length old.blocks → Wrote (first + i) (block_at bytes i) old new
    → PutsSome first bytes old.blocks new.blocks
read_puts first i bytes old new among within call = ⊎_elim
    (λ e. subst (λ (l : Image). PutsSome first bytes old.blocks l) (sym e) ((puts first bytes).same old.blocks))
    (λ e. subst (λ (l : Image). PutsSome first bytes old.blocks l) (sym e) (puts_one first i bytes old.blocks among within))
    call.reads

-- blocks put from the first on leave those below it
pub below_puts : (first : ℕ) (bytes a b : Image) → PutsSome first bytes a b → SameBelow first 0 a b
below_puts first bytes a b moved = record {
  size = moved.size;
  blocks = λ k lt. ⊎_elim (λ e. e) (λ put. absurd (omega (arith, put.0, lt))) (moved.each k);
  tail = refl;
}
