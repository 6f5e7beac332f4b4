-- What a layer shows after its steps.
use Rattle.std.proofs.Common.{◌≡◌, ⊎_elim, inl, inr, ℕ, ◌<◌, List, [], length, set, refl, sym, ◌∙◌, ap, subst, arith, get_or-set_same, get_or-set_other}
use Rattle.std.proofs.lemmas.Bool.{cases_eq}
use Rattle.r10_medium.specs.Disk.{Disk, Image, Block, block_at, PicksEach, Unchanged, Wrote}
use Rattle.r10_sector.specs.Held.{Held, AreSectors, put_sectors, recovered}
use Rattle.r10_sector.specs.Plate.{Plate, Stays}
use Rattle.r10_sector.specs.declared.side.Side.{Side}
use Rattle.r10_sector.proofs.Placing.{length_put}
use Rattle.r10_doublewrite.specs.Guarding.{RecoveryGives, IsBeforeOrAfter, IsGuarded}
use Rattle.r10_doublewrite.specs.Layer.{MayShow, layer_over}

-- an image of which each block may be shown
abbrev pub IsShown : {per : ℕ} → Plate per → Image → Image → Type 0
IsShown p shown image = (length image ≡ length shown) × ((n : ℕ) → MayShow p shown n (block_at image n))

-- what a step gives may all be shown, and reads stay
pub unchanged_by : {per : ℕ} (good : Image → Type 0) (a d : Plate per) (fs fs' : List ℕ) (bs bs' : Image)
    (ok : AreSectors per (length a.now.image) fs bs) (ok' : AreSectors per (length d.now.image) fs' bs') (refused refused' : ℕ)
    → RecoveryGives good a d → put_sectors per fs' bs' d.now.image ≡ put_sectors per fs bs a.now.image
    → ((image : Image) → good image → IsShown a (put_sectors per fs bs a.now.image) image)
    → Unchanged (layer_over a fs bs ok refused) (layer_over d fs' bs' ok' refused')
unchanged_by {per = per} good a d fs fs' bs bs' ok ok' refused refused' gives same fine = record {
  later = gives.later;
  since = λ t image le since. ⊎_elim
      (λ was. ⊎_elim
      (λ before. inl (was.0, before, was.2))
      (λ now. inr (subst (PicksEach shown (MayShow a shown)) (sym was.2) (record { size = (fine (recovered per was.0) now).0; each = λ n lt. (fine (recovered per was.0) now).1 n })))
      (gives.since t was.0 le was.1))
      (λ now. inr (record { size = now.size ∙ ap length same; each = λ n lt. held n (block_at image n) (now.each n (omega (arith, lt, ap length same))) }))
      since;
  reads = same;
  may_hold = held;
}
  where
    shown : Image
    shown = put_sectors per fs bs a.now.image

    recovers : (n : ℕ) (c : Block) → ((h : Held) × d.left h × (c ≡ block_at (recovered per h) n)) → MayShow a shown n c
    recovers n c left = ⊎_elim
        (λ was. inr (left.0, was, left.2))
        (λ now. subst (MayShow a shown n) (sym left.2) ((fine (recovered per left.0) now).1 n))
        (gives.left left.0 left.1)

    held : (n : ℕ) (c : Block) → MayShow d (put_sectors per fs' bs' d.now.image) n c → MayShow a shown n c
    held n c may = ⊎_elim (λ e. inl (e ∙ ap (λ (l : Image). block_at l n) same)) (λ left. recovers n c left) may

-- what was read before a batch, or after it, may be shown before it
pub batch_shown : {per : ℕ} (a : Plate per) (fs : List ℕ) (bs : Image) (ok : AreSectors per (length a.now.image) fs bs) (next : Side) (number : ℕ) → IsGuarded a next number
    → (image : Image) → IsBeforeOrAfter a.now.image (put_sectors per fs bs a.now.image) image → IsShown a (put_sectors per fs bs a.now.image) image
batch_shown {per = per} a fs bs ok next number guard image (inl before) = (
  ap length before ∙ sym (length_put per (length a.now.image) fs bs a.now.image ok.size ok.within refl),
  λ n. inr (a.now, a.stands, ap (λ (l : Image). block_at l n) (before ∙ sym (guard.both a.now a.stands))),
)
batch_shown {per = per} a fs bs ok next number guard image (inr after) = (ap length after, λ n. inl (ap (λ (l : Image). block_at l n) after))

-- nothing at all
abbrev pub NoImage : Image → Type 0
NoImage image = ⊥

pub gives_none : {per : ℕ} (a d : Plate per) → Stays a d → RecoveryGives NoImage a d
gives_none a d stays = record { later = stays.later; since = λ t h le since. inl (stays.since t h le since); left = λ h left. inl (stays.left h left) }

-- reads of the device, and what is shown stays
pub unchanged_stays : {per : ℕ} (a d : Plate per) (fs fs' : List ℕ) (bs bs' : Image)
    (ok : AreSectors per (length a.now.image) fs bs) (ok' : AreSectors per (length d.now.image) fs' bs') (refused refused' : ℕ)
    → Stays a d → put_sectors per fs' bs' d.now.image ≡ put_sectors per fs bs a.now.image
    → Unchanged (layer_over a fs bs ok refused) (layer_over d fs' bs' ok' refused')
unchanged_stays a d fs fs' bs bs' ok ok' refused refused' stays same =
    unchanged_by NoImage a d fs fs' bs bs' ok ok' refused refused' (gives_none a d stays) same (λ image none. absurd none)

pub image_stays : {per : ℕ} (a d : Plate per) → Stays a d → d.now.image ≡ a.now.image
image_stays a d stays = ap (λ (h : Held). h.image) stays.now

pub shown_stays : {per : ℕ} (a d : Plate per) (fs : List ℕ) (bs : Image) → Stays a d → put_sectors per fs bs d.now.image ≡ put_sectors per fs bs a.now.image
shown_stays {per = per} a d fs bs stays = ap (put_sectors per fs bs) (image_stays a d stays)

-- one block is written
pub wrote_by : {per : ℕ} (p : Plate per) (fs : List ℕ) (bs bs' : Image) (ok : AreSectors per (length p.now.image) fs bs) (ok' : AreSectors per (length p.now.image) fs bs') (refused n : ℕ) (b : Block)
    → n < length p.now.image → put_sectors per fs bs' p.now.image ≡ set (put_sectors per fs bs p.now.image) n b
    → Wrote n b (layer_over p fs bs ok refused) (layer_over p fs bs' ok' refused)
wrote_by {per = per} p fs bs bs' ok ok' refused n b lt is = record {
  later = omega arith;
  since = λ t image le since. ⊎_elim (λ was. inl (inl was)) (λ now. inr now) since;
  reads = inr is;
  may_hold = λ k c may. ⊎_elim
      (λ e. elim (cases_eq k n) [
        | inl same ↦ inr (same, e ∙ ap (λ (l : Image). block_at l k) is ∙ ap (block_at (set shown n b)) same ∙ get_or-set_same shown n b [] (omega (arith, lt, length_put per (length p.now.image) fs bs p.now.image ok.size ok.within refl)))
        | inr differs ↦ inl (inl (e ∙ ap (λ (l : Image). block_at l k) is ∙ get_or-set_other shown n k b [] differs))
      ])
      (λ left. inl (inr left))
      may;
}
  where
    shown : Image
    shown = put_sectors per fs bs p.now.image

-- a write after a step that changed nothing
pub wrote_after : (n : ℕ) (b : Block) (old mid new : Disk) → Unchanged old mid → Wrote n b mid new → Wrote n b old new
wrote_after n b old mid new same wrote = record {
  later = omega (arith, same.later, wrote.later);
  since = λ t image le since. ⊎_elim (λ was. inl (same.since t image le was)) (λ now. inr now) (wrote.since t image (omega (arith, le, same.later)) since);
  reads = ⊎_elim (λ e. inl (e ∙ same.reads)) (λ e. inr (e ∙ ap (λ (l : Image). set l n b) same.reads)) wrote.reads;
  may_hold = λ k c may. ⊎_elim (λ was. inl (same.may_hold k c was)) (λ now. inr now) (wrote.may_hold k c may);
}

-- a step that changed nothing, as a write that was not done
pub wrote_none : (n : ℕ) (b : Block) (old new : Disk) → Unchanged old new → Wrote n b old new
wrote_none n b old new same = record {
  later = same.later;
  since = λ t image le since. inl (same.since t image le since);
  reads = inl same.reads;
  may_hold = λ k c may. inl (same.may_hold k c may);
}

pub stays_itself : {per : ℕ} (a : Plate per) → Stays a a
stays_itself a = record { later = omega arith; since = λ t h le since. since; left = λ h left. left; now = refl }

-- the same sectors under other names
pub put_alike : (per : ℕ) (fs fs0 : List ℕ) (bs bs0 image : Image) → fs0 ≡ fs → bs0 ≡ bs → put_sectors per fs0 bs0 image ≡ put_sectors per fs bs image
put_alike per fs fs0 bs bs0 image firsts blocks = ap (λ (l : List ℕ). put_sectors per l bs0 image) firsts ∙ ap (λ (l : Image). put_sectors per fs l image) blocks

-- a batch
pub batch_unchanged : {per : ℕ} (a d : Plate per) (fs fs' fs0 : List ℕ) (bs bs' bs0 : Image)
    (ok : AreSectors per (length a.now.image) fs bs) (ok' : AreSectors per (length d.now.image) fs' bs') (refused refused' : ℕ) (next : Side) (number : ℕ)
    → fs0 ≡ fs → bs0 ≡ bs → IsGuarded a next number → RecoveryGives (IsBeforeOrAfter a.now.image (put_sectors per fs0 bs0 a.now.image)) a d
    → put_sectors per fs' bs' d.now.image ≡ put_sectors per fs0 bs0 a.now.image
    → Unchanged (layer_over a fs bs ok refused) (layer_over d fs' bs' ok' refused')
batch_unchanged {per = per} a d fs fs' fs0 bs bs' bs0 ok ok' refused refused' next number firsts blocks guard gives same =
    unchanged_by (IsBeforeOrAfter a.now.image (put_sectors per fs bs a.now.image)) a d fs fs' bs bs' ok ok' refused refused'
    (subst (λ (l : Image). RecoveryGives (IsBeforeOrAfter a.now.image l) a d) alike gives) (same ∙ alike) (batch_shown a fs bs ok next number guard)
  where
    alike : put_sectors per fs0 bs0 a.now.image ≡ put_sectors per fs bs a.now.image
    alike = put_alike per fs fs0 bs bs0 a.now.image firsts blocks
