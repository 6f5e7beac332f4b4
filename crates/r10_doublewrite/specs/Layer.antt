-- The disk of blocks that a device of sectors shows through what was written and not yet synced.
use Rattle.std.specs.Prelude.{◌≡◌, ◌⊎◌, ℕ, ◌+◌, ◌-◌, ◌^◌, ◌<◌, List, length, min, refl}
use Rattle.std.proofs.Common.{inl, inr, ⊎_elim, ap, sym, ◌∙◌, arith}
use Rattle.r10_medium.specs.Crashing.{stays_in_range}
use Rattle.r10_medium.specs.Disk.{Disk, Image, Block, block_at, PicksEach}
use Rattle.r10_sector.specs.Held.{Held, AreSectors, put_sectors, recovered}
use Rattle.r10_sector.specs.Plate.{Plate}
use Rattle.r10_sector.proofs.Placing.{length_put, whole_put}
use Rattle.r10_sector.proofs.Recovering.{recovered_size, recovered_whole}

-- a power loss now leaves this in block n, once recovery was done: what is read, or what recovery makes of what the device may
-- leave
abbrev pub MayShow : {per : ℕ} → Plate per → Image → ℕ → Block → Type 0
MayShow {per = per} p shown n c = (c ≡ block_at shown n) ⊎ ((h : Held) × p.left h × (c ≡ block_at (recovered per h) n))

-- a power loss at some moment from t on left this, once recovery was done
abbrev pub ShownSince : {per : ℕ} → Plate per → Image → ℕ → Image → Type 0
ShownSince {per = per} p shown t image = ((h : Held) × p.since t h × (image ≡ recovered per h))
    ⊎ PicksEach shown (MayShow p shown) image

module _ {per : ℕ} (p : Plate per) (fs : List ℕ) (bs : Image) (ok : AreSectors per (length p.now.image) fs bs) where
  shown_size : length (put_sectors per fs bs p.now.image) ≡ length p.now.image
  shown_size = length_put per (length p.now.image) fs bs p.now.image ok.size ok.within refl

  pub shown_fits : length (put_sectors per fs bs p.now.image) < 2 ^ 64
  shown_fits = omega (arith, shown_size, p.fits)

  pub shown_whole : (n : ℕ) (c : Block) → n < length (put_sectors per fs bs p.now.image)
      → MayShow p (put_sectors per fs bs p.now.image) n c → length c ≡ 512
  shown_whole n c lt may = ⊎_elim
      (λ is. ap length is ∙ whole_put per (length p.now.image) fs bs p.now.image ok.size ok.within refl ok.whole
      (p.sized p.now p.stands).whole n lt)
      (λ left. ap length left.2 ∙ recovered_whole per (length p.now.image) left.0 (p.sized left.0 left.1) n
      (omega (arith, lt, shown_size, recovered_size per (length p.now.image) left.0 (p.sized left.0 left.1))))
      may

  pub shown_only : (image : Image) → ShownSince p (put_sectors per fs bs p.now.image) p.moment image
      → PicksEach (put_sectors per fs bs p.now.image) (MayShow p (put_sectors per fs bs p.now.image)) image
  shown_only image since = ⊎_elim
      (λ was. record {
        size = ap length was.2 ∙ recovered_size per (length p.now.image) was.0 (p.sized was.0 (p.only_now was.0 was.1))
            ∙ sym shown_size;
        each = λ n lt. inr (was.0, p.only_now was.0 was.1, ap (λ (l : Image). block_at l n) was.2);
      })
      (λ now. now)
      since

-- what is written and not yet synced: these sectors; and how often the layer itself refused
abbrev pub layer_over : {per : ℕ} → (p : Plate per) (fs : List ℕ) (bs : Image) → AreSectors per (length p.now.image) fs bs → ℕ
    → Disk
layer_over {per = per} p fs bs ok refused = record {
  blocks = put_sectors per fs bs p.now.image;
  may_hold = MayShow p (put_sectors per fs bs p.now.image);
  moment = p.moment;
  since = ShownSince p (put_sectors per fs bs p.now.image);
  failures = min (p.failures + refused) (2 ^ 64 - 1);
  stands = λ n lt. inl refl;
  whole = shown_whole p fs bs ok;
  counts_now = λ t image le now. inr now;
  only_now = shown_only p fs bs ok;
  fits = shown_fits p fs bs ok;
  at_most = stays_in_range (p.failures + refused);
}
