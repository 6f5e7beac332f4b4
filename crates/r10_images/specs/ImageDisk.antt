-- What an image reads as, and how often a write was tried.
use Rattle.std.specs.Prelude.{◌≡◌, ℕ, ◌*◌, ◌/◌, ◌-◌, ◌^◌, ◌<◌, ◌≤◌, List, [], length, drop, min, refl, Vec}
use Rattle.std.specs.declared.alloc.Global.{Global}
use Rattle.std.proofs.Common.{arith, ap, ◌∙◌}
use Rattle.std.proofs.lemmas.List.{length-take, length-drop}
use Rattle.std.proofs.lemmas.List.FromFn.{length-map-range_with_len, get_or-map-range_with_len}
use Rattle.r10_medium.specs.Disk.{Disk, block_at, IsWhole, PicksEach}
use Rattle.r10_medium.specs.Crashing.{stays_in_range}
use Rattle.r10_medium.specs.Memory.{reads_as}
use Rattle.r10_images.specs.Image.{cut, image_blocks}
use Rattle.r10_images.specs.declared.held.Image.{Image}

pub length-image_blocks : (bytes : List ℕ) → length (image_blocks bytes) ≡ length bytes / 512
length-image_blocks bytes = length-map-range_with_len (cut bytes) 0 (length bytes / 512)

pub block-image_blocks : (bytes : List ℕ) (n : ℕ) → n < length bytes / 512 → block_at (image_blocks bytes) n ≡ cut bytes n
block-image_blocks bytes n lt = get_or-map-range_with_len (cut bytes) 0 (length bytes / 512) n n [] lt (omega arith)

pub cut_is_whole : (bytes : List ℕ) (n : ℕ) → n < length bytes / 512 → length (cut bytes n) ≡ 512
cut_is_whole bytes n lt = omega (arith, lt, length-take 512 (drop (512 * n) bytes), length-drop (512 * n) bytes)

pub whole_image : (bytes : List ℕ) → IsWhole (image_blocks bytes)
whole_image bytes n lt =
    let inside : n < length bytes / 512 = omega (arith, lt, length-image_blocks bytes) in
    ap length (block-image_blocks bytes n inside) ∙ cut_is_whole bytes n inside

pub image_fits : (v : Vec ℕ Global) → length (image_blocks v.items) < 2 ^ 64
image_fits v = omega (arith, length-image_blocks v.items, v.ok.0, v.ok.1, v.small)

abbrev pub image_disk : Image → Disk
image_disk m = record {
  blocks = image_blocks m.bytes.items;
  may_hold = reads_as (image_blocks m.bytes.items);
  moment = 0;
  since = λ t image. PicksEach (image_blocks m.bytes.items) (reads_as (image_blocks m.bytes.items)) image;
  failures = min m.failures (2 ^ 64 - 1);
  stands = λ n lt. refl;
  whole = λ n c lt is. ap length is ∙ whole_image m.bytes.items n lt;
  counts_now = λ t image le picks. picks;
  only_now = λ image picks. picks;
  fits = image_fits m.bytes;
  at_most = stays_in_range m.failures;
}
