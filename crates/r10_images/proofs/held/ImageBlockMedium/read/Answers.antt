use Rattle.std.proofs.Common.{ℕ, ◌≡◌, ◌<◌, ◌+◌, ◌-◌, ◌*◌, ◌/◌, ◌^◌, sym, ap, ◌∙◌, arith, rules, length, take, drop}
use Rattle.r10_images.specs.Image.{cut}
use Rattle.r10_images.specs.ImageDisk.{length-image_blocks, block-image_blocks}
use Rattle.r10_images.proofs.held.ImageBlockMedium.read.Goals as goal

pub overflow_mul-n : goal.overflow_mul-n
overflow_mul-n c =
    let bytes = c.args.self.now.bytes.items in
    let bound : 512 * c.args.n + 512 < 2 ^ 64 = omega (arith, c.requires, length-image_blocks bytes, ap length c.deref.ensures.value, c.deref.type_inv.0) in
    search rules

pub overflow_mul-n-2 : goal.overflow_mul-n-2
overflow_mul-n-2 c =
    let bytes = c.args.self.now.bytes.items in
    let bound : 512 * c.args.n + 512 < 2 ^ 64 = omega (arith, c.requires, length-image_blocks bytes, ap length c.deref.ensures.value, c.deref.type_inv.0) in
    search rules

pub overflow_add-n : goal.overflow_add-n
overflow_add-n c =
    let bytes = c.args.self.now.bytes.items in
    let bound : 512 * c.args.n + 512 < 2 ^ 64 = omega (arith, c.requires, length-image_blocks bytes, ap length c.deref.ensures.value, c.deref.type_inv.0) in
    search rules

pub slice_bounds-copy_from_slice-end-2 : goal.slice_bounds-copy_from_slice-end-2
slice_bounds-copy_from_slice-end-2 c =
    let bytes = c.args.self.now.bytes.items in
    omega (arith, c.requires, length-image_blocks bytes, ap length c.deref.ensures.value)

pub returns-clause-read : goal.returns-clause-read
returns-clause-read c =
    let bytes = c.args.self.now.bytes.items in
    let n = c.args.n in
    let inside : n < length bytes / 512 = omega (arith, c.requires, length-image_blocks bytes) in
    let count : 512 * n + 512 - 512 * n ≡ 512 = omega arith in
    let here : take (512 * n + 512 - 512 * n) (drop (512 * n) c.deref.result.now) ≡ cut bytes n =
    ap (λ (k : ℕ). take k (drop (512 * n) c.deref.result.now)) count ∙ ap (λ l. take 512 (drop (512 * n) l)) c.deref.ensures.value in
    c.copy_from_slice.ensures.after ∙ here ∙ sym (block-image_blocks bytes n inside)
