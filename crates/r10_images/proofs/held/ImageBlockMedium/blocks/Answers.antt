use Rattle.std.proofs.Common.{arith}
use Rattle.r10_images.specs.ImageDisk.{length-image_blocks}
use Rattle.r10_images.proofs.held.ImageBlockMedium.blocks.Goals as goal

pub returns : goal.returns
returns c = omega (arith, length-image_blocks c.args.self.now.bytes.items, c.len.ensures)
