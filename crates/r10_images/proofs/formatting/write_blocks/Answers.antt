use Rattle.std.proofs.KnownBytes.{Appends-trans}
use Rattle.std.specs.Io.KnownBytes.{Appends}
use Rattle.r10_images.specs.Formatted.{formatted_block}
use Rattle.r10_images.proofs.Zeros.{image_bytes}
use Rattle.r10_images.proofs.formatting.write_blocks.Goals as goal

pub returns-in-Ok-write_zeros-clause-image : goal.returns-in-Ok-write_zeros-clause-image
returns-in-Ok-write_zeros-clause-image g c =
    let contents = g.W.Write.contents in
    let volume = c.args.volume.now in
    let block : Appends (contents c.write_zeros.new.writer) (contents c.write_block.new.writer) (formatted_block volume) = rw c.formatted_block.ensures at c.in-Ok-write_block.ensures.bytes in
    let two = Appends-trans (contents c.args.writer.now) (contents c.write_zeros.new.writer) (contents c.write_block.new.writer) _ _ c.in-Ok.ensures.zeros block in
    rw (← image_bytes c.args.blocks volume) (Appends-trans (contents c.args.writer.now) (contents c.write_block.new.writer) (contents c.write_zeros-2.new.writer) _ _ two c.in-Ok-write_zeros.ensures.zeros)
