use Rattle.std.proofs.Common.{◌≡◌, ◌<◌, ◌∙◌, length, take, arith, ap}
use Rattle.std.proofs.KnownBytes.{Appends-trans}
use Rattle.std.specs.List.{concat}
use Rattle.std.specs.Io.KnownBytes.{Appends}
use Rattle.r10_medium.specs.Disk.{Image, block_at}
use Rattle.r10_medium.proofs.PowerLoss.{unchanged_twice}
use Rattle.r10_images.proofs.Blocks.{blocks_more}
use Rattle.r10_images.proofs.writing.write_blocks.Goals as goal

pub loop-n-preserved : goal.loop-n-preserved
loop-n-preserved g c =
    let disk = g.M.BlockMedium.disk in
    let contents = g.W.Write.contents in
    let image = (disk c.args.medium.now).blocks in
    let n = c.loop-n.n in
    let inside : n < length image = omega (arith, c.loop-n-test.true, c.blocks-n-end.ensures) in
    let block : c.read.new.block ≡ block_at image n = c.in-Ok.ensures.read ∙ ap (λ (i : Image). block_at i n) c.loop-n.invariant.same.reads in
    let put : Appends (contents c.loop-n.writer) (contents c.write_block.new.writer) (block_at image n) = rw block at c.in-Ok-write_block.ensures.bytes in
    record {
      same = unchanged_twice _ _ _ c.loop-n.invariant.same c.in-Ok.ensures.same;
      no_fewer = omega (arith, c.loop-n.invariant.no_fewer, c.read.ensures.counts.no_fewer);
      written = rw (blocks_more image n inside) (Appends-trans (contents c.args.writer.now) (contents c.loop-n.writer) (contents c.write_block.new.writer) (concat (take n image)) (block_at image n) c.loop-n.invariant.written put);
    }
