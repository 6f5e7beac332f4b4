use Rattle.std.proofs.KnownBytes.{Appends-trans}
use Rattle.r10_images.proofs.Zeros.{zeros_more}
use Rattle.r10_images.proofs.formatting.write_zeros.Goals as goal

pub loop-done-preserved : goal.loop-done-preserved
loop-done-preserved g c =
    let contents = g.W.Write.contents in
    rw (zeros_more c.loop-done.done) (Appends-trans _ (contents c.loop-done.writer) _ _ _ c.loop-done.invariant c.in-Ok.ensures.bytes)
