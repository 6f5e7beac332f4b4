use Rattle.std.proofs.KnownBytes.{Appends-trans}
use Rattle.r10_images.proofs.Lines.{lines_at}
use Rattle.r10_images.proofs.listing.write_files.Goals as goal

pub loop-number-preserved : goal.loop-number-preserved
loop-number-preserved g c =
    let contents = g.W.Write.contents in
    rw (lines_at c.args.files.now c.loop-number.number c.loop-number-test.true) (Appends-trans _ (contents c.loop-number.writer) _ _ _ c.loop-number.invariant c.in-Ok.ensures.line)
