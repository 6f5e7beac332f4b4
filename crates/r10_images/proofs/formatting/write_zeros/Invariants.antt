use Rattle.std.proofs.Common.{replicate}
use Rattle.std.specs.List.{concat}
use Rattle.std.specs.Io.KnownBytes.{Appends}
use Rattle.r10_medium.specs.Memory.{zeros}
use Rattle.r10_images.proofs.formatting.write_zeros.Given as goal

-- the blocks so far are written
abbrev pub invariant-loop-done : goal.invariant-loop-done
invariant-loop-done g l = Appends (g.W.Write.contents l.fn.writer) (g.W.Write.contents l.writer) (concat (replicate l.done zeros))
