use Rattle.std.proofs.Common.{take}
use Rattle.std.specs.Io.KnownBytes.{Appends}
use Rattle.r10_images.specs.Listing.{listed_file_lines}
use Rattle.r10_images.proofs.listing.write_files.Given as goal

-- the lines so far are written
abbrev pub invariant-loop-number : goal.invariant-loop-number
invariant-loop-number g l = Appends (g.W.Write.contents l.fn.writer) (g.W.Write.contents l.writer) (listed_file_lines 0 (take l.number l.files))
