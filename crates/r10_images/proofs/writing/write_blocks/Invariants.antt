use Rattle.std.proofs.Common.{◌≤◌, take}
use Rattle.std.specs.List.{concat}
use Rattle.std.specs.Io.KnownBytes.{Appends}
use Rattle.r10_medium.specs.Disk.{Unchanged}
use Rattle.r10_images.proofs.writing.write_blocks.Given as goal

-- the blocks so far are written, and the medium was only read
abbrev pub invariant-loop-n : goal.invariant-loop-n
invariant-loop-n g l =
    let disk = g.M.BlockMedium.disk in
    record {
      same : Unchanged (disk l.fn.medium) (disk l.medium);
      no_fewer : (disk l.fn.medium).failures ≤ (disk l.medium).failures;
      written : Appends (g.W.Write.contents l.fn.writer) (g.W.Write.contents l.writer) (concat (take l.n (disk l.fn.medium).blocks));
    }
