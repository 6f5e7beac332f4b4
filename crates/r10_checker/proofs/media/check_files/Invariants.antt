use Rattle.std.proofs.Common.{◌≤◌, take}
use Rattle.std.specs.List.{AllZip}
use Rattle.r10_medium.specs.Disk.{Unchanged}
use Rattle.r10_checker.specs.Checked.{IsFileVerdict}
use Rattle.r10_checker.proofs.media.check_files.Given as goal

-- the files so far have their verdicts
abbrev pub invariant-loop-file : goal.invariant-loop-file
invariant-loop-file g l =
    let disk = g.M.BlockMedium.disk in
    record {
      same : Unchanged (disk l.fn.medium) (disk l.medium);
      no_fewer : (disk l.fn.medium).failures ≤ (disk l.medium).failures;
      verdicts : AllZip (IsFileVerdict (disk l.fn.medium).blocks) (take l.file-index l.files) l.said.items;
    }
