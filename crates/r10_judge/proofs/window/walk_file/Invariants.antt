use Rattle.std.proofs.Common.{◌≡◌, ◌+◌, ◌-◌, ◌*◌, ◌<◌, ◌≤◌, length, take}
use Rattle.r10_medium.specs.Disk.{Unchanged}
use Rattle.r10_judge.specs.Files.{file_at}
use Rattle.r10_judge.specs.Walks.{TracksWalked}
use Rattle.r10_judge.proofs.window.walk_file.Given as goal

abbrev pub invariant-loop-at : goal.invariant-loop-at
invariant-loop-at g l =
    let disk = g.M.BlockMedium.disk in
    record {
      inside : l.at ≤ l.extent.size;
      window : 0 < l.window;
      within : 512 * l.extent.first + l.extent.size ≤ 512 * length (disk l.medium).blocks;
      stands : TracksWalked l.walk (take l.at (file_at (disk l.fn.medium).blocks l.extent));
      closed : l.walk.judge.closed ≡ l.closed;
      same : Unchanged (disk l.fn.medium) (disk l.medium);
      no_fewer : (disk l.fn.medium).failures ≤ (disk l.medium).failures;
    }

abbrev pub decreases-loop-at : goal.decreases-loop-at
decreases-loop-at g l = (l.extent.size - l.at) + (l.extent.size - l.window)
