use Rattle.std.proofs.Common.{◌≡◌, ◌≤◌, List, drop, length}
use Rattle.r10_body.specs.Packets.{Packet}
use Rattle.r10_control.specs.Reading.{ShowsAt}
use Rattle.r10_medium.specs.Disk.{Unchanged}
use Rattle.r10_held.specs.Auditing.{MayReadOn}
use Rattle.r10_held.proofs.Comparing.{Came}
use Rattle.r10_held.proofs.auditing.read_instalments.Given as goal

-- the cursor may go on, and came over the instalments so far
abbrev pub invariant-loop-place : goal.invariant-loop-place
invariant-loop-place g l =
    let disk = g.M.BlockMedium.disk in
    record {
      going : MayReadOn l.recorder.kept l.cursor;
      kept : l.recorder.kept ≡ l.fn.recorder.kept;
      same : Unchanged (disk l.fn.recorder.medium) (disk l.recorder.medium);
      no_fewer : (disk l.fn.recorder.medium).failures ≤ (disk l.recorder.medium).failures;
      lanes : l.recorder.lanes ≡ l.fn.recorder.lanes;
      file : l.cursor.file ≡ l.fn.cursor.file;
      came : (packets : List Packet) → ShowsAt l.fn.recorder.kept.work (disk l.fn.recorder.medium).blocks l.fn.cursor.file packets → l.fn.cursor.reading.covered ≤ length packets
          → Came packets l.fn.cursor l.cursor l.instalments (drop l.place l.instalments);
    }
