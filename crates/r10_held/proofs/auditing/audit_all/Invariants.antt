use Rattle.std.proofs.Common.{◌≡◌, ◌≤◌, None, take}
use Rattle.r10_medium.specs.Disk.{Unchanged}
use Rattle.r10_held.specs.Auditing.{audit_refusal}
use Rattle.r10_held.specs.Transcripts.{AllAgree}
use Rattle.r10_held.proofs.Several.{AllAbsentOrRead}
use Rattle.r10_held.proofs.auditing.audit_all.Given as goal

-- the transcripts so far agree
abbrev pub invariant-loop-place : goal.invariant-loop-place
invariant-loop-place g l =
    let disk = g.M.BlockMedium.disk in
    record {
      works : audit_refusal l.fn.recorder.kept ≡ None;
      kept : l.recorder.kept ≡ l.fn.recorder.kept;
      same : Unchanged (disk l.fn.recorder.medium) (disk l.recorder.medium);
      no_fewer : (disk l.fn.recorder.medium).failures ≤ (disk l.recorder.medium).failures;
      lanes : l.recorder.lanes ≡ l.fn.recorder.lanes;
      agree : AllAgree l.fn.recorder.kept.work (disk l.fn.recorder.medium).blocks (take l.place l.transcripts);
      asked : AllAbsentOrRead l.fn.recorder.kept.work (disk l.fn.recorder.medium).blocks (take l.place l.transcripts);
    }
