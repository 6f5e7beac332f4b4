use Rattle.std.proofs.Common.{◌≤◌, true≢false, length, sym, ◌∙◌, inr, arith}
use Rattle.r10_control.specs.Checks.{files_of}
use Rattle.r10_held.proofs.Absent.{absent_so}
use Rattle.r10_held.proofs.Agreeing.{shown_there}
use Rattle.r10_held.proofs.auditing.audit.Goals as goal

pub returns-in-Ok-clause-there : goal.returns-in-Ok-clause-there
returns-in-Ok-clause-there g c = inr c.in-Ok.ensures.there

pub returns-then-is_absence-clause-agrees : goal.returns-then-is_absence-clause-agrees
returns-then-is_absence-clause-agrees g c =
    let disk = g.M.BlockMedium.disk in
    let r = c.args.recorder.now in
    let t = c.args.transcript.now in
    let later = c.read_again.new.recorder in
    let absent : length (files_of r.kept.work) ≤ t.file = absent_so disk r.kept later.kept r.medium later.medium t.file t.channels t.first t.last c.in-Err.refusal (sym c.is_absence.ensures ∙ c.if-is_absence.true) c.in-Err.ensures.refused in
    (λ yes. absurd (true≢false (sym yes)), λ agrees. absurd (omega (arith, absent, shown_there r.kept.work (disk r.medium).blocks t.file agrees.packets agrees.shows)))
