use Rattle.std.proofs.Common.{◌≡◌, List, ap, ◌∙◌, subst}
use Rattle.std.specs.Prelude.{IsTrue}
use Rattle.r10_cursor.specs.declared.cursor.Cursor.{Cursor}
use Rattle.r10_refinement.specs.KeptState.{Kept}
use Rattle.r10_held.specs.Auditing.{GoOn}
use Rattle.r10_held.specs.Transcripts.{beginning}
use Rattle.r10_held.specs.declared.transcript.Instalment.{Instalment}
use Rattle.r10_held.proofs.Agreeing.{read_so}
use Rattle.r10_held.proofs.Comparing.{still_shown}
use Rattle.r10_held.proofs.auditing.read_again.Goals as goal

pub returns-in-Ok-read_instalments-clause-agrees : goal.returns-in-Ok-read_instalments-clause-agrees
returns-in-Ok-read_instalments-clause-agrees g c =
    let disk = g.M.BlockMedium.disk in
    let t = c.args.transcript.now in
    let r = c.args.recorder.now in
    let open_r = c.open_again.new.recorder in
    let over_r = c.pass_over.new.recorder in
    let fresh = c.in-Ok.cursor in
    let over = c.pass_over.new.cursor in
    let opened = c.in-Ok.ensures in
    let passed = c.in_default.ensures in
    let yes = c.in-Ok-read_instalments.same in
    let list : c.as_slice-instalments.result.now ≡ t.instalments.items = c.as_slice-instalments.ensures.value in
    let place : c.begins_at.result ≡ beginning t.instalments.items = c.begins_at.ensures ∙ ap (λ (l : List Instalment). beginning l) list in
    let file : fresh.file ≡ t.file = ap (λ (k : Cursor). k.file) opened.opened in
    let work = λ (k : Kept). k.work in
    read_so r.kept.work (disk r.medium).blocks t yes r.kept.generation c.begins_at.result fresh over opened.opened place opened.there
    (λ packets shows. passed.covers packets
    (still_shown r.kept.work open_r.kept.work (disk r.medium).blocks (disk open_r.medium).blocks t.file fresh.file packets (ap work opened.reads.kept) opened.reads.same.reads file shows))
    (λ packets shows within.
    let there = still_shown r.kept.work over_r.kept.work (disk r.medium).blocks (disk over_r.medium).blocks t.file over.file packets (ap work (passed.reads.kept ∙ opened.reads.kept)) (passed.reads.same.reads ∙ opened.reads.same.reads) (passed.file ∙ file) shows in
    subst (λ (l : List Instalment). (IsTrue yes → GoOn packets over.reading.channels over.reading.from over.reading.to over.reading.covered l) × (GoOn packets over.reading.channels over.reading.from over.reading.to over.reading.covered l → IsTrue yes)) list
    (c.in-Ok-read_instalments.ensures.same packets there within))
