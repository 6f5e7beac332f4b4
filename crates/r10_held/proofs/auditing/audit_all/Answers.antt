use Rattle.std.proofs.Common.{◌≡◌, Bool, true≢false, None, refl, sym, ap, ◌∙◌, subst, arith}
use Rattle.std.specs.Prelude.{IsTrue}
use Rattle.r10_control.specs.Refused.{RefusesCall}
use Rattle.r10_refinement.specs.KeptState.{Kept, Work}
use Rattle.r10_medium.specs.Disk.{Image}
use Rattle.r10_medium.proofs.PowerLoss.{unchanged_twice}
use Rattle.r10_held.specs.Auditing.{IsAbsentOrRead, IsAuditRefusal, IsFirstRefused, audit_refusal}
use Rattle.r10_held.specs.Transcripts.{Agrees}
use Rattle.r10_held.proofs.Refusing.{other_checks, refused_behind}
use Rattle.r10_held.proofs.Several.{agree_further, asked_all, asked_further, asked_until, first_refused}
use Rattle.r10_held.proofs.auditing.audit_all.Goals as goal

pub returns-in-Err-audit-clause-refused : goal.returns-in-Err-audit-clause-refused
returns-in-Err-audit-clause-refused g c =
    let disk = g.M.BlockMedium.disk in
    let now = c.loop-place.invariant in
    let r = c.args.recorder.now in
    let at = c.loop-place.recorder in
    let later = c.audit.new.recorder in
    let refusal = c.in-Err-audit.refusal in
    let e = c.in-Err-audit.ensures in
    let t = c.index-transcripts-place.result in
    let works : audit_refusal at.kept ≡ None = subst (λ (k : Kept). audit_refusal k ≡ None) (sym now.kept) now.works in
    let lacks = IsAuditRefusal at.kept.work (disk at.medium).blocks t.file in
    let lacked = IsFirstRefused r.kept.work (disk r.medium).blocks c.args.transcripts.now in
    let here = other_checks disk (audit_refusal at.kept) None lacks at.kept later.kept at.medium later.medium refusal works refl e.refused in
    let behind = refused_behind disk lacks lacked at.kept later.kept r.medium at.medium later.medium refusal
    (λ x is. first_refused r.kept.work (disk r.medium).blocks c.args.transcripts.now c.loop-place.place t x c.loop-place-test.true c.index-transcripts-place.is now.agree
    (subst (λ (w : Work). IsAuditRefusal w (disk r.medium).blocks t.file x) (ap (λ (k : Kept). k.work) now.kept) (subst (λ (i : Image). IsAuditRefusal at.kept.work i t.file x) now.same.reads is)))
    now.same now.no_fewer e.reads.no_fewer here in
    other_checks disk None (audit_refusal r.kept) lacked r.kept later.kept r.medium later.medium refusal refl now.works
    (subst (λ (k : Kept). RefusesCall disk None lacked k later.kept r.medium later.medium refusal) now.kept behind)

pub returns-in-Ok-false-clause-there : goal.returns-in-Ok-false-clause-there
returns-in-Ok-false-clause-there g c =
    let disk = g.M.BlockMedium.disk in
    let now = c.loop-place.invariant in
    let r = c.args.recorder.now in
    let at = c.loop-place.recorder in
    let t = c.index-transcripts-place.result in
    let e = c.in-Ok-false.ensures in
    let work = ap (λ (k : Kept). k.work) now.kept in
    let here : IsAbsentOrRead r.kept.work (disk r.medium).blocks t.file = subst (λ (w : Work). IsAbsentOrRead w (disk r.medium).blocks t.file) work (subst (λ (i : Image). IsAbsentOrRead at.kept.work i t.file) now.same.reads e.there) in
    let no : Agrees r.kept.work (disk r.medium).blocks t → ⊥ = λ agrees. true≢false (sym (subst (λ (b : Bool). IsTrue b) c.in-Ok-false.field-0-test
    (e.agrees.1 (subst (λ (w : Work). Agrees w (disk at.medium).blocks t) (sym work) (subst (λ (i : Image). Agrees r.kept.work i t) (sym now.same.reads) agrees))))) in
    asked_until r.kept.work (disk r.medium).blocks c.args.transcripts.now c.loop-place.place t c.loop-place-test.true c.index-transcripts-place.is now.asked here no

pub returns-clause-there : goal.returns-clause-there
returns-clause-there g c =
    let now = c.loop-place.invariant in
    asked_all c.args.recorder.now.kept.work (g.M.BlockMedium.disk c.args.recorder.now.medium).blocks c.args.transcripts.now c.loop-place.place (omega (arith, c.loop-place-test.false)) now.asked

pub loop-place-preserved : goal.loop-place-preserved
loop-place-preserved g c =
    let disk = g.M.BlockMedium.disk in
    let now = c.loop-place.invariant in
    let r = c.args.recorder.now in
    let at = c.loop-place.recorder in
    let t = c.index-transcripts-place.result in
    let e = c.in-Ok-true.ensures in
    let work = ap (λ (k : Kept). k.work) now.kept in
    let agrees : Agrees r.kept.work (disk r.medium).blocks t =
    subst (λ (w : Work). Agrees w (disk r.medium).blocks t) work (subst (λ (i : Image). Agrees at.kept.work i t) now.same.reads (e.agrees.0 c.in-Ok-true.field-0-test)) in
    let here : IsAbsentOrRead r.kept.work (disk r.medium).blocks t.file = subst (λ (w : Work). IsAbsentOrRead w (disk r.medium).blocks t.file) work (subst (λ (i : Image). IsAbsentOrRead at.kept.work i t.file) now.same.reads e.there) in
    record {
      works = now.works;
      kept = e.reads.kept ∙ now.kept;
      same = unchanged_twice _ _ _ now.same e.reads.same;
      no_fewer = omega (arith, now.no_fewer, e.reads.no_fewer);
      lanes = e.reads.lanes ∙ now.lanes;
      agree = agree_further r.kept.work (disk r.medium).blocks c.args.transcripts.now c.loop-place.place t c.loop-place-test.true c.index-transcripts-place.is now.agree agrees;
      asked = asked_further r.kept.work (disk r.medium).blocks c.args.transcripts.now c.loop-place.place t c.loop-place-test.true c.index-transcripts-place.is now.asked here;
    }
