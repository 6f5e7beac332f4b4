use Rattle.std.proofs.Common.{◌≡◌, ℕ, subst, rules}
use Rattle.r10_control.specs.Checks.{recorder_refusal}
use Rattle.r10_control.specs.Reading.{IsReadFileRefusal}
use Rattle.r10_control.specs.Refused.{RefusesCall}
use Rattle.r10_machine.specs.declared.event.Event.TheVariants as events
use Rattle.std.specs.Prelude.{None}
use Rattle.r10_held.proofs.Refusing.{not_refused}
use Rattle.r10_held.proofs.auditing.open_again.Goals as goal

pub returns-in-Err-check_file : goal.returns-in-Err-check_file
returns-in-Err-check_file g c =
    let disk = g.M.BlockMedium.disk in
    let t = c.args.transcript.now in
    let k = c.args.recorder.now.kept in
    record {
      passed = search rules;
      opened = search rules;
      ready = search rules;
      there = search rules;
      refused =
          subst (λ (from : ℕ). RefusesCall disk (recorder_refusal k (events.Cursor t.file t.channels from t.last)) (IsReadFileRefusal k.work (disk c.args.recorder.now.medium).blocks t.file) k c.check_file.new.self.kept c.args.recorder.now.medium c.check_file.new.self.medium c.in-Err-check_file.refusal) c.get-first.ensures.value
          (subst (λ (to : ℕ). RefusesCall disk (recorder_refusal k (events.Cursor t.file t.channels c.get-first.result to)) (IsReadFileRefusal k.work (disk c.args.recorder.now.medium).blocks t.file) k c.check_file.new.self.kept c.args.recorder.now.medium c.check_file.new.self.medium c.in-Err-check_file.refusal) c.get-last.ensures.value
          (c.in-Err-check_file.ensures.refused));
      counts = search rules;
      reads = search rules;
    }

pub returns-in_default-duplicate : goal.returns-in_default-duplicate
returns-in_default-duplicate g c =
    let disk = g.M.BlockMedium.disk in
    let t = c.args.transcript.now in
    let k = c.args.recorder.now.kept in
    let passed : recorder_refusal k (events.Cursor t.file t.channels t.first t.last) ≡ None =
    subst (λ (from : ℕ). recorder_refusal k (events.Cursor t.file t.channels from t.last) ≡ None) c.get-first.ensures.value
    (subst (λ (to : ℕ). recorder_refusal k (events.Cursor t.file t.channels c.get-first.result to) ≡ None) c.get-last.ensures.value (c.in_default.ensures.passed)) in
    record {
      passed = search rules;
      opened = search rules;
      ready = search rules;
      there = search rules;
      refused = not_refused disk _ (IsReadFileRefusal k.work (disk c.args.recorder.now.medium).blocks t.file) k c.check_file.new.self.kept c.args.recorder.now.medium c.check_file.new.self.medium passed c.in_default.ensures.reads.same c.in_default.ensures.reads.kept;
      counts = search rules;
      reads = search rules;
    }

pub returns : goal.returns
returns g c =
    let t = c.args.transcript.now in
    let k = c.args.recorder.now.kept in
    record {
      passed =
          subst (λ (from : ℕ). recorder_refusal k (events.Cursor t.file t.channels from t.last) ≡ None) c.get-first.ensures.value
          (subst (λ (to : ℕ). recorder_refusal k (events.Cursor t.file t.channels c.get-first.result to) ≡ None) c.get-last.ensures.value (c.in_default.ensures.passed));
      opened = search rules;
      ready = search rules;
      there = c.in_default.ensures.there;
      refused = search rules;
      counts = search rules;
      reads = search rules;
    }
