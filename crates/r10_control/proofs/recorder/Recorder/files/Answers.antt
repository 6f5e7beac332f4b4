use Rattle.std.proofs.Common.{sym, ap, ◌∙◌, subst, rules}
use Rattle.r10_body.specs.declared.refusal.Refusal.TheVariants as refusals
use Rattle.r10_count.specs.Checks.{first_broken}
use Rattle.r10_machine.specs.Checks.{mounted_checks}
use Rattle.r10_machine.specs.Machine.{Machine}
use Rattle.r10_refinement.specs.Means.{KeptStandsFor}
use Rattle.r10_control.specs.Leading.{KeptStepsTaking, none_taken}
use Rattle.r10_control.specs.State.{RecorderState}
use Rattle.r10_control.proofs.Tellings.{files_done, files_lack, files_refused}
use Rattle.r10_machine.specs.declared.event.Event.TheVariants as events
use Rattle.r10_machine.specs.declared.reply.Reply.TheVariants as replies
use Rattle.r10_control.proofs.recorder.Recorder.files.Goals as goal

pub returns-in-Err-clause-does : goal.returns-in-Err-clause-does
returns-in-Err-clause-does g c =
    let disk = g.M.BlockMedium.disk in
    record {
      passed = search rules;
      refused = search rules;
      steps =
          subst (λ (v : RecorderState _ _). (m : Machine) → KeptStandsFor v.kept (disk v.medium).blocks (disk v.medium).failures m
          → KeptStepsTaking none_taken v.kept m events.Files (replies.Refused c.in-Err.refusal) v.kept (disk v.medium).blocks (disk v.medium).failures) c.self.view_is
          (λ m means. files_refused c.a_step_stays_sound.ensures _ _ _ m c.in-Err.refusal c.self.invariant.limits means
          (ap (λ mode. first_broken (mounted_checks mode)) (sym c.mode_in.ensures) ∙ c.in-Err.ensures));
    }

pub returns-in-Ok-clause-does : goal.returns-in-Ok-clause-does
returns-in-Ok-clause-does g c =
    let w = c.self.inside in
    let disk = g.M.BlockMedium.disk in
    record {
      passed = search rules;
      refused = search rules;
      steps =
          subst (λ (v : RecorderState _ _). (m : Machine) → KeptStandsFor v.kept (disk v.medium).blocks (disk v.medium).failures m
          → KeptStepsTaking none_taken v.kept m events.Files (replies.Files c.in-Ok.infos.items) v.kept (disk v.medium).blocks (disk v.medium).failures) c.self.view_is
          (λ m means. files_done c.reports_are_steps.ensures.files _ _ _ m c.in-Ok.infos.items c.self.invariant.limits means
          (ap (λ mode. first_broken (mounted_checks mode)) (sym c.mode_in.ensures) ∙ c.in_default.ensures) c.in-Ok.ensures);
    }

pub returns-in-Err-list_in-clause-does : goal.returns-in-Err-list_in-clause-does
returns-in-Err-list_in-clause-does g c =
    let disk = g.M.BlockMedium.disk in
    record {
      passed = search rules;
      refused = search rules;
      steps =
          subst (λ (v : RecorderState _ _). (m : Machine) → KeptStandsFor v.kept (disk v.medium).blocks (disk v.medium).failures m
          → KeptStepsTaking none_taken v.kept m events.Files (replies.Refused refusals.OutOfMemory) v.kept (disk v.medium).blocks (disk v.medium).failures) c.self.view_is
          (λ m means. files_lack c.a_step_stays_sound.ensures _ _ _ m c.self.invariant.limits means
          (ap (λ mode. first_broken (mounted_checks mode)) (sym c.mode_in.ensures) ∙ c.in_default.ensures));
    }
