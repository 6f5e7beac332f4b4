use Rattle.std.proofs.Common.{◌≡◌, None, refl, sym, ap, ◌∙◌, subst, length, List, rules}
use Rattle.r10_body.specs.declared.refusal.Refusal.TheVariants as refusals
use Rattle.r10_count.specs.Checks.{first_broken}
use Rattle.r10_machine.specs.Checks.{idle_checks}
use Rattle.r10_machine.specs.Machine.{Machine}
use Rattle.r10_refinement.specs.KeptState.{mode_of, idle}
use Rattle.r10_refinement.specs.Means.{KeptStandsFor}
use Rattle.r10_control.specs.Keeping.{kept_of}
use Rattle.r10_control.specs.Leading.{MachinesKeepShown, KeptStepsTaking, none_taken}
use Rattle.r10_control.specs.State.{RecorderState}
use Rattle.r10_control.specs.Work.{work_of}
use Rattle.r10_control.specs.declared.work.Doing.{Doing}
use Rattle.r10_control.proofs.Bytes.{holds_of}
use Rattle.r10_control.proofs.Dismounts.{asks_none, dismount_done, dismount_fails, dismount_refused, held}
use Rattle.r10_machine.specs.declared.event.Event.TheVariants as events
use Rattle.r10_machine.specs.declared.reply.Reply.TheVariants as replies
use Rattle.r10_control.proofs.Effecting.{dismount_effect, idle_usable, one_block, some_reserved}
use Rattle.r10_control.specs.Effects.{DismountEffect}
use Rattle.r10_control.specs.Own.{OwnStay}
use Rattle.r10_control.proofs.Owning.{dismounted_own, stay_by, stay_failed, stay_same}
use Rattle.r10_dirchain.specs.Steps.{with_shutdown}
use Rattle.r10_medium.proofs.PowerLoss.{unchanged, whole_reads}
use Rattle.r10_dirchain.specs.Chain.{IsDirectory}
use Rattle.r10_dirchain.specs.declared.chain.ChainBlock.{ChainBlock}
use Rattle.r10_refinement.proofs.SafeCalls.{failed_safely, refused_safely, synced_safely}
use Rattle.r10_refinement.specs.PowerLossInCalls.{StaysSafe, whichever}
use Rattle.r10_control.proofs.PowerLossPoints.{idle_leaves, makes_none}
use Rattle.r10_control.specs.Fronts.{IdleSpares}
use Rattle.r10_control.proofs.Fronting.{idle_spares, idle_spares_all}
use Rattle.r10_control.proofs.recorder.Recorder.dismount.Goals as goal

pub returns-in-Err-clause-does : goal.returns-in-Err-clause-does
returns-in-Err-clause-does g c =
    let disk = g.M.BlockMedium.disk in
    let w = c.self.inside in
    let k = kept_of w.keeping in
    record {
      passed = search rules;
      refused = search rules;
      steps =
          subst (λ (v : RecorderState _ _). (m : Machine) → KeptStandsFor v.kept (disk v.medium).blocks (disk v.medium).failures m
          → KeptStepsTaking none_taken v.kept m events.Dismount (replies.Refused c.in-Err.refusal) v.kept (disk v.medium).blocks (disk v.medium).failures) c.self.view_is
          (λ m means. dismount_refused c.a_step_stays_sound.ensures _ _ _ m c.in-Err.refusal c.self.invariant.limits means
          (ap (λ mode. first_broken (idle_checks mode)) (sym c.mode_in.ensures) ∙ c.in-Err.ensures));
      shown = search rules;
      power_loss =
          subst (λ (v : RecorderState _ _). StaysSafe whichever v.kept events.Dismount (replies.Refused c.in-Err.refusal) (disk v.medium) v.kept (disk v.medium)) c.self.view_is
          (refused_safely whichever k k events.Dismount c.in-Err.refusal (disk w.medium) (disk w.medium) refl (unchanged (disk w.medium)));
      effect = search rules;
      owned = subst (λ (v : RecorderState _ _). OwnStay v.kept (disk v.medium).blocks v.kept (disk v.medium).blocks) c.self.view_is (stay_same k (disk w.medium).blocks);
      spares = subst (λ (v : RecorderState _ _). IdleSpares (with_shutdown 0xFF) v.kept.work (disk v.medium) (disk v.medium)) c.self.view_is (idle_spares_all (with_shutdown 0xFF) k.work (disk w.medium));
      lanes = search rules;
      config = search rules;
    }

pub returns-in-Ok-clause-does : goal.returns-in-Ok-clause-does
returns-in-Ok-clause-does g c =
    let w = c.self.inside in
    let k = kept_of w.keeping in
    let disk = g.M.BlockMedium.disk in
    let later = disk c.dismount.new.medium in
    let at : k.work ≡ idle c.in-Idle.directory = ap work_of c.in-Idle.is in
    record {
      passed = search rules;
      refused = search rules;
      steps =
          subst (λ (v : RecorderState _ _). (m : Machine) → KeptStandsFor v.kept (disk v.medium).blocks (disk v.medium).failures m
          → KeptStepsTaking none_taken v.kept m events.Dismount replies.Done (record k { work = work_of c.set_work.new.work }) later.blocks later.failures) c.self.view_is
          (subst (λ (x : Doing). (m : Machine) → KeptStandsFor k (disk w.medium).blocks (disk w.medium).failures m → KeptStepsTaking none_taken k m events.Dismount replies.Done (record k { work = work_of x }) later.blocks later.failures) (sym c.set_work.ensures)
          (λ m means.
          let holds = c.in-Ok.ensures.holds k.config m.files (held k c.in-Idle.directory (disk w.medium).blocks m at means.files) in
          dismount_done c.a_step_stays_sound.ensures k (disk w.medium).blocks later.blocks (disk w.medium).failures later.failures m c.in-Idle.directory c.self.invariant.limits means at
          holds.says holds.found c.dismount.ensures.writes.counts.no_fewer));
      shown =
          subst (λ (v : RecorderState _ _). MachinesKeepShown v.kept (disk v.medium).blocks (disk v.medium).failures (disk c.dismount.new.medium).blocks) c.self.view_is
          (λ m means. c.dismount.ensures.bytes k.config m.files (holds_of k.config k.work c.in-Idle.directory (disk w.medium).blocks m.files (ap work_of c.in-Idle.is) means.files));
      power_loss =
          subst (λ (v : RecorderState _ _). StaysSafe whichever v.kept events.Dismount replies.Done (disk v.medium) (record k { work = work_of c.set_work.new.work }) later) c.self.view_is
          (synced_safely whichever k (record k { work = work_of c.set_work.new.work }) events.Dismount replies.Done (disk w.medium) later c.in-Ok.ensures.directory.synced (makes_none whichever k events.Dismount (disk w.medium) later (idle_leaves k (disk w.medium) later c.in-Idle.directory (ap work_of c.in-Idle.is) (λ files held settled. c.dismount.ensures.moments k.config files held settled))));
      effect =
          subst (λ (v : RecorderState _ _). DismountEffect v.kept (disk v.medium) (record k { work = work_of c.set_work.new.work }) later) c.self.view_is
          (subst (λ (x : Doing). DismountEffect k (disk w.medium) (record k { work = work_of x }) later) (sym c.set_work.ensures)
          (dismount_effect k (disk w.medium) later c.in-Idle.directory c.dismount.new.directory c.dismount.result at
          (idle_usable g.L.LaneOut.spec_of g.L.LaneOut.reached k (disk w.medium).blocks w.lanes.items c.in-Idle.directory at c.self.invariant.work) c.dismount.ensures.turns c.in-Ok.ensures.done c.in-Ok.ensures.directory));
      owned =
          let chain = c.in-Idle.directory in
          let at : k.work ≡ idle chain = ap work_of c.in-Idle.is in
          let usable = idle_usable g.L.LaneOut.spec_of g.L.LaneOut.reached k (disk w.medium).blocks w.lanes.items chain at c.self.invariant.work in
          subst (λ (v : RecorderState _ _). OwnStay v.kept (disk v.medium).blocks (record k { work = work_of c.set_work.new.work }) later.blocks) c.self.view_is
          (stay_by k (record k { work = work_of c.set_work.new.work }) (disk w.medium).blocks later.blocks
          (dismounted_own k (record k { work = work_of c.set_work.new.work }) (disk w.medium).blocks later.blocks chain at (whole_reads (disk w.medium)) usable
          (one_block k.config.directory (length (disk w.medium).blocks) chain (with_shutdown 0xFF chain) (disk w.medium) later c.dismount.result (some_reserved k.config.directory (disk w.medium).blocks chain usable) c.dismount.ensures.turns)
          (subst (λ (l : List ChainBlock). IsDirectory later.blocks l) c.in-Ok.ensures.done c.in-Ok.ensures.directory.directory) (ap work_of c.set_work.ensures) refl));
      spares =
          subst (λ (v : RecorderState _ _). IdleSpares (with_shutdown 0xFF) v.kept.work (disk v.medium) later) c.self.view_is
          (idle_spares (with_shutdown 0xFF) k.work c.in-Idle.directory (disk w.medium) later c.dismount.result (ap work_of c.in-Idle.is) c.dismount.ensures.turns);
      lanes = search rules;
      config = search rules;
    }

pub returns-in-Err-dismount-clause-does : goal.returns-in-Err-dismount-clause-does
returns-in-Err-dismount-clause-does g c =
    let w = c.self.inside in
    let k = kept_of w.keeping in
    let disk = g.M.BlockMedium.disk in
    let later = disk c.dismount.new.medium in
    record {
      passed = search rules;
      refused = search rules;
      steps =
          let at : k.work ≡ idle c.in-Idle.directory = ap work_of c.in-Idle.is in
          let fine : first_broken (idle_checks (mode_of k.work)) ≡ None = ap (λ mode. first_broken (idle_checks mode)) (sym c.mode_in.ensures) ∙ c.in_default.ensures in
          subst (λ (v : RecorderState _ _). (m : Machine) → KeptStandsFor v.kept (disk v.medium).blocks (disk v.medium).failures m
          → KeptStepsTaking none_taken v.kept m events.Dismount (replies.Refused refusals.Medium) (record k { work = work_of c.set_work-in-Err-dismount.new.work }) later.blocks later.failures) c.self.view_is
          (subst (λ (x : Doing). (m : Machine) → KeptStandsFor k (disk w.medium).blocks (disk w.medium).failures m → KeptStepsTaking none_taken k m events.Dismount (replies.Refused refusals.Medium) (record k { work = work_of x }) later.blocks later.failures) (sym c.set_work-in-Err-dismount.ensures)
          (λ m means.
          dismount_fails c.a_step_stays_sound.ensures k (disk w.medium).blocks later.blocks (disk w.medium).failures later.failures m c.self.invariant.limits means fine c.dismount.ensures.writes.counts.no_fewer
          (c.in-Err-dismount.ensures.writes.counts.cause refl) (c.dismount.ensures.says k.config m.files (held k c.in-Idle.directory (disk w.medium).blocks m at means.files))));
      shown =
          subst (λ (v : RecorderState _ _). MachinesKeepShown v.kept (disk v.medium).blocks (disk v.medium).failures (disk c.dismount.new.medium).blocks) c.self.view_is
          (λ m means. c.dismount.ensures.bytes k.config m.files (holds_of k.config k.work c.in-Idle.directory (disk w.medium).blocks m.files (ap work_of c.in-Idle.is) means.files));
      power_loss =
          subst (λ (v : RecorderState _ _). StaysSafe whichever v.kept events.Dismount (replies.Refused refusals.Medium) (disk v.medium) (record k { work = work_of c.set_work-in-Err-dismount.new.work }) later) c.self.view_is
          (failed_safely whichever k (record k { work = work_of c.set_work-in-Err-dismount.new.work }) events.Dismount (replies.Refused refusals.Medium) (disk w.medium) later (ap work_of c.set_work-in-Err-dismount.ensures) (makes_none whichever k events.Dismount (disk w.medium) later (idle_leaves k (disk w.medium) later c.in-Idle.directory (ap work_of c.in-Idle.is) (λ files held settled. c.dismount.ensures.moments k.config files held settled))));
      effect = search rules;
      owned =
          subst (λ (v : RecorderState _ _). OwnStay v.kept (disk v.medium).blocks (record k { work = work_of c.set_work-in-Err-dismount.new.work }) (disk c.dismount.new.medium).blocks) c.self.view_is
          (stay_failed k (record k { work = work_of c.set_work-in-Err-dismount.new.work }) (disk w.medium).blocks (disk c.dismount.new.medium).blocks (ap work_of c.set_work-in-Err-dismount.ensures));
      spares =
          subst (λ (v : RecorderState _ _). IdleSpares (with_shutdown 0xFF) v.kept.work (disk v.medium) later) c.self.view_is
          (idle_spares (with_shutdown 0xFF) k.work c.in-Idle.directory (disk w.medium) later c.dismount.result (ap work_of c.in-Idle.is) c.dismount.ensures.turns);
      lanes = search rules;
      config = search rules;
    }

pub returns-in-Err-clause-memory : goal.returns-in-Err-clause-memory
returns-in-Err-clause-memory g c = λ same. asks_none c.mode_in.result c.in-Err.refusal c.in-Err.ensures same
