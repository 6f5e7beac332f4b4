use Rattle.std.proofs.Common.{◌≡◌, ◌+◌, ℕ, List, None, Some, refl, sym, ap, ◌∙◌, subst, rules}
use Rattle.r10_body.specs.declared.refusal.Refusal.TheVariants as refusals
use Rattle.r10_count.specs.Checks.{first_broken}
use Rattle.r10_count.proofs.Rules.{rules_pass, rules_stop}
use Rattle.r10_machine.specs.Checks.{idle_checks}
use Rattle.r10_machine.specs.Machine.{Machine}
use Rattle.r10_refinement.specs.KeptState.{mode_of, idle}
use Rattle.r10_refinement.specs.Means.{KeptStandsFor}
use Rattle.r10_control.specs.Keeping.{kept_of}
use Rattle.r10_control.specs.Leading.{MachinesKeepShown, KeptStepsTaking, none_taken}
use Rattle.r10_control.specs.State.{RecorderState}
use Rattle.r10_control.specs.Work.{work_of}
use Rattle.r10_control.specs.declared.work.Doing.{Doing}
use Rattle.r10_control.proofs.Bytes.{holds_of}
use Rattle.r10_control.proofs.Dismounts.{held}
use Rattle.r10_control.proofs.Erases.{checked, erase_done, erase_fails, erase_lacks, erase_refused}
use Rattle.r10_machine.specs.EventChecks.{erase_checks}
use Rattle.r10_machine.specs.declared.event.Event.TheVariants as events
use Rattle.r10_machine.specs.declared.reply.Reply.TheVariants as replies
use Rattle.r10_control.proofs.Effecting.{erase_effect, idle_usable}
use Rattle.r10_control.specs.Effects.{EraseEffect}
use Rattle.r10_control.specs.Own.{OwnStay}
use Rattle.r10_control.proofs.Owning.{erased_own, stay_failed, stay_same}
use Rattle.r10_dirchain.specs.Chain.{listed_files}
use Rattle.r10_dirchain.specs.declared.chain.ChainBlock.{ChainBlock}
use Rattle.r10_refinement.proofs.SafeCalls.{failed_safely, refused_safely, synced_safely}
use Rattle.r10_refinement.specs.PowerLossInCalls.{StaysSafe, whichever}
use Rattle.r10_control.proofs.PowerLossPoints.{made_of}
use Rattle.r10_control.proofs.Making.{erase_left}
use Rattle.r10_medium.proofs.PowerLoss.{unchanged}
use Rattle.r10_control.specs.Fronts.{IdleSpares}
use Rattle.r10_dirchain.specs.Steps.{emptied}
use Rattle.r10_control.proofs.Fronting.{idle_spares, idle_spares_all}
use Rattle.r10_control.proofs.recorder.Recorder.erase.Goals as goal

pub returns-in-Err : goal.returns-in-Err
returns-in-Err g c =
    let w = c.self.inside in
    let k = kept_of w.keeping in
    let disk = g.M.BlockMedium.disk in
    record {
      does = record {
        passed = search rules;
        refused = search rules;
        steps =
            subst (λ (v : RecorderState _ _). (m : Machine) → KeptStandsFor v.kept (disk v.medium).blocks (disk v.medium).failures m
            → KeptStepsTaking none_taken v.kept m events.Erase (replies.Refused c.in-Err.refusal) v.kept (disk v.medium).blocks (disk v.medium).failures) c.self.view_is
            (λ m means. erase_refused c.a_step_stays_sound.ensures _ _ _ m c.in-Err.refusal c.self.invariant.limits means
            (rules_stop (idle_checks (mode_of k.work)) (erase_checks k.generation) c.in-Err.refusal (ap (λ mode. first_broken (idle_checks mode)) (sym c.mode_in.ensures) ∙ c.in-Err.ensures)));
        shown = search rules;
        power_loss =
            subst (λ (v : RecorderState _ _). StaysSafe whichever v.kept events.Erase (replies.Refused c.in-Err.refusal) (disk v.medium) v.kept (disk v.medium)) c.self.view_is
            (refused_safely whichever k k events.Erase c.in-Err.refusal (disk w.medium) (disk w.medium) refl (unchanged (disk w.medium)));
        effect = search rules;
        owned = subst (λ (v : RecorderState _ _). OwnStay v.kept (disk v.medium).blocks v.kept (disk v.medium).blocks) c.self.view_is (stay_same k (disk w.medium).blocks);
        spares = subst (λ (v : RecorderState _ _). IdleSpares emptied v.kept.work (disk v.medium) (disk v.medium)) c.self.view_is (idle_spares_all emptied k.work (disk w.medium));
        lanes = search rules;
        config = search rules;
      };
    }

pub returns-in-Err-check_erase : goal.returns-in-Err-check_erase
returns-in-Err-check_erase g c =
    let w = c.self.inside in
    let k = kept_of w.keeping in
    let disk = g.M.BlockMedium.disk in
    record {
      does = record {
        passed = search rules;
        refused = search rules;
        steps =
            subst (λ (v : RecorderState _ _). (m : Machine) → KeptStandsFor v.kept (disk v.medium).blocks (disk v.medium).failures m
            → KeptStepsTaking none_taken v.kept m events.Erase (replies.Refused c.in-Err-check_erase.refusal) v.kept (disk v.medium).blocks (disk v.medium).failures) c.self.view_is
            (λ m means. erase_refused c.a_step_stays_sound.ensures _ _ _ m c.in-Err-check_erase.refusal c.self.invariant.limits means
            (rules_pass (idle_checks (mode_of k.work)) (erase_checks k.generation) (ap (λ mode. first_broken (idle_checks mode)) (sym c.mode_in.ensures) ∙ c.in_default.ensures) ∙ c.in-Err-check_erase.ensures));
        shown = search rules;
        power_loss =
            subst (λ (v : RecorderState _ _). StaysSafe whichever v.kept events.Erase (replies.Refused c.in-Err-check_erase.refusal) (disk v.medium) v.kept (disk v.medium)) c.self.view_is
            (refused_safely whichever k k events.Erase c.in-Err-check_erase.refusal (disk w.medium) (disk w.medium) refl (unchanged (disk w.medium)));
        effect = search rules;
        owned = subst (λ (v : RecorderState _ _). OwnStay v.kept (disk v.medium).blocks v.kept (disk v.medium).blocks) c.self.view_is (stay_same k (disk w.medium).blocks);
        spares = subst (λ (v : RecorderState _ _). IdleSpares emptied v.kept.work (disk v.medium) (disk v.medium)) c.self.view_is (idle_spares_all emptied k.work (disk w.medium));
        lanes = search rules;
        config = search rules;
      };
    }

pub returns-in_default-from_slice : goal.returns-in_default-from_slice
returns-in_default-from_slice g c =
    let w = c.self.inside in
    let k = kept_of w.keeping in
    let disk = g.M.BlockMedium.disk in
    record {
      does = record {
        passed = search rules;
        refused = search rules;
        steps =
            subst (λ (v : RecorderState _ _). (m : Machine) → KeptStandsFor v.kept (disk v.medium).blocks (disk v.medium).failures m
            → KeptStepsTaking none_taken v.kept m events.Erase (replies.Refused refusals.OutOfMemory) v.kept (disk v.medium).blocks (disk v.medium).failures) c.self.view_is
            (λ m means. erase_lacks c.a_step_stays_sound.ensures _ _ _ m c.self.invariant.limits means
            (rules_pass (idle_checks (mode_of k.work)) (erase_checks k.generation) (ap (λ mode. first_broken (idle_checks mode)) (sym c.mode_in.ensures) ∙ c.in_default.ensures) ∙ c.in_default-check_erase.ensures));
        shown = search rules;
        power_loss =
            subst (λ (v : RecorderState _ _). StaysSafe whichever v.kept events.Erase (replies.Refused refusals.OutOfMemory) (disk v.medium) v.kept (disk v.medium)) c.self.view_is
            (refused_safely whichever k k events.Erase refusals.OutOfMemory (disk w.medium) (disk w.medium) refl (unchanged (disk w.medium)));
        effect = search rules;
        owned = subst (λ (v : RecorderState _ _). OwnStay v.kept (disk v.medium).blocks v.kept (disk v.medium).blocks) c.self.view_is (stay_same k (disk w.medium).blocks);
        spares = subst (λ (v : RecorderState _ _). IdleSpares emptied v.kept.work (disk v.medium) (disk v.medium)) c.self.view_is (idle_spares_all emptied k.work (disk w.medium));
        lanes = search rules;
        config = search rules;
      };
    }

pub returns-in-Ok-erase : goal.returns-in-Ok-erase
returns-in-Ok-erase g c =
    let w = c.self.inside in
    let k = kept_of w.keeping in
    let disk = g.M.BlockMedium.disk in
    let later = disk c.erase.new.medium in
    let at : k.work ≡ idle c.in-Idle.directory = ap work_of c.in-Idle.is in
    let fine : checked k ≡ None = rules_pass (idle_checks (mode_of k.work)) (erase_checks k.generation) (ap (λ mode. first_broken (idle_checks mode)) (sym c.mode_in.ensures) ∙ c.in_default.ensures) ∙ c.in_default-check_erase.ensures in
    let copied : k.taken ≡ c.in-Ok.erased.items = sym (c.in-Ok.ensures.items ∙ c.as_slice.ensures.value) in
    record {
      does = record {
        passed = search rules;
        refused = search rules;
        steps =
            subst (λ (v : RecorderState _ _). (m : Machine) → KeptStandsFor v.kept (disk v.medium).blocks (disk v.medium).failures m
            → KeptStepsTaking none_taken v.kept m events.Erase replies.Done (record k { work = idle c.erase.new.directory; generation = k.generation + 1; erased = c.in-Ok.erased.items; found = Some 0 }) later.blocks later.failures) c.self.view_is
            (subst (λ (x : List ℕ). (m : Machine) → KeptStandsFor k (disk w.medium).blocks (disk w.medium).failures m
            → KeptStepsTaking none_taken k m events.Erase replies.Done (record k { work = idle c.erase.new.directory; generation = k.generation + 1; erased = x; found = Some 0 }) later.blocks later.failures) copied
            (λ m means.
            let holds = c.in-Ok-erase.ensures.holds k.config m.files (held k c.in-Idle.directory (disk w.medium).blocks m at means.files) in
            erase_done c.a_step_stays_sound.ensures k (disk w.medium).blocks later.blocks (disk w.medium).failures later.failures m c.in-Idle.directory c.erase.new.directory c.self.invariant.limits means at fine
            holds c.erase.ensures.writes.counts.no_fewer));
        shown =
            subst (λ (v : RecorderState _ _). MachinesKeepShown v.kept (disk v.medium).blocks (disk v.medium).failures (disk c.erase.new.medium).blocks) c.self.view_is
            (λ m means. c.erase.ensures.bytes k.config m.files (holds_of k.config k.work c.in-Idle.directory (disk w.medium).blocks m.files (ap work_of c.in-Idle.is) means.files));
        power_loss =
            subst (λ (v : RecorderState _ _). StaysSafe whichever v.kept events.Erase replies.Done (disk v.medium) (record k { work = idle c.erase.new.directory; generation = k.generation + 1; erased = c.in-Ok.erased.items; found = Some 0 }) later) c.self.view_is
            (synced_safely whichever k (record k { work = idle c.erase.new.directory; generation = k.generation + 1; erased = c.in-Ok.erased.items; found = Some 0 }) events.Erase replies.Done (disk w.medium) later c.in-Ok-erase.ensures.directory.synced (made_of whichever k events.Erase (disk w.medium) later (erase_left k (disk w.medium) later c.in-Idle.directory (ap work_of c.in-Idle.is) fine (λ files held settled. c.erase.ensures.moments k.config files held settled))));
        effect =
            subst (λ (v : RecorderState _ _). EraseEffect v.kept (disk v.medium) (record k { work = idle c.erase.new.directory; generation = k.generation + 1; erased = c.in-Ok.erased.items; found = Some 0 }) later) c.self.view_is
            (erase_effect k (disk w.medium) later c.in-Idle.directory c.erase.new.directory c.erase.result at
            (idle_usable g.L.LaneOut.spec_of g.L.LaneOut.reached k (disk w.medium).blocks w.lanes.items c.in-Idle.directory at c.self.invariant.work) c.erase.ensures.turns c.in-Ok-erase.ensures.done c.in-Ok-erase.ensures.directory
            c.in-Ok.erased.items copied);
        owned =
            erased_own (record k { work = idle c.erase.new.directory; generation = k.generation + 1; erased = c.in-Ok.erased.items; found = Some 0 }) (disk c.erase.new.medium).blocks c.erase.new.directory refl refl
            (ap (λ (l : List ChainBlock). listed_files l) c.in-Ok-erase.ensures.done);
        spares =
            subst (λ (v : RecorderState _ _). IdleSpares emptied v.kept.work (disk v.medium) later) c.self.view_is
            (idle_spares emptied k.work c.in-Idle.directory (disk w.medium) later c.erase.result (ap work_of c.in-Idle.is) c.erase.ensures.turns);
        lanes = search rules;
        config = search rules;
      };
    }

pub returns-in-Err-erase : goal.returns-in-Err-erase
returns-in-Err-erase g c =
    let w = c.self.inside in
    let k = kept_of w.keeping in
    let disk = g.M.BlockMedium.disk in
    let later = disk c.erase.new.medium in
    let fine : checked k ≡ None = rules_pass (idle_checks (mode_of k.work)) (erase_checks k.generation) (ap (λ mode. first_broken (idle_checks mode)) (sym c.mode_in.ensures) ∙ c.in_default.ensures) ∙ c.in_default-check_erase.ensures in
    record {
      does = record {
        passed = search rules;
        refused = search rules;
        steps =
            let at : k.work ≡ idle c.in-Idle.directory = ap work_of c.in-Idle.is in
            subst (λ (v : RecorderState _ _). (m : Machine) → KeptStandsFor v.kept (disk v.medium).blocks (disk v.medium).failures m
            → KeptStepsTaking none_taken v.kept m events.Erase (replies.Refused refusals.Medium) (record k { work = work_of c.set_work.new.work }) later.blocks later.failures) c.self.view_is
            (subst (λ (x : Doing). (m : Machine) → KeptStandsFor k (disk w.medium).blocks (disk w.medium).failures m → KeptStepsTaking none_taken k m events.Erase (replies.Refused refusals.Medium) (record k { work = work_of x }) later.blocks later.failures) (sym c.set_work.ensures)
            (λ m means.
            erase_fails c.a_step_stays_sound.ensures k (disk w.medium).blocks later.blocks (disk w.medium).failures later.failures m c.self.invariant.limits means fine c.erase.ensures.writes.counts.no_fewer
            (c.in-Err-erase.ensures.writes.counts.cause refl) (c.in-Err-erase.ensures.failed k.config m.files (held k c.in-Idle.directory (disk w.medium).blocks m at means.files))));
        shown =
            subst (λ (v : RecorderState _ _). MachinesKeepShown v.kept (disk v.medium).blocks (disk v.medium).failures (disk c.erase.new.medium).blocks) c.self.view_is
            (λ m means. c.erase.ensures.bytes k.config m.files (holds_of k.config k.work c.in-Idle.directory (disk w.medium).blocks m.files (ap work_of c.in-Idle.is) means.files));
        power_loss =
            subst (λ (v : RecorderState _ _). StaysSafe whichever v.kept events.Erase (replies.Refused refusals.Medium) (disk v.medium) (record k { work = work_of c.set_work.new.work }) later) c.self.view_is
            (failed_safely whichever k (record k { work = work_of c.set_work.new.work }) events.Erase (replies.Refused refusals.Medium) (disk w.medium) later (ap work_of c.set_work.ensures) (made_of whichever k events.Erase (disk w.medium) later (erase_left k (disk w.medium) later c.in-Idle.directory (ap work_of c.in-Idle.is) fine (λ files held settled. c.erase.ensures.moments k.config files held settled))));
        effect = search rules;
        owned =
            subst (λ (v : RecorderState _ _). OwnStay v.kept (disk v.medium).blocks (record k { work = work_of c.set_work.new.work }) (disk c.erase.new.medium).blocks) c.self.view_is
            (stay_failed k (record k { work = work_of c.set_work.new.work }) (disk w.medium).blocks (disk c.erase.new.medium).blocks (ap work_of c.set_work.ensures));
        spares =
            subst (λ (v : RecorderState _ _). IdleSpares emptied v.kept.work (disk v.medium) later) c.self.view_is
            (idle_spares emptied k.work c.in-Idle.directory (disk w.medium) later c.erase.result (ap work_of c.in-Idle.is) c.erase.ensures.turns);
        lanes = search rules;
        config = search rules;
      };
    }
