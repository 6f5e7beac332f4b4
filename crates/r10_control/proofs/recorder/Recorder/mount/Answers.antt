use Rattle.std.proofs.Common.{◌≡◌, ℕ, ◌-◌, ◌^◌, List, None, Some, Option, Err, refl, sym, ap, ◌∙◌, subst, length, min, rules}
use Rattle.std.specs.Option.{option_or}
use Rattle.r10_dirblock.specs.declared.entry.Entry.{Entry as DirectoryEntry}
use Rattle.r10_dirchain.specs.Chain.{listed_files}
use Rattle.r10_dirchain.specs.declared.chain.ChainBlock.{ChainBlock}
use Rattle.r10_dirchain.proofs.FileLists.{files-with_shutdown}
use Rattle.r10_control.proofs.FewFiles.{few_listed}
use Rattle.r10_body.specs.declared.refusal.Refusal.TheVariants as refusals
use Rattle.r10_count.specs.Checks.{first_broken}
use Rattle.r10_machine.specs.Checks.{unmounted_checks}
use Rattle.r10_machine.specs.Machine.{Machine}
use Rattle.r10_refinement.specs.KeptState.{mode_of, idle}
use Rattle.r10_refinement.specs.Means.{KeptStandsFor}
use Rattle.r10_control.specs.Keeping.{kept_of}
use Rattle.r10_control.specs.Leading.{MachinesKeepShown, KeptStepsTaking, none_taken}
use Rattle.r10_control.specs.Refused.{RefusesCall, IsMountRefusal}
use Rattle.r10_control.specs.State.{RecorderState}
use Rattle.r10_control.specs.Work.{work_of}
use Rattle.r10_control.specs.declared.work.Doing.{Doing}
use Rattle.r10_control.proofs.Bytes.{says_of}
use Rattle.r10_control.proofs.Leading.{lacking}
use Rattle.r10_control.proofs.Mounts.{mount_done, mount_fails, mount_lacks, mount_refused, said, unmounted_work}
use Rattle.r10_machine.specs.declared.event.Event.TheVariants as events
use Rattle.r10_machine.specs.declared.reply.Reply.TheVariants as replies
use Rattle.r10_volume.specs.Mounting.{IsMounted, IsUsable}
use Rattle.r10_control.proofs.Effecting.{mount_effect, one_block, some_reserved}
use Rattle.r10_control.specs.Effects.{MountEffect}
use Rattle.r10_control.specs.Own.{OwnStay}
use Rattle.r10_control.proofs.Owning.{mounted_own, stay_by, stay_failed, stay_same}
use Rattle.r10_dirchain.specs.Steps.{with_shutdown}
use Rattle.r10_medium.proofs.PowerLoss.{unchanged, whole_reads}
use Rattle.r10_medium.specs.Disk.{Image}
use Rattle.r10_refinement.proofs.SafeCalls.{failed_safely, refused_safely, synced_safely}
use Rattle.r10_refinement.specs.PowerLossInCalls.{StaysSafe, whichever}
use Rattle.r10_control.proofs.PowerLossPoints.{makes_none, unmounted_leaves}
use Rattle.r10_control.specs.Fronts.{MountSpares}
use Rattle.r10_control.proofs.Fronting.{mount_spares, mount_spares_all}
use Rattle.r10_control.proofs.recorder.Recorder.mount.Goals as goal

pub returns-in-Err : goal.returns-in-Err
returns-in-Err g c =
    let disk = g.M.BlockMedium.disk in
    let w = c.self.inside in
    let k = kept_of w.keeping in
    record {
      does = record {
        passed = search rules;
        refused = search rules;
        steps =
            subst (λ (v : RecorderState _ _). (m : Machine) → KeptStandsFor v.kept (disk v.medium).blocks (disk v.medium).failures m
            → KeptStepsTaking none_taken v.kept m events.Mount (replies.Refused c.in-Err.refusal) v.kept (disk v.medium).blocks (disk v.medium).failures) c.self.view_is
            (λ m means. mount_refused c.a_step_stays_sound.ensures _ _ _ m c.in-Err.refusal c.self.invariant.limits means
            (ap (λ mode. first_broken (unmounted_checks mode)) (sym c.mode_in.ensures) ∙ c.in-Err.ensures));
        shown = search rules;
        power_loss =
            subst (λ (v : RecorderState _ _). StaysSafe whichever v.kept events.Mount (replies.Refused c.in-Err.refusal) (disk v.medium) v.kept (disk v.medium)) c.self.view_is
            (refused_safely whichever k k events.Mount c.in-Err.refusal (disk w.medium) (disk w.medium) refl (unchanged (disk w.medium)));
        effect = search rules;
        owned = subst (λ (v : RecorderState _ _). OwnStay v.kept (disk v.medium).blocks v.kept (disk v.medium).blocks) c.self.view_is (stay_same k (disk w.medium).blocks);
        spares = subst (λ (v : RecorderState _ _). MountSpares v.kept.config.directory (disk v.medium) (disk v.medium)) c.self.view_is (mount_spares_all k.config.directory (disk w.medium));
        lanes = search rules;
        config = search rules;
      };
    }

pub invariant_of-self-in-Err-Medium : goal.invariant_of-self-in-Err-Medium
invariant_of-self-in-Err-Medium g c =
    let i = c.self.invariant in
    rw c.set_work-in-Err-Medium.ensures (record {
      limits = i.limits;
      blocks = c.mount.ensures.blocks ∙ i.blocks;
      specs = i.specs;
      generation = i.generation;
      taken = i.taken;
      erased = i.erased;
      work = tt;
      judged = tt;
    })

pub returns-in-Ok : goal.returns-in-Ok
returns-in-Ok g c =
    let w = c.self.inside in
    let k = kept_of w.keeping in
    let disk = g.M.BlockMedium.disk in
    let later = disk c.mount.new.medium in
    let mounted = subst (λ (n : ℕ). IsMounted n (disk w.medium).blocks c.in-Ok.directory) c.directory.ensures.value c.in-Ok.ensures.mounted in
    let listed : listed_files c.in-Ok.directory ≡ listed_files mounted.chain = ap (λ (l : List ChainBlock). listed_files l) mounted.made_is ∙ files-with_shutdown 0x00 mounted.chain in
    let few : min (length (listed_files c.in-Ok.directory)) (2 ^ 64 - 1) ≡ length (listed_files c.in-Ok.directory) = subst (λ (l : List DirectoryEntry). min (length l) (2 ^ 64 - 1) ≡ length l) (sym listed) (few_listed k.config (disk w.medium).blocks mounted.chain c.self.invariant.limits c.self.invariant.blocks mounted.usable) in
    let first : c.found_first-self-inside.result ≡ option_or k.found (Some (length (listed_files c.in-Ok.directory))) = c.found_first-self-inside.ensures ∙ ap (λ (n : ℕ). option_or k.found (Some n)) few in
    let fine : first_broken (unmounted_checks (mode_of k.work)) ≡ None = ap (λ mode. first_broken (unmounted_checks mode)) (sym c.mode_in.ensures) ∙ c.in_default.ensures in
    let reserved : c.directory.result ≡ k.config.directory = c.directory.ensures.value in
    record {
      does = record {
        passed = search rules;
        refused = search rules;
        steps =
            subst (λ (v : RecorderState _ _). (m : Machine) → KeptStandsFor v.kept (disk v.medium).blocks (disk v.medium).failures m
            → KeptStepsTaking none_taken v.kept m events.Mount replies.Done (record k { work = work_of c.set_work.new.work; found = c.found_first-self-inside.result }) later.blocks later.failures) c.self.view_is
            (subst (λ (x : Doing). (m : Machine) → KeptStandsFor k (disk w.medium).blocks (disk w.medium).failures m → KeptStepsTaking none_taken k m events.Mount replies.Done (record k { work = work_of x; found = c.found_first-self-inside.result }) later.blocks later.failures) (sym c.set_work.ensures)
            (subst (λ (o : Option ℕ). (m : Machine) → KeptStandsFor k (disk w.medium).blocks (disk w.medium).failures m → KeptStepsTaking none_taken k m events.Mount replies.Done (record k { work = idle c.in-Ok.directory; found = o }) later.blocks later.failures) (sym first)
            (λ m means.
            let says = said k k.work (disk w.medium).blocks m refl (unmounted_work k.work fine) means.files in
            mount_done c.a_step_stays_sound.ensures k (disk w.medium).blocks later.blocks (disk w.medium).failures later.failures m c.in-Ok.directory c.self.invariant.limits means fine
            (c.in-Ok.ensures.files.holds k.config m.files says.0 says.1 c.directory.ensures.value) c.mount.ensures.no_fewer)));
        shown =
            subst (λ (v : RecorderState _ _). MachinesKeepShown v.kept (disk v.medium).blocks (disk v.medium).failures (disk c.mount.new.medium).blocks) c.self.view_is
            (λ m means. c.mount.ensures.files.bytes k.config m.files (says_of k.config k.work (disk w.medium).blocks m.files (unmounted_work k.work fine) means.files));
        power_loss =
            subst (λ (v : RecorderState _ _). StaysSafe whichever v.kept events.Mount replies.Done (disk v.medium) (record k { work = work_of c.set_work.new.work; found = c.found_first-self-inside.result }) later) c.self.view_is
            (synced_safely whichever k (record k { work = work_of c.set_work.new.work; found = c.found_first-self-inside.result }) events.Mount replies.Done (disk w.medium) later c.in-Ok.ensures.directory.synced (makes_none whichever k events.Mount (disk w.medium) later (unmounted_leaves k (disk w.medium) later (unmounted_work k.work fine) (λ files settled. c.mount.ensures.files.moments k.config files settled))));
        effect =
            subst (λ (v : RecorderState _ _). MountEffect v.kept (disk v.medium) (record k { work = work_of c.set_work.new.work; found = c.found_first-self-inside.result }) later) c.self.view_is
            (subst (λ (x : Doing). MountEffect k (disk w.medium) (record k { work = work_of x; found = c.found_first-self-inside.result }) later) (sym c.set_work.ensures)
            (mount_effect k (disk w.medium) later c.in-Ok.directory c.mount.result (subst (λ (n : ℕ). IsMounted n (disk w.medium).blocks c.in-Ok.directory) reserved c.in-Ok.ensures.mounted)
            (λ chain usable. c.mount.ensures.turns chain (subst (λ (n : ℕ). IsUsable n (disk w.medium).blocks chain) (sym reserved) usable)) c.in-Ok.ensures.directory c.found_first-self-inside.result first));
        owned =
            let is = subst (λ (n : ℕ). IsMounted n (disk w.medium).blocks c.in-Ok.directory) reserved c.in-Ok.ensures.mounted in
            let turns = c.mount.ensures.turns is.chain (subst (λ (n : ℕ). IsUsable n (disk w.medium).blocks is.chain) (sym reserved) is.usable) in
            subst (λ (v : RecorderState _ _). OwnStay v.kept (disk v.medium).blocks (record k { work = work_of c.set_work.new.work; found = c.found_first-self-inside.result }) later.blocks) c.self.view_is
            (stay_by k (record k { work = work_of c.set_work.new.work; found = c.found_first-self-inside.result }) (disk w.medium).blocks later.blocks
            (mounted_own k (record k { work = work_of c.set_work.new.work; found = c.found_first-self-inside.result }) (disk w.medium).blocks later.blocks is.chain (unmounted_work k.work fine) (whole_reads (disk w.medium)) is.usable
            (one_block k.config.directory (length (disk w.medium).blocks) is.chain (with_shutdown 0x00 is.chain) (disk w.medium) later c.mount.result (some_reserved k.config.directory (disk w.medium).blocks is.chain is.usable) turns)
            (ap work_of c.set_work.ensures ∙ ap idle is.made_is) (first ∙ ap (λ (l : List DirectoryEntry). option_or k.found (Some (length l))) listed)));
        spares =
            subst (λ (v : RecorderState _ _). MountSpares v.kept.config.directory (disk v.medium) later) c.self.view_is
            (subst (λ (n : ℕ). MountSpares n (disk w.medium) later) c.directory.ensures.value (mount_spares c.directory.result (disk w.medium) later c.mount.result (λ chain usable. c.mount.ensures.turns chain usable) (λ n is. (c.mount.ensures.unusable n is).same)));
        lanes = search rules;
        config = search rules;
      };
    }

pub returns-in-Err-BadDirectory : goal.returns-in-Err-BadDirectory
returns-in-Err-BadDirectory g c =
    let w = c.self.inside in
    let k = kept_of w.keeping in
    let disk = g.M.BlockMedium.disk in
    let later = disk c.mount.new.medium in
    record {
      does = record {
        passed = search rules;
        refused =
            let fine : first_broken (unmounted_checks (mode_of k.work)) ≡ None = ap (λ mode. first_broken (unmounted_checks mode)) (sym c.mode_in.ensures) ∙ c.in_default.ensures in
            subst (λ (v : RecorderState _ _). RefusesCall disk (first_broken (unmounted_checks (mode_of v.kept.work))) (IsMountRefusal v.kept.config.directory (disk v.medium)) v.kept k v.medium c.mount.new.medium (refusals.BadDirectory c.in-Err-BadDirectory.block)) c.self.view_is
            (lacking disk (first_broken (unmounted_checks (mode_of k.work))) (IsMountRefusal k.config.directory (disk w.medium)) k k w.medium c.mount.new.medium c.in-Err-BadDirectory.block fine
            (rw (sym c.directory.ensures.value) (rw c.in-Err-BadDirectory.field-0-is at c.in-Err-BadDirectory.ensures.fault)) (rw c.in-Err-BadDirectory.field-0-is at c.in-Err-BadDirectory.ensures.left) refl);
        steps = search rules;
        shown = search rules;
        power_loss =
            subst (λ (v : RecorderState _ _). StaysSafe whichever v.kept events.Mount (replies.Refused (refusals.BadDirectory c.in-Err-BadDirectory.block)) (disk v.medium) k later) c.self.view_is
            (refused_safely whichever k k events.Mount (refusals.BadDirectory c.in-Err-BadDirectory.block) (disk w.medium) later refl (rw c.in-Err-BadDirectory.field-0-is at c.in-Err-BadDirectory.ensures.left));
        effect = search rules;
        owned =
            subst (λ (v : RecorderState _ _). OwnStay v.kept (disk v.medium).blocks k (disk c.mount.new.medium).blocks) c.self.view_is
            (subst (λ (image : Image). OwnStay k (disk w.medium).blocks k image) (sym ((rw c.in-Err-BadDirectory.field-0-is at c.in-Err-BadDirectory.ensures.left).reads)) (stay_same k (disk w.medium).blocks));
        spares =
            subst (λ (v : RecorderState _ _). MountSpares v.kept.config.directory (disk v.medium) later) c.self.view_is
            (subst (λ (n : ℕ). MountSpares n (disk w.medium) later) c.directory.ensures.value (mount_spares c.directory.result (disk w.medium) later c.mount.result (λ chain usable. c.mount.ensures.turns chain usable) (λ n is. (c.mount.ensures.unusable n is).same)));
        lanes = search rules;
        config = search rules;
      };
    }

pub returns-in-Err-OutOfMemory : goal.returns-in-Err-OutOfMemory
returns-in-Err-OutOfMemory g c =
    let w = c.self.inside in
    let k = kept_of w.keeping in
    let disk = g.M.BlockMedium.disk in
    let later = disk c.mount.new.medium in
    record {
      does = record {
        passed = search rules;
        refused = search rules;
        steps =
            let fine : first_broken (unmounted_checks (mode_of k.work)) ≡ None = ap (λ mode. first_broken (unmounted_checks mode)) (sym c.mode_in.ensures) ∙ c.in_default.ensures in
            subst (λ (v : RecorderState _ _). (m : Machine) → KeptStandsFor v.kept (disk v.medium).blocks (disk v.medium).failures m
            → KeptStepsTaking none_taken v.kept m events.Mount (replies.Refused refusals.OutOfMemory) k later.blocks later.failures) c.self.view_is
            (λ m means. mount_lacks c.a_step_stays_sound.ensures k (disk w.medium).blocks later.blocks (disk w.medium).failures later.failures m c.self.invariant.limits means fine
            (rw c.in-Err-OutOfMemory.field-0-is at c.in-Err-OutOfMemory.ensures.left).reads c.mount.ensures.no_fewer);
        shown = search rules;
        power_loss =
            subst (λ (v : RecorderState _ _). StaysSafe whichever v.kept events.Mount (replies.Refused refusals.OutOfMemory) (disk v.medium) k later) c.self.view_is
            (refused_safely whichever k k events.Mount refusals.OutOfMemory (disk w.medium) later refl (rw c.in-Err-OutOfMemory.field-0-is at c.in-Err-OutOfMemory.ensures.left));
        effect = search rules;
        owned =
            subst (λ (v : RecorderState _ _). OwnStay v.kept (disk v.medium).blocks k (disk c.mount.new.medium).blocks) c.self.view_is
            (subst (λ (image : Image). OwnStay k (disk w.medium).blocks k image) (sym ((rw c.in-Err-OutOfMemory.field-0-is at c.in-Err-OutOfMemory.ensures.left).reads)) (stay_same k (disk w.medium).blocks));
        spares =
            subst (λ (v : RecorderState _ _). MountSpares v.kept.config.directory (disk v.medium) later) c.self.view_is
            (subst (λ (n : ℕ). MountSpares n (disk w.medium) later) c.directory.ensures.value (mount_spares c.directory.result (disk w.medium) later c.mount.result (λ chain usable. c.mount.ensures.turns chain usable) (λ n is. (c.mount.ensures.unusable n is).same)));
        lanes = search rules;
        config = search rules;
      };
    }

pub returns-in-Err-Medium : goal.returns-in-Err-Medium
returns-in-Err-Medium g c =
    let w = c.self.inside in
    let k = kept_of w.keeping in
    let disk = g.M.BlockMedium.disk in
    let later = disk c.mount.new.medium in
    let fine : first_broken (unmounted_checks (mode_of k.work)) ≡ None = ap (λ mode. first_broken (unmounted_checks mode)) (sym c.mode_in.ensures) ∙ c.in_default.ensures in
    record {
      does = record {
        passed = search rules;
        refused = search rules;
        steps =
            subst (λ (v : RecorderState _ _). (m : Machine) → KeptStandsFor v.kept (disk v.medium).blocks (disk v.medium).failures m
            → KeptStepsTaking none_taken v.kept m events.Mount (replies.Refused refusals.Medium) (record k { work = work_of c.set_work-in-Err-Medium.new.work }) later.blocks later.failures) c.self.view_is
            (subst (λ (x : Doing). (m : Machine) → KeptStandsFor k (disk w.medium).blocks (disk w.medium).failures m → KeptStepsTaking none_taken k m events.Mount (replies.Refused refusals.Medium) (record k { work = work_of x }) later.blocks later.failures) (sym c.set_work-in-Err-Medium.ensures)
            (λ m means.
            let says = said k k.work (disk w.medium).blocks m refl (unmounted_work k.work fine) means.files in
            mount_fails c.a_step_stays_sound.ensures k (disk w.medium).blocks later.blocks (disk w.medium).failures later.failures m c.self.invariant.limits means fine c.mount.ensures.no_fewer
            (c.in-Err-Medium.ensures.cause (ap Err c.in-Err-Medium.field-0-is)) (c.mount.ensures.files.says k.config m.files says.0)));
        shown =
            subst (λ (v : RecorderState _ _). MachinesKeepShown v.kept (disk v.medium).blocks (disk v.medium).failures (disk c.mount.new.medium).blocks) c.self.view_is
            (λ m means. c.mount.ensures.files.bytes k.config m.files (says_of k.config k.work (disk w.medium).blocks m.files (unmounted_work k.work fine) means.files));
        power_loss =
            subst (λ (v : RecorderState _ _). StaysSafe whichever v.kept events.Mount (replies.Refused refusals.Medium) (disk v.medium) (record k { work = work_of c.set_work-in-Err-Medium.new.work }) later) c.self.view_is
            (failed_safely whichever k (record k { work = work_of c.set_work-in-Err-Medium.new.work }) events.Mount (replies.Refused refusals.Medium) (disk w.medium) later (ap work_of c.set_work-in-Err-Medium.ensures) (makes_none whichever k events.Mount (disk w.medium) later (unmounted_leaves k (disk w.medium) later (unmounted_work k.work fine) (λ files settled. c.mount.ensures.files.moments k.config files settled))));
        effect = search rules;
        owned =
            subst (λ (v : RecorderState _ _). OwnStay v.kept (disk v.medium).blocks (record k { work = work_of c.set_work-in-Err-Medium.new.work }) (disk c.mount.new.medium).blocks) c.self.view_is
            (stay_failed k (record k { work = work_of c.set_work-in-Err-Medium.new.work }) (disk w.medium).blocks (disk c.mount.new.medium).blocks (ap work_of c.set_work-in-Err-Medium.ensures));
        spares =
            subst (λ (v : RecorderState _ _). MountSpares v.kept.config.directory (disk v.medium) later) c.self.view_is
            (subst (λ (n : ℕ). MountSpares n (disk w.medium) later) c.directory.ensures.value (mount_spares c.directory.result (disk w.medium) later c.mount.result (λ chain usable. c.mount.ensures.turns chain usable) (λ n is. (c.mount.ensures.unusable n is).same)));
        lanes = search rules;
        config = search rules;
      };
    }
