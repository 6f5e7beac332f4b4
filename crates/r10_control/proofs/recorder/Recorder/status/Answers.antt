use Rattle.std.proofs.Common.{◌≡◌, ℕ, List, length, sym, ◌∙◌, subst, refl, arith, rules}
use Rattle.r10_body.specs.declared.refusal.Refusal.TheVariants as refusals
use Rattle.r10_machine.specs.Finding.{status_of}
use Rattle.r10_machine.specs.Machine.{Machine}
use Rattle.r10_machine.specs.declared.event.Event.TheVariants as events
use Rattle.r10_machine.specs.declared.mode.Mode.{Mode}
use Rattle.r10_machine.specs.declared.reply.Reply.TheVariants as replies
use Rattle.r10_refinement.specs.KeptState.{mode_of}
use Rattle.r10_refinement.specs.Means.{KeptStandsFor}
use Rattle.r10_control.specs.Checks.{files_of}
use Rattle.r10_control.specs.Keeping.{kept_of}
use Rattle.r10_control.specs.Lanes.{WaitQuietly}
use Rattle.r10_control.specs.Leading.{KeptStepsTaking, none_taken}
use Rattle.r10_control.specs.State.{RecorderState}
use Rattle.r10_control.specs.RecorderStatus.{TellsLanes, TellsRecorder, without_lost}
use Rattle.r10_control.specs.declared.status.LaneStatus.{LaneStatus}
use Rattle.r10_control.specs.declared.status.RecorderStatus.{RecorderStatus}
use Rattle.r10_control.proofs.Leading.{memory_leads}
use Rattle.r10_control.proofs.LooksAtLanes.{looked, looks_alike, owns_looked}
use Rattle.r10_control.proofs.Statuses.{files_all, numbered}
use Rattle.r10_control.proofs.recorder.Recorder.status.Goals as goal

pub invariant_of-self : goal.invariant_of-self
invariant_of-self g c =
    let w = c.self.inside in
    let k = kept_of w.keeping in
    owns_looked g.L.LaneOut.took g.L.LaneOut.spec_of g.L.LaneOut.reached k (g.M.BlockMedium.disk w.medium).blocks w.reader.books w.lanes.items c.lanes_in.new.lanes.items g.met.L.LaneOut.keeps_spec g.met.L.LaneOut.rises c.lanes_in.ensures.took c.self.invariant

pub invariant_of-self-2 : goal.invariant_of-self-2
invariant_of-self-2 g c =
    let w = c.self.inside in
    let k = kept_of w.keeping in
    owns_looked g.L.LaneOut.took g.L.LaneOut.spec_of g.L.LaneOut.reached k (g.M.BlockMedium.disk w.medium).blocks w.reader.books w.lanes.items c.lanes_in.new.lanes.items g.met.L.LaneOut.keeps_spec g.met.L.LaneOut.rises c.lanes_in.ensures.took c.self.invariant

pub returns-in_default : goal.returns-in_default
returns-in_default g c =
    let w = c.self.inside in
    let k = kept_of w.keeping in
    let disk = g.M.BlockMedium.disk in
    record {
      does = record {
        reported = search rules;
        meant = search rules;
        steps =
            let now = disk w.medium in
            subst (λ (v : RecorderState _ _). (m : Machine) → KeptStandsFor v.kept (disk v.medium).blocks (disk v.medium).failures m → KeptStepsTaking none_taken v.kept m events.Status (replies.Refused refusals.OutOfMemory) k now.blocks now.failures) c.self.view_is
            (λ m means. memory_leads c.a_step_stays_sound.ensures k now.blocks now.blocks now.failures now.failures m events.Status c.self.invariant.limits means refl (omega arith) refl refl refl);
        refused = search rules;
        looked = search rules;
        kept = search rules;
        medium = search rules;
      };
    }

pub returns : goal.returns
returns g c =
    let w = c.self.inside in
    let k = kept_of w.keeping in
    let disk = g.M.BlockMedium.disk in
    let lane = g.L.LaneOut in
    record {
      does = record {
        reported =
            let all : c.count_in.result ≡ length (files_of k.work) = files_all _ _ _ _ _ _ c.blocks-blocks.result c.count_in.result c.self.invariant c.blocks-blocks.ensures.value c.blocks-blocks.ensures.range.0 c.blocks-blocks.ensures.range.1 c.count_in.ensures in
            let channels : TellsLanes lane.quiet lane.spec_of (mode_of k.work) w.lanes.items k.erased c.of.result =
            subst (λ (ts : List LaneStatus). TellsLanes lane.quiet lane.spec_of (mode_of k.work) w.lanes.items k.erased ts) (sym c.of.ensures)
            (subst (λ (es : List ℕ). TellsLanes lane.quiet lane.spec_of (mode_of k.work) w.lanes.items es c.in-Ok.channels.items) c.as_slice.ensures.value
            (subst (λ (x : Mode). TellsLanes lane.quiet lane.spec_of x w.lanes.items c.as_slice.result.now c.in-Ok.channels.items) c.mode_in-mode.ensures c.in-Ok.ensures.reported)) in
            subst (λ (v : RecorderState _ _). TellsRecorder lane.quiet lane.spec_of v.kept v.lanes (record { mode = c.mode_in-mode.result; tick = c.tick_in.result; files = c.count_in.result; free = c.free_in.result; channels = c.of.result })) c.self.view_is
            (record { mode = c.mode_in-mode.ensures; tick = c.tick_in.ensures; files = all; free = c.free_in.ensures.value; channels = channels });
        meant =
            let reported : RecorderStatus = record { mode = c.mode_in-mode.result; tick = c.tick_in.result; files = c.count_in.result; free = c.free_in.result; channels = c.of.result } in
            let all : c.count_in.result ≡ length (files_of k.work) = files_all _ _ _ _ _ _ c.blocks-blocks.result c.count_in.result c.self.invariant c.blocks-blocks.ensures.value c.blocks-blocks.ensures.range.0 c.blocks-blocks.ensures.range.1 c.count_in.ensures in
            let channels : TellsLanes lane.quiet lane.spec_of (mode_of k.work) w.lanes.items k.erased c.of.result =
            subst (λ (ts : List LaneStatus). TellsLanes lane.quiet lane.spec_of (mode_of k.work) w.lanes.items k.erased ts) (sym c.of.ensures)
            (subst (λ (es : List ℕ). TellsLanes lane.quiet lane.spec_of (mode_of k.work) w.lanes.items es c.in-Ok.channels.items) c.as_slice.ensures.value
            (subst (λ (x : Mode). TellsLanes lane.quiet lane.spec_of x w.lanes.items c.as_slice.result.now c.in-Ok.channels.items) c.mode_in-mode.ensures c.in-Ok.ensures.reported)) in
            let tells : TellsRecorder lane.quiet lane.spec_of k w.lanes.items reported = record { mode = c.mode_in-mode.ensures; tick = c.tick_in.ensures; files = all; free = c.free_in.ensures.value; channels = channels } in
            subst (λ (v : RecorderState _ _). (m : Machine) → KeptStandsFor v.kept (disk v.medium).blocks (disk v.medium).failures m → WaitQuietly lane.quiet v.lanes m.lanes → ◌≡◌ {A = RecorderStatus} reported (without_lost (status_of v.kept.config m))) c.self.view_is
            (λ m means waits. looks_alike lane.quiet lane.spec_of k (disk w.medium).blocks (disk w.medium).failures m w.lanes.items reported means c.self.invariant.specs (numbered _ _ _ _ _ _ c.self.invariant) waits
            (λ image x mode files. sym c.free_in.ensures.value ∙ c.free_in.ensures.held image x mode files) tells);
        steps =
            let now = disk w.medium in
            subst (λ (v : RecorderState _ _). (m : Machine) → KeptStandsFor v.kept (disk v.medium).blocks (disk v.medium).failures m → KeptStepsTaking none_taken v.kept m events.Status (replies.Status (status_of v.kept.config m)) k now.blocks now.failures) c.self.view_is
            (λ m means. looked c.reports_are_steps.ensures.status k now.blocks now.failures m c.self.invariant.limits means);
        refused = search rules;
        looked = search rules;
        kept = search rules;
        medium = search rules;
      };
    }
