use Rattle.std.proofs.Common.{◌≡◌, ℕ, List, length, sym, ap, ◌∙◌, subst}
use Rattle.r10_machine.specs.Machine.{Lane, Machine}
use Rattle.r10_machine.specs.declared.mode.Mode.{Mode}
use Rattle.r10_refinement.specs.KeptState.{mode_of}
use Rattle.r10_refinement.specs.Means.{KeptStandsFor}
use Rattle.r10_control.specs.Checks.{files_of}
use Rattle.r10_control.specs.Keeping.{kept_of}
use Rattle.r10_control.specs.Lanes.{AreLanes, LeadsWith}
use Rattle.r10_control.specs.Owns.{tick_count}
use Rattle.r10_control.specs.State.{RecorderState}
use Rattle.r10_control.specs.RecorderStatus.{channels_in, free_in, status_in}
use Rattle.r10_machine.specs.declared.event.Event.TheVariants as events
use Rattle.r10_machine.specs.declared.reply.Reply.TheVariants as replies
use Rattle.r10_machine.specs.declared.reply.Status.{Status}
use Rattle.r10_control.proofs.Statuses.{files_all, made, numbered, status_leads}
use Rattle.r10_control.proofs.status.Recorder+M+RingLane.status_with_lost.Goals as goal

pub returns-clause-reported : goal.returns-clause-reported
returns-clause-reported g c =
    let w = c.self.inside in
    let k = kept_of w.keeping in
    let all : c.count_in.result ≡ length (files_of k.work) = files_all _ _ _ _ _ _ c.blocks-blocks.result c.count_in.result c.self.invariant c.blocks-blocks.ensures.value c.blocks-blocks.ensures.range.0 c.blocks-blocks.ensures.range.1 c.count_in.ensures in
    let channels : c.of.result ≡ channels_in (mode_of k.work) w.lanes.items k.erased =
    c.of.ensures ∙ c.in-Ok.ensures
    ∙ ap (λ (x : Mode). channels_in x c.as_slice.result.now c.as_slice-2.result.now) c.mode_in-mode.ensures
    ∙ ap (λ (ls : List Lane). channels_in (mode_of k.work) ls c.as_slice-2.result.now) c.as_slice.ensures.value
    ∙ ap (λ (es : List ℕ). channels_in (mode_of k.work) w.lanes.items es) c.as_slice-2.ensures.value in
    subst (λ (v : RecorderState _ _). ◌≡◌ {A = Status} (record { mode = c.mode_in-mode.result; tick = c.tick_in.result; files = c.count_in.result; free = c.free_in.result; channels = c.of.result }) (status_in v.kept v.lanes)) c.self.view_is
    (made c.mode_in-mode.result (mode_of k.work) c.tick_in.result (tick_count k.tick) c.count_in.result (length (files_of k.work)) c.free_in.result (free_in k.config k.work) c.of.result (channels_in (mode_of k.work) w.lanes.items k.erased)
    c.mode_in-mode.ensures c.tick_in.ensures all c.free_in.ensures.value channels)

pub returns-clause-steps : goal.returns-clause-steps
returns-clause-steps g c =
    let w = c.self.inside in
    let k = kept_of w.keeping in
    let disk = g.M.BlockMedium.disk in
    let status : Status = record { mode = c.mode_in-mode.result; tick = c.tick_in.result; files = c.count_in.result; free = c.free_in.result; channels = c.of.result } in
    let all : c.count_in.result ≡ length (files_of k.work) = files_all _ _ _ _ _ _ c.blocks-blocks.result c.count_in.result c.self.invariant c.blocks-blocks.ensures.value c.blocks-blocks.ensures.range.0 c.blocks-blocks.ensures.range.1 c.count_in.ensures in
    let channels : c.of.result ≡ channels_in (mode_of k.work) w.lanes.items k.erased =
    c.of.ensures ∙ c.in-Ok.ensures
    ∙ ap (λ (x : Mode). channels_in x c.as_slice.result.now c.as_slice-2.result.now) c.mode_in-mode.ensures
    ∙ ap (λ (ls : List Lane). channels_in (mode_of k.work) ls c.as_slice-2.result.now) c.as_slice.ensures.value
    ∙ ap (λ (es : List ℕ). channels_in (mode_of k.work) w.lanes.items es) c.as_slice-2.ensures.value in
    let is : status ≡ status_in k w.lanes.items =
    made c.mode_in-mode.result (mode_of k.work) c.tick_in.result (tick_count k.tick) c.count_in.result (length (files_of k.work)) c.free_in.result (free_in k.config k.work) c.of.result (channels_in (mode_of k.work) w.lanes.items k.erased)
    c.mode_in-mode.ensures c.tick_in.ensures all c.free_in.ensures.value channels in
    subst (λ (v : RecorderState _ _). (m : Machine) → KeptStandsFor v.kept (disk v.medium).blocks (disk v.medium).failures m → AreLanes v.lanes m
    → LeadsWith v.kept m events.Status (replies.Status status) (disk v.medium).blocks (disk v.medium).failures v.lanes) c.self.view_is
    (λ m means are. status_leads c.reports_are_steps.ensures.status k (disk w.medium).blocks (disk w.medium).failures m w.lanes.items status c.self.invariant.limits means are (numbered _ _ _ _ _ _ c.self.invariant)
    (λ image x mode files. sym c.free_in.ensures.value ∙ c.free_in.ensures.held image x mode files) is)
