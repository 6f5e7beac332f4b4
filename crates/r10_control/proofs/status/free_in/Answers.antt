use Rattle.std.proofs.Common.{◌≡◌, ℕ, sym, ap, ◌∙◌, arith, subst}
use Rattle.r10_dirchain.specs.Chain.{listed_files}
use Rattle.r10_machine.specs.Machine.{Machine}
use Rattle.r10_machine.specs.Room.{area_from}
use Rattle.r10_refinement.specs.KeptState.{mode_of}
use Rattle.r10_refinement.specs.Means.{HasFiles}
use Rattle.r10_medium.specs.Disk.{Image}
use Rattle.r10_machine.specs.Finding.{free_bytes}
use Rattle.r10_control.specs.RecorderStatus.{free_in}
use Rattle.r10_control.specs.Work.{work_of}
use Rattle.r10_control.specs.declared.work.Doing.{Doing}
use Rattle.r10_volume.specs.Listing.{block_behind}
use Rattle.r10_control.proofs.Statuses.{area_min, free_idle, free_recording}
use Rattle.r10_control.proofs.status.free_in.Goals as goal

pub returns-in-Idle-clause-value : goal.returns-in-Idle-clause-value
returns-in-Idle-clause-value c =
    c.area_from.ensures
    ∙ area_min c.args.settings.now c.next_block.result (block_behind c.directory.result (listed_files c.in-Idle.directory)) c.next_block.ensures (omega (arith, c.blocks-blocks.ensures.range.1, c.blocks-blocks.ensures.value))
    ∙ ap (λ (n : ℕ). area_from c.args.settings.now (block_behind n (listed_files c.in-Idle.directory))) c.directory.ensures.value
    ∙ ap (λ (w : Doing). free_in c.args.settings.now (work_of w)) (sym c.in-Idle.is)

pub returns-in-Idle-clause-held : goal.returns-in-Idle-clause-held
returns-in-Idle-clause-held c =
    let s = c.args.settings.now in
    let value = c.area_from.ensures
    ∙ area_min s c.next_block.result (block_behind c.directory.result (listed_files c.in-Idle.directory)) c.next_block.ensures (omega (arith, c.blocks-blocks.ensures.range.1, c.blocks-blocks.ensures.value))
    ∙ ap (λ (n : ℕ). area_from s (block_behind n (listed_files c.in-Idle.directory))) c.directory.ensures.value in
    subst (λ (w : Doing). (image : Image) (m : Machine) → m.mode ≡ mode_of (work_of w) → HasFiles s (work_of w) image m.files → c.area_from.result ≡ free_bytes s m) (sym c.in-Idle.is)
    (λ image m mode holds. value ∙ free_idle s image c.in-Idle.directory m mode holds)

pub returns-in-Recording-clause-held : goal.returns-in-Recording-clause-held
returns-in-Recording-clause-held c =
    let s = c.args.settings.now in
    subst (λ (w : Doing). (image : Image) (m : Machine) → m.mode ≡ mode_of (work_of w) → HasFiles s (work_of w) image m.files → c.left_in.result ≡ free_bytes s m) (sym c.in-Recording.is)
    (λ image m mode holds. free_recording s image c.in-Recording.directory c.in-Recording.file m c.left_in.result mode holds (c.left_in.ensures.held image))
