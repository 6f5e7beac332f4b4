use Rattle.std.proofs.Common.{◌≡◌, ◌^◌, ◌-◌, ℕ, List, Option, None, length, min, refl, ap, ◌∙◌, subst}
use Rattle.std.specs.List.{last_or}
use Rattle.r10_control.specs.Checks.{files_of}
use Rattle.r10_control.specs.Keeping.{kept_of}
use Rattle.r10_control.specs.State.{RecorderState}
use Rattle.r10_control.specs.RecorderStatus.{last_shown, shown_as_last}
use Rattle.r10_control.proofs.Statuses.{files_all}
use Rattle.r10_control.proofs.recorder.Recorder.last_shown.Goals as goal

pub returns : goal.returns
returns g c =
    let w = c.self.inside in
    let k = kept_of w.keeping in
    subst (λ (v : RecorderState _ _). c.last_in.result ≡ last_shown v.kept.work) c.self.view_is
    (c.last_in.ensures
    ∙ ap (λ (n : ℕ). shown_as_last n (last_or None (files_of k.work)))
    (files_all _ _ _ _ _ _ c.blocks-blocks.result (min (length (files_of k.work)) (2 ^ 64 - 1)) c.self.invariant c.blocks-blocks.ensures.value c.blocks-blocks.ensures.range.0 c.blocks-blocks.ensures.range.1 refl))
