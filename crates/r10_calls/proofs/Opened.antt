-- What is known of a new world, by its own settings.
use Rattle.std.proofs.Common.{◌≡◌, ℕ, List, sym, subst}
use Rattle.r10_calls.specs.Opening.{IsSettings, OpensRecorder}
use Rattle.r10_machine.specs.Config.{Config}
use Rattle.r10_machine.specs.Machine.{File, fresh}
use Rattle.r10_machine.specs.Says.{MediumHas, MediumSays}
use Rattle.r10_medium.specs.Disk.{Disk, Image}
use Rattle.r10_medium.specs.PowerLoss.{Settled}
use Rattle.r10_refinement.specs.Safe.{IsSafe}
use Rattle.r10_world.specs.State.{WorldState}
use Rattle.r10_world.specs.PowerLoss.{Recovers}
use Rattle.r10_world.specs.WorldSteps.{WorldStandsFor}

pub opened : {M : Type 0} (disk : M → Disk) (text : List ℕ) (medium : M) (w : WorldState M) (s : Config)
    → w.recorder.kept.config ≡ s → IsSettings text s → w.recorder.medium ≡ medium
    → ((files : List File) → MediumHas s (disk medium).blocks files → WorldStandsFor disk w (fresh s.channels files (disk medium).failures))
    → ((files : List File) → MediumSays s (disk medium).blocks files → Recovers disk s (disk medium) files w)
    → ((files : List File) → Settled (λ (image : Image). MediumSays s image files) (disk medium) → IsSafe w.recorder.kept.config w.recorder.kept.work files (disk w.recorder.medium))
    → OpensRecorder disk text medium w
opened disk text medium w s e settings holds stands recovers safe = record {
  settings = subst (IsSettings text) (sym e) settings;
  holds = holds;
  stands = subst (λ (k : Config). (files : List File) → MediumHas k (disk medium).blocks files → WorldStandsFor disk w (fresh k.channels files (disk medium).failures)) (sym e) stands;
  recovers = subst (λ (k : Config). (files : List File) → MediumSays k (disk medium).blocks files → Recovers disk k (disk medium) files w) (sym e) recovers;
  safe = subst (λ (k : Config). (files : List File) → Settled (λ (image : Image). MediumSays k image files) (disk medium)
      → IsSafe w.recorder.kept.config w.recorder.kept.work files (disk w.recorder.medium)) (sym e) safe;
}
