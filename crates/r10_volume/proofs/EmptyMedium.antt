-- A medium that has the empty directory has no files.
use Rattle.std.proofs.Common.{◌≡◌, ◌⊎◌, ◌↔◌, ℕ, false, List, [], ◌∷◌, length, None, Err, IsErrOf, inl, inr, ⊎_elim, sym, ap, ◌∙◌, subst, true≢false}
use Rattle.r10_count.specs.Checks.{first_broken}
use Rattle.r10_count.specs.Names.{is_volume}
use Rattle.r10_dirchain.specs.Mount.{mount_rules}
use Rattle.r10_dirchain.specs.OnMedium.{Turned}
use Rattle.r10_dirchain.specs.Steps.{formatted}
use Rattle.r10_dirchain.specs.declared.formatting.FormatError.{FormatError}
use Rattle.r10_dirchain.specs.declared.formatting.FormatError.TheVariants.{BadName}
use Rattle.r10_volume.specs.Formatted.{IsFormatted}
use Rattle.r10_machine.specs.Config.{Config}
use Rattle.r10_machine.specs.Limits.{IsConfig}
use Rattle.r10_machine.proofs.Ranges.{parts_of}
use Rattle.r10_medium.specs.Disk.{Disk, Image, MayLeave}
use Rattle.r10_medium.specs.PowerLoss.{Leaves}
use Rattle.r10_medium.proofs.PowerLoss.{weakened}

-- the volume's name of settings within the limits is one that a directory takes
pub is_named : (s : Config) (volume : List ℕ) (e : FormatError) → IsConfig s → volume ≡ s.volume → IsErrOf {T = Unit {0}} (Err e) BadName ↔ (is_volume volume ≡ false) → e ≡ BadName → ⊥
is_named s volume e limits is bad this =
    let same : IsErrOf {T = Unit {0}} (Err e) BadName = ap Err this in
    true≢false (sym (parts_of s limits).volume ∙ ap is_volume (sym is) ∙ bad.0 same)

-- the empty directory is one that a recorder of these settings mounts, and it lists no files
pub made : (s : Config) (old new : Image) → length old ≡ s.blocks → first_broken (mount_rules s.directory (length old) (formatted s.volume)) ≡ None
    → Turned (formatted s.volume) (1 ∷ []) old new → IsFormatted s old new
made s old new size rules turned = record {
  turned = turned;
  has = (
    record {
      blocks = turned.others.size ∙ size;
      chain = formatted s.volume;
      directory = turned.directory;
      mounts = subst (λ (n : ℕ). first_broken (mount_rules s.directory n (formatted s.volume)) ≡ None) size rules;
      each = tt;
    },
    tt,
  );
}

-- what a power loss leaves, so
pub made_moments : (s : Config) (directory : ℕ) (volume : List ℕ) (old new : Disk) → directory ≡ s.directory → volume ≡ s.volume → length old.blocks ≡ s.blocks
    → first_broken (mount_rules directory (length old.blocks) (formatted volume)) ≡ None → Leaves (λ image. MayLeave old image ⊎ Turned (formatted volume) (1 ∷ []) old.blocks image) old new
    → Leaves (λ image. MayLeave old image ⊎ IsFormatted s old.blocks image) old new
made_moments s directory volume old new here named size rules run =
    weakened (λ image. MayLeave old image ⊎ Turned (formatted volume) (1 ∷ []) old.blocks image) (λ image. MayLeave old image ⊎ IsFormatted s old.blocks image) old new
    (λ image. ⊎_elim
    (λ was. inl was)
    (λ turned. inr (made s old.blocks image size
    (subst (λ (n : ℕ). first_broken (mount_rules n (length old.blocks) (formatted s.volume)) ≡ None) here (subst (λ (v : List ℕ). first_broken (mount_rules directory (length old.blocks) (formatted v)) ≡ None) named rules))
    (subst (λ (v : List ℕ). Turned (formatted v) (1 ∷ []) old.blocks image) named turned))))
    run
