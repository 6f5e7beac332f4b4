-- A new recorder over a medium that has files.
use Rattle.std.proofs.Common.{◌≡◌, ℕ, inl, false, List, [], ◌∷◌, length, map, replicate, refl}
use Rattle.std.specs.List.{AllByRecursion}
use Rattle.r10_body.specs.declared.spec.ChannelSpec.{ChannelSpec}
use Rattle.r10_refinement.specs.Means.{OthersAreFound, LanesAreCounted}
use Rattle.r10_machine.specs.Config.{Config}
use Rattle.r10_machine.specs.Machine.{File, fresh, fresh_lane}
use Rattle.r10_machine.specs.SoundParts.{own_files}
use Rattle.r10_medium.specs.Disk.{Image}
use Rattle.r10_world.specs.Joined.{KeptAndSlotsStandFor, new_kept}
use Rattle.r10_machine.specs.EventChecks.{most_files}
use Rattle.r10_machine.specs.Says.{AreFound, MediumHas}
use Rattle.r10_machine.specs.Sound.{IsFoundFile, IsSound}
use Rattle.std.specs.Prelude.{◌≤◌}

others_found : (image : Image) (files : List File) → AreFound image files → OthersAreFound image files
others_found image [] found = tt
others_found image (f ∷ files) (first, found) = (λ other. first, others_found image files found)

none_own : (image : Image) (files : List File) → AreFound image files → own_files files ≡ []
none_own image [] found = refl
none_own image (f ∷ files) (first, found) = rw first.own (none_own image files found)

others_all : (image : Image) (files : List File) → AreFound image files → map (λ (f : File). f.own) files ≡ replicate (length files) false
others_all image [] found = refl
others_all image (f ∷ files) (first, found) = rw (first.own, others_all image files found) refl

none_taken : (files : List File) → own_files files ≡ [] → (specs : List ChannelSpec) → LanesAreCounted files specs (replicate (length specs) 0) (replicate (length specs) 0) (map fresh_lane specs)
none_taken files none [] = tt
none_taken files none (x ∷ specs) = (
  record { spec_is = refl; erased_is = refl; taken_is = rw none refl },
  none_taken files none specs,
)

pub begins : ((s : Config) (files : List File) (failures : ℕ) → AllByRecursion IsFoundFile files → length files ≤ most_files s → IsSound s (fresh s.channels files failures))
    → ((s : Config) (image : Image) (files : List File) → MediumHas s image files → AllByRecursion IsFoundFile files × (length files ≤ most_files s))
    → (s : Config) (image : Image) (files : List File) (failures : ℕ) → MediumHas s image files → KeptAndSlotsStandFor (new_kept s) image failures [] (fresh s.channels files failures)
begins sound are s image files failures has =
    let found = are s image files has in
    record {
      means = record {
        mode = refl;
        tick = refl;
        counted = refl;
        files = (has.0, others_found image files has.1);
        numbers = (refl, refl, none_taken files (none_own image files has.1) s.channels, inl (refl, others_all image files has.1));
        sound = sound s files failures found.0 found.1;
      };
      stand = record { each = λ id. tt };
      read = record { each = λ id. tt };
    }
