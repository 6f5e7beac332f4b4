-- A new world.
use Rattle.std.proofs.Common.{◌≡◌, ℕ, List, [], ◌∷◌, map, Option, refl, sym, ap, ◌∙◌}
use Rattle.r10_body.specs.declared.spec.ChannelSpec.{ChannelSpec}
use Rattle.r10_world.specs.Joined.{KeptAndSlotsStandFor, begun_world, new_kept}
use Rattle.r10_world.specs.State.{WorldState}
use Rattle.r10_machine.specs.Config.{Config}
use Rattle.r10_machine.specs.Limits.{IsConfig}
use Rattle.r10_machine.specs.Machine.{File, Lane, fresh, fresh_lane}
use Rattle.r10_medium.specs.Disk.{Disk, Image}
use Rattle.r10_cursor.specs.declared.cursor.Cursor.{Cursor}
use Rattle.r10_control.specs.State.{RecorderState}
use Rattle.r10_world.specs.WorldSteps.{RecorderStandsFor}
use Rattle.r10_refinement.specs.KeptState.{Kept}
use Rattle.r10_control.specs.Lanes.{unerased}
use Rattle.r10_world.specs.RepresentedParts.{PartsStandFor}
use Rattle.r10_machine.specs.Says.{MediumHas, MediumSays}
use Rattle.r10_medium.specs.PowerLoss.{Settled}
use Rattle.r10_refinement.specs.Safe.{IsSafe}

none_erased : (specs : List ChannelSpec) → map unerased (map fresh_lane specs) ≡ map fresh_lane specs
none_erased [] = refl
none_erased (x ∷ specs) = ap (λ (xs : List Lane). fresh_lane x ∷ xs) (none_erased specs)

abbrev pub BeginsLaw : Type 0
BeginsLaw = (s : Config) (image : Image) (files : List File) (failures : ℕ) → MediumHas s image files → KeptAndSlotsStandFor (new_kept s) image failures [] (fresh s.channels files failures)

new_stands : BeginsLaw → (s : Config) (k : Kept) (image : Image) (failures : ℕ) (lanes : List Lane) (files : List File) → IsConfig s → k ≡ new_kept s → lanes ≡ map fresh_lane s.channels → MediumHas s image files
    → PartsStandFor k image failures lanes [] (fresh s.channels files failures)
new_stands law s k image failures lanes files limits kept left has = rw kept (record {
  limits = limits;
  joined = law s image files failures has;
  lanes_are = left ∙ sym (none_erased s.channels);
  says = has.0;
})

pub new_world : {M : Type 0} (disk : M → Disk) → BeginsLaw → (s : Config) (r : RecorderState M Lane) (slots : List (Option Cursor)) (medium : M) (files : List File) → IsConfig s → r.kept ≡ new_kept s → r.lanes ≡ map fresh_lane s.channels
    → r.medium ≡ medium → slots ≡ [] → MediumHas s (disk medium).blocks files → RecorderStandsFor disk r slots (fresh s.channels files (disk medium).failures)
new_world disk law s r slots medium files limits kept left same none has =
    rw (same, none) (new_stands law s r.kept (disk medium).blocks (disk medium).failures r.lanes files limits kept left has)

-- a new recorder's files are safe where a power loss leaves them
pub new_safe : {M : Type 0} (disk : M → Disk) (s : Config) (r : RecorderState M Lane) (medium : M) (files : List File) → r.kept ≡ new_kept s → r.medium ≡ medium → Settled (λ image. MediumSays s image files) (disk medium)
    → IsSafe r.kept.config r.kept.work files (disk r.medium)
new_safe disk s r medium files kept same settled = rw (kept, same) settled

abbrev pub world_of : {M : Type 0} → RecorderState M Lane → List (Option Cursor) → WorldState M
world_of r slots = record { recorder = r; slots = slots }

pub is_begun_world : {M : Type 0} (s : Config) (r : RecorderState M Lane) (slots : List (Option Cursor)) (medium : M) → r.kept ≡ new_kept s → r.lanes ≡ map fresh_lane s.channels → r.medium ≡ medium → slots ≡ []
    → world_of r slots ≡ begun_world s medium
is_begun_world {M} s r slots medium kept left same none = joined r.kept (new_kept s) r.lanes (map fresh_lane s.channels) r.medium medium slots [] kept left same none
  where
    joined : (k k' : Kept) (ls ls' : List Lane) (m m' : M) (cs cs' : List (Option Cursor)) → k ≡ k' → ls ≡ ls' → m ≡ m' → cs ≡ cs'
        → world_of (record { kept = k; lanes = ls; medium = m }) cs ≡ world_of (record { kept = k'; lanes = ls'; medium = m' }) cs'
    joined k k' ls ls' m m' cs cs' a b c d = rw (a, b, c, d) refl
