-- What is known of a recorder that alone took from its lanes, whatever lanes they are and whatever other files its medium has.
use Rattle.std.specs.Prelude.{◌≡◌, ◌⊎◌, ℕ, ◌+◌, ◌≤◌, List, [], ◌∷◌, ◌++◌, length, map, replicate}
use Rattle.std.specs.List.{AllByRecursion}
use Rattle.r10_body.specs.Files.{on_channel}
use Rattle.r10_body.specs.declared.entry.Entry.{Entry}
use Rattle.r10_body.specs.declared.entry.Sample.{Sample}
use Rattle.r10_body.specs.declared.spec.ChannelSpec.{ChannelSpec}
use Rattle.r10_control.specs.Own.{AreOwn}
use Rattle.r10_control.specs.State.{RecorderState}
use Rattle.r10_machine.specs.Machine.{saturated}
use Rattle.r10_refinement.specs.KeptState.{failed}
use Rattle.r10_medium.specs.Disk.{Disk}
use Rattle.r10_control.specs.Taking.{entries_on}

-- A channel's part, of its own lane alone: what the lane received is what erases took, and then what the recorder's own files
-- have of the channel. Their numbers are kept, each up to 2^64 - 1.
pub record ChannelAccount {L : Type 0} (spec_of : L → ChannelSpec) (received_of : L → List Sample) (own : List Entry)
    (spec : ChannelSpec) (taken erased : ℕ) (lane : L) : Type 0 where
  pub spec_is : spec_of lane ≡ spec
  pub gone : List Sample
  pub filed : List Sample
  pub received_is : received_of lane ≡ gone ++ filed
  pub erased_is : erased ≡ saturated (length gone)
  pub taken_is : taken ≡ saturated (length gone + length filed)
  pub entries_are : on_channel spec.id own ≡ entries_on spec.id filed

-- channel by channel, in the order of the settings
abbrev pub ChannelAccounts : {L : Type 0} → (L → ChannelSpec) → (L → List Sample) → List Entry → List ChannelSpec → List ℕ → List ℕ
    → List L → Type 0
ChannelAccounts spec_of received_of own [] [] [] [] = Unit {0}
ChannelAccounts spec_of received_of own (spec ∷ specs) (t ∷ taken) (e ∷ erased) (lane ∷ lanes) =
    ChannelAccount spec_of received_of own spec t e lane × ChannelAccounts spec_of received_of own specs taken erased lanes
ChannelAccounts spec_of received_of own specs taken erased lanes = ⊥

-- over the entries of the recorder's own files
pub record IsAccounted {M L : Type 0} (disk : M → Disk) (spec_of : L → ChannelSpec) (received_of : L → List Sample)
    (r : RecorderState M L) : Type 0 where
  pub own : List Entry
  pub is_own : AreOwn r.kept (disk r.medium).blocks own
  pub each : ChannelAccounts spec_of received_of own r.kept.config.channels r.kept.taken r.kept.erased r.lanes

-- A channel's part once the recorder failed: of what its lane received no more was counted as taken in than there is, and of
-- that no more as erased. What the failed call took isn't counted.
pub record ChannelBound {L : Type 0} (spec_of : L → ChannelSpec) (received_of : L → List Sample) (spec : ChannelSpec)
    (taken erased : ℕ) (lane : L) : Type 0 where
  pub spec_is : spec_of lane ≡ spec
  pub erased_within : erased ≤ taken
  pub taken_within : taken ≤ length (received_of lane)

abbrev pub ChannelBounds : {L : Type 0} → (L → ChannelSpec) → (L → List Sample) → List ChannelSpec → List ℕ → List ℕ → List L
    → Type 0
ChannelBounds spec_of received_of [] [] [] [] = Unit {0}
ChannelBounds spec_of received_of (spec ∷ specs) (t ∷ taken) (e ∷ erased) (lane ∷ lanes) =
    ChannelBound spec_of received_of spec t e lane × ChannelBounds spec_of received_of specs taken erased lanes
ChannelBounds spec_of received_of specs taken erased lanes = ⊥

-- so it is of a recorder that failed
pub record IsBounded {M L : Type 0} (spec_of : L → ChannelSpec) (received_of : L → List Sample)
    (r : RecorderState M L) : Type 0 where
  pub fails : r.kept.work ≡ failed
  pub each : ChannelBounds spec_of received_of r.kept.config.channels r.kept.taken r.kept.erased r.lanes

-- it is accounted for, or it failed and its numbers are within what was received
abbrev pub Accounted : {M L : Type 0} → (M → Disk) → (L → ChannelSpec) → (L → List Sample) → RecorderState M L → Type 0
Accounted disk spec_of received_of r = IsBounded spec_of received_of r ⊎ IsAccounted disk spec_of received_of r

-- a recorder as it is made, over lanes of which nothing was received
pub record IsNew {M L : Type 0} (disk : M → Disk) (spec_of : L → ChannelSpec) (received_of : L → List Sample)
    (r : RecorderState M L) : Type 0 where
  pub specs : map spec_of r.lanes ≡ r.kept.config.channels
  pub received : AllByRecursion (λ (lane : L). received_of lane ≡ []) r.lanes
  pub taken : r.kept.taken ≡ replicate (length r.kept.config.channels) 0
  pub erased : r.kept.erased ≡ replicate (length r.kept.config.channels) 0
  pub owned : AreOwn r.kept (disk r.medium).blocks []
