-- Calls after which a recorder's files are safe.
use Rattle.std.proofs.Common.{◌≡◌, ◌⊎◌, ⊎_elim, inl, inr, false, List, map, Result, Ok, Err, refl, sym, ◌∙◌, subst}
use Rattle.std.specs.Prelude.{OnOk}
use Rattle.r10_body.specs.declared.refusal.Refusal.{Refusal}
use Rattle.r10_dirchain.specs.declared.chain.ChainBlock.{ChainBlock}
use Rattle.r10_machine.specs.Config.{Config}
use Rattle.r10_machine.specs.Machine.{File, Machine}
use Rattle.r10_machine.specs.Needs.{shown_part}
use Rattle.r10_machine.specs.Says.{MediumSays}
use Rattle.r10_machine.specs.declared.event.Event.{Event as EventValue}
use Rattle.r10_machine.specs.declared.mode.Mode.TheVariants as modes
use Rattle.r10_machine.specs.declared.reply.Reply.{Reply as ReplyValue}
use Rattle.r10_machine.specs.declared.reply.Reply.TheVariants.{Refused}
use Rattle.r10_refinement.specs.KeptState.{Kept, Work, mode_of, unmounted, idle, recording, failed}
use Rattle.r10_refinement.specs.Means.{HasFiles, KeptStandsFor}
use Rattle.r10_medium.proofs.PowerLoss.{stayed, weakened}
use Rattle.r10_medium.specs.Disk.{Disk, Image, IsSynced, Unchanged}
use Rattle.r10_medium.specs.PowerLoss.{Leaves, Settled}
use Rattle.r10_volume.specs.Holding.{OpenState}
use Rattle.r10_refinement.proofs.Keeping.{safe_parts, safe_says, safe_shown, safe_synced, safe_unchanged}
use Rattle.r10_refinement.proofs.Showing.{refused_shows_or_fails, step_shows}
use Rattle.r10_refinement.specs.PowerLossInCalls.{IsEither, StaysSafe}
use Rattle.r10_refinement.specs.Quiet.{IsNoFailure, may_make}
use Rattle.r10_refinement.specs.Safe.{IsSafe, IsSafeOrFailed, SaysLast}

-- what is represented is stated
pub files_said : (s : Config) (work : Work) (image : Image) (files : List File) → HasFiles s work image files → MediumSays s image files
files_said s unmounted image files has = has.0
files_said s (idle chain) image files has = has.says
files_said s (recording chain o) image files has = has.says
files_said s failed image files has = has

only_failed : (work : Work) → mode_of work ≡ modes.Failed → work ≡ failed
only_failed unmounted is = cc
only_failed (idle chain) is = cc
only_failed (recording chain o) is = cc
only_failed failed is = refl

-- files that show the same, over a medium on which nothing changed
still_safe : (k later : Kept) (m machine : Machine) (old new : Disk) → later.config ≡ k.config → Unchanged old new → mode_of later.work ≡ mode_of k.work → map shown_part machine.files ≡ map shown_part m.files
    → IsSafe k.config k.work m.files old → IsSafeOrFailed later.config later.work machine.files new
still_safe k later m machine old new config same alike shows safe =
    inr (safe_parts later.config later.work m.files machine.files new (sym shows)
    (subst (λ (s : Config). IsSafe s later.work m.files new) (sym config) (safe_unchanged k.config k.work later.work m.files old new same alike safe)))

-- the medium stays, so that a power loss leaves what it left
alone_left : (known : Machine → Type 0) (k : Kept) (event : EventValue) (old new : Disk) → Unchanged old new
    → (m : Machine) → KeptStandsFor k old.blocks old.failures m → known m → IsSafe k.config k.work m.files old → Leaves (IsEither k.config m event) old new
alone_left known k event old new same m means is safe = stayed (IsEither k.config m event) old new same (λ image may. inl (safe_says k.config k.work m.files old safe image may))

-- ---- the calls, by what they leave

-- a call is refused, and nothing changed on the medium
pub refused_safely : (known : Machine → Type 0) (k later : Kept) (event : EventValue) (r : Refusal) (old new : Disk) → later.config ≡ k.config → Unchanged old new → StaysSafe known k event (Refused r) old later new
refused_safely known k later event r old new config same = record {
  left = alone_left known k event old new same;
  behind = λ m machine means safe led. ⊎_elim
      (λ fails. inl (only_failed later.work (sym led.means.mode ∙ fails)))
      (λ stays. still_safe k later m machine old new config same (sym led.means.mode ∙ stays.0 ∙ means.mode) stays.1 safe)
      (refused_shows_or_fails k.config m event r machine led.step);
}

-- the recorder failed
pub failed_safely : (known : Machine → Type 0) (k later : Kept) (event : EventValue) (reply : ReplyValue) (old new : Disk) → later.work ≡ failed
    → ((m : Machine) → KeptStandsFor k old.blocks old.failures m → known m → IsSafe k.config k.work m.files old → Leaves (IsEither k.config m event) old new) → StaysSafe known k event reply old later new
failed_safely known k later event reply old new fails leaves = record { left = leaves; behind = λ m machine means safe led. inl fails }

-- the medium is synced
pub synced_safely : (known : Machine → Type 0) (k later : Kept) (event : EventValue) (reply : ReplyValue) (old new : Disk) → IsSynced new
    → ((m : Machine) → KeptStandsFor k old.blocks old.failures m → known m → IsSafe k.config k.work m.files old → Leaves (IsEither k.config m event) old new) → StaysSafe known k event reply old later new
synced_safely known k later event reply old new synced leaves = record {
  left = leaves;
  behind = λ m machine means safe led. safe_synced later.config later.work machine.files new synced (files_said later.config later.work new.blocks machine.files led.means.files);
}

-- nothing changed on the medium, by an event that makes nothing, and the recorder does what it did
pub quiet_safely : (known : Machine → Type 0) (k later : Kept) (event : EventValue) (reply : ReplyValue) (old new : Disk) → later.config ≡ k.config → mode_of later.work ≡ mode_of k.work → may_make event ≡ false → IsNoFailure reply
    → Unchanged old new → StaysSafe known k event reply old later new
quiet_safely known k later event reply old new config alike plain fine same = record {
  left = alone_left known k event old new same;
  behind = λ m machine means safe led. still_safe k later m machine old new config same alike (step_shows k.config m event reply machine means.sound led.step plain fine) safe;
}

-- a file is recorded before and after it, and a power loss leaves what was shown
pub shown_safely : (known : Machine → Type 0) (k later : Kept) (event : EventValue) (reply : ReplyValue) (old new : Disk) (chain made : List ChainBlock) (o p : OpenState) → k.work ≡ recording chain o → later.work ≡ recording made p
    → later.config ≡ k.config → may_make event ≡ false → IsNoFailure reply
    → ((m : Machine) → KeptStandsFor k old.blocks old.failures m → Settled (SaysLast k.config m.files old.blocks) old → Leaves (SaysLast k.config m.files old.blocks) old new) → StaysSafe known k event reply old later new
shown_safely known k later event reply old new chain made o p at then config plain fine leaves = record {
  left = λ m means is safe. weakened (SaysLast k.config m.files old.blocks) (IsEither k.config m event) old new (λ image says. inl says.says) (leaves m means (was m safe));
  behind = λ m machine means safe led.
      inr (safe_parts later.config later.work m.files machine.files new (sym (step_shows k.config m event reply machine means.sound led.step plain fine))
      (subst (λ (s : Config). IsSafe s later.work m.files new) (sym config) (subst (λ (w : Work). IsSafe k.config w m.files new) (sym then) (safe_shown k.config m.files old new (leaves m means (was m safe))))));
}
  where
    was : (m : Machine) → IsSafe k.config k.work m.files old → Settled (SaysLast k.config m.files old.blocks) old
    was m safe = subst (λ (w : Work). IsSafe k.config w m.files old) at safe

-- ---- calls that leave what is kept, and the medium

-- what is kept stays
pub still_safely : (known : Machine → Type 0) (k : Kept) (event : EventValue) (reply : ReplyValue) (old new : Disk) → may_make event ≡ false → Unchanged old new → StaysSafe known k event reply old k new
still_safely known k event (Refused r) old new plain same = refused_safely known k k event r old new refl same
still_safely known k event reply old new plain same = quiet_safely known k k event reply old new refl refl plain tt same

-- a call that only reads: what is kept stays where it is not refused
pub reads_safely : {T : Type 0} (known : Machine → Type 0) (k later : Kept) (event : EventValue) (reply : T → ReplyValue) (result : Result T Refusal) (said : ReplyValue) (old new : Disk) → later.config ≡ k.config → may_make event ≡ false
    → OnOk result (later ≡ k) → Unchanged old new → said ≡ elim result [ Ok v ↦ reply v | Err r ↦ Refused r ] → StaysSafe known k event said old later new
reads_safely known k later event reply (Ok v) said old new config plain kept same is =
    subst (λ (l : Kept). StaysSafe known k event said old l new) (sym kept) (still_safely known k event said old new plain same)
reads_safely known k later event reply (Err r) said old new config plain kept same is =
    subst (λ (a : ReplyValue). StaysSafe known k event a old later new) (sym is) (refused_safely known k later event r old new config same)
