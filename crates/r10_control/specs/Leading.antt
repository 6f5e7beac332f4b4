-- Which steps of the machine a call is.
use Rattle.std.specs.Prelude.{◌≡◌, ℕ, List, [], ◌∷◌, Result, MatchResult}
use Rattle.r10_body.specs.declared.refusal.Refusal.{Refusal}
use Rattle.r10_machine.specs.Calls.{without}
use Rattle.r10_machine.specs.Machine.{Lane, Machine}
use Rattle.r10_refinement.specs.KeptState.{Kept}
use Rattle.r10_refinement.specs.Means.{KeptStepsTo, KeptStandsFor}
use Rattle.r10_medium.specs.Disk.{Disk, Image}
use Rattle.r10_cursor.specs.Staying.{NoneShrinks}
use Rattle.r10_control.specs.State.{RecorderState}
use Rattle.r10_machine.specs.Bytes.{KeepBytes}
use Rattle.r10_machine.specs.declared.event.Event.{Event as EventValue}
use Rattle.r10_machine.specs.declared.reply.Reply.{Reply as ReplyValue}
use Rattle.r10_machine.specs.declared.reply.Reply.TheVariants.{Refused}

-- ---- lanes

-- so many were taken from the machine's lane of each channel; and of lanes nothing else changed but how many erases took
abbrev pub AreLeft : (ℕ → ℕ) → List Lane → List Lane → Type 0
AreLeft taken [] [] = Unit {0}
AreLeft taken (a ∷ old) (b ∷ new) = (b ≡ record (without (taken a.spec.id) a) { erased = b.erased }) × AreLeft taken old new
AreLeft taken old new = ⊥

abbrev pub none_taken : ℕ → ℕ
none_taken channel = 0

-- ---- steps

-- a step leads to a machine that is represented then, whose lanes gave so many, which has the same cursors, and of whose files
-- none of the same generation has fewer bytes
pub record KeptStepsTaking (taken : ℕ → ℕ) (k : Kept) (m : Machine) (event : EventValue) (reply : ReplyValue) (later : Kept)
    (image : Image) (failures : ℕ) : Type 0 where
  pub machine : Machine
  pub led : KeptStepsTo k m event reply later image failures machine
  pub lanes : AreLeft taken m.lanes machine.lanes
  pub cursors : machine.cursors ≡ m.cursors
  pub sizes : machine.generation ≡ m.generation → NoneShrinks m.files machine.files

-- from each machine that is represented, what a call answers leads to one that is represented then
abbrev pub CallStepsTaking : {T : Type 0} → (ℕ → ℕ) → Kept → Image → ℕ → EventValue → (T → ReplyValue) → Result T Refusal → Kept
    → Image → ℕ → Type 0
CallStepsTaking taken k old before event reply result later new now =
    (m : Machine) → KeptStandsFor k old before m → MatchResult result (λ v. KeptStepsTaking taken k m event (reply v) later new now)
    (λ r. KeptStepsTaking taken k m event (Refused r) later new now)

-- of each machine that is represented, the files keep the bytes that the medium shows of them
abbrev pub MachinesKeepShown : Kept → Image → ℕ → Image → Type 0
MachinesKeepShown k old before new = (m : Machine) → KeptStandsFor k old before m → KeepBytes old new m.files
