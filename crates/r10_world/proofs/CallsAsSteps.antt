-- Calls of the recorder as steps of the world.
use Rattle.std.proofs.Common.{◌≡◌, ℕ, List, [], ◌∷◌, map, Option, Result, Ok, Err, MatchResult, refl, sym, ap, ◌∙◌, subst}
use Rattle.r10_body.specs.declared.refusal.Refusal.{Refusal}
use Rattle.r10_cursor.specs.Read.{KeepsBytes}
use Rattle.r10_world.specs.Joined.{KeptAndSlotsStandFor, KeptAndSlotsStepTo}
use Rattle.r10_machine.specs.Machine.{Lane, Machine}
use Rattle.r10_refinement.specs.KeptState.{Kept}
use Rattle.r10_refinement.specs.Means.{KeptStepsTo}
use Rattle.r10_medium.specs.Disk.{Disk, Image}
use Rattle.r10_cursor.specs.Staying.{NoneShrinks}
use Rattle.r10_cursor.specs.declared.cursor.Cursor.{Cursor}
use Rattle.r10_control.specs.Lanes.{AnswersWith, AreLanes, LeadsWith, unerased}
use Rattle.r10_control.specs.Leading.{CallStepsTaking, AreLeft, MachinesKeepShown, KeptStepsTaking, none_taken}
use Rattle.r10_control.specs.State.{RecorderState}
use Rattle.r10_world.specs.RepresentedParts.{PartsStepTo, PartsStandFor}
use Rattle.r10_world.specs.WorldSteps.{RecorderStandsFor, RecorderStepsAlone}
use Rattle.r10_machine.specs.Bytes.{KeepBytes}
use Rattle.r10_machine.specs.declared.event.Event.{Event as EventValue}
use Rattle.r10_machine.specs.declared.reply.Reply.{Reply as ReplyValue}
use Rattle.r10_volume.proofs.Turning.{own_bytes}
use Rattle.r10_machine.specs.declared.reply.Reply.TheVariants as replies

-- the law of a recorder's calls
abbrev pub Moves : Type 0
Moves = (k : Kept) (later : Kept) (old : Image) (new : Image) (before : ℕ) (now : ℕ) (m : Machine) (machine : Machine) (event : EventValue) (reply : ReplyValue) (slots : List (Option Cursor))
    → KeptAndSlotsStandFor k old before slots m → KeptStepsTo k m event reply later new now machine → machine.cursors ≡ m.cursors → later.config ≡ k.config
    → (machine.generation ≡ m.generation → NoneShrinks m.files machine.files × KeepsBytes old new m.files) → KeptAndSlotsStepTo k m event reply machine later new now slots

-- ---- lanes

-- lanes of which nothing was taken
none_left : (old new : List Lane) → AreLeft none_taken old new → map unerased old ≡ map unerased new
none_left [] [] left = refl
none_left (a ∷ old) (b ∷ new) (is, left) = same (unerased a) (unerased b) (map unerased old) (map unerased new) (ap unerased (sym is)) (none_left old new left)
  where
    same : (x y : Lane) (xs ys : List Lane) → x ≡ y → xs ≡ ys → (x ∷ xs) ≡ (y ∷ ys)
    same x y xs ys first rest = rw (first, rest) refl
none_left [] (b ∷ new) left = absurd left
none_left (a ∷ old) [] left = absurd left

pub lanes_stay : (lanes lanes' : List Lane) (m machine : Machine) → lanes' ≡ lanes → AreLeft none_taken m.lanes machine.lanes → AreLanes lanes m → AreLanes lanes' machine
lanes_stay lanes lanes' m machine same left are = same ∙ are ∙ none_left m.lanes machine.lanes left

-- ---- steps

-- where a call leads, from machines that have these lanes to machines that have those
pub leads_on : Moves → (taken : ℕ → ℕ) (k later : Kept) (old new : Image) (before now : ℕ) (m : Machine) (event : EventValue) (reply : ReplyValue) (slots : List (Option Cursor)) (lanes lanes' : List Lane) → PartsStandFor k old before lanes slots m
    → KeptStepsTaking taken k m event reply later new now → KeepBytes old new m.files → later.config ≡ k.config → ((machine : Machine) → AreLeft taken m.lanes machine.lanes → AreLanes lanes' machine)
    → PartsStepTo k m event reply later new now lanes' slots
leads_on law taken k later old new before now m event reply slots lanes lanes' stands leads keeps config has = record {
  machine = leads.machine;
  on = law k later old new before now m leads.machine event reply slots stands.joined leads.led leads.cursors config (λ again. (leads.sizes again, keeps));
  lanes_are = has leads.machine leads.lanes;
}

-- what a call answered
pub reported : {T : Type 0} (C : ReplyValue → Type 0) (reply : T → ReplyValue) (result : Result T Refusal) (said : ReplyValue) → MatchResult result (λ v. C (reply v)) (λ r. C (replies.Refused r))
    → said ≡ elim result [ Ok v ↦ reply v | Err r ↦ replies.Refused r ] → C said
reported C reply (Ok v) said answers is = rw is answers
reported C reply (Err r) said answers is = rw is answers

-- a call that takes nothing from lanes
pub telling : {M T : Type 0} (disk : M → Disk) (old new : RecorderState M Lane) → Moves → (event : EventValue) (reply : T → ReplyValue) (result : Result T Refusal) (said : ReplyValue)
    → CallStepsTaking none_taken old.kept (disk old.medium).blocks (disk old.medium).failures event reply result new.kept (disk new.medium).blocks (disk new.medium).failures
    → MachinesKeepShown old.kept (disk old.medium).blocks (disk old.medium).failures (disk new.medium).blocks → new.lanes ≡ old.lanes → new.kept.config ≡ old.kept.config → said ≡ elim result [ Ok v ↦ reply v | Err r ↦ replies.Refused r ]
    → RecorderStepsAlone disk old event said new
telling disk old new law event reply result said answers keeps same config is = λ slots m stands.
    let before = disk old.medium in
    let now = disk new.medium in
    let means = stands.joined.means in
    let leads : KeptStepsTaking none_taken old.kept m event said new.kept now.blocks now.failures =
    reported (λ (r : ReplyValue). KeptStepsTaking none_taken old.kept m event r new.kept now.blocks now.failures) reply result said (answers m means) is in
    leads_on law none_taken old.kept new.kept before.blocks now.blocks before.failures now.failures m event said slots old.lanes new.lanes stands leads (keeps m means) config
    (λ machine left. lanes_stay old.lanes new.lanes m machine same left stands.lanes_are)

-- ---- bytes that stay

pub keeps_same : (k : Kept) (image : Image) (failures : ℕ) → MachinesKeepShown k image failures image
keeps_same k image failures = λ m means. own_bytes image m.files

pub keeps_read : (k : Kept) (old new : Image) (before : ℕ) → new ≡ old → MachinesKeepShown k old before new
keeps_read k old new before same = subst (MachinesKeepShown k old before) (sym same) (keeps_same k old before)

-- ---- calls that leave what is kept, and the medium

abbrev pub Stays : Type 0
Stays = (k : Kept) (later : Kept) (old : Image) (new : Image) (before : ℕ) (now : ℕ) (m : Machine) (machine : Machine) (event : EventValue) (reply : ReplyValue) (slots : List (Option Cursor))
    → KeptAndSlotsStandFor k old before slots m → KeptStepsTo k m event reply later new now machine → machine.cursors ≡ m.cursors → later.config ≡ k.config → machine.files ≡ m.files → new ≡ old
    → KeptAndSlotsStepTo k m event reply machine later new now slots

with_lanes : Stays → (k : Kept) (image : Image) (failures : ℕ) (m : Machine) (event : EventValue) (reply : ReplyValue) (slots : List (Option Cursor)) (lanes lanes' : List Lane) → PartsStandFor k image failures lanes slots m
    → LeadsWith k m event reply image failures lanes' → PartsStepTo k m event reply k image failures lanes' slots
with_lanes law k image failures m event reply slots lanes lanes' stands leads = record {
  machine = leads.machine;
  on = law k k image image failures failures m leads.machine event reply slots stands.joined leads.led leads.cursors refl leads.files refl;
  lanes_are = leads.lanes_are;
}

pub telling_with : {M T : Type 0} (disk : M → Disk) (old new : RecorderState M Lane) → Stays → (event : EventValue) (reply : T → ReplyValue) (result : Result T Refusal) (said : ReplyValue)
    → AnswersWith old.lanes old.kept (disk old.medium).blocks (disk old.medium).failures event reply result new.lanes → new.kept ≡ old.kept → new.medium ≡ old.medium
    → said ≡ elim result [ Ok v ↦ reply v | Err r ↦ replies.Refused r ] → RecorderStepsAlone disk old event said new
telling_with disk old new law event reply result said answers kept medium is = λ slots m stands.
    let now = disk old.medium in
    let leads : LeadsWith old.kept m event said now.blocks now.failures new.lanes =
    reported (λ (r : ReplyValue). LeadsWith old.kept m event r now.blocks now.failures new.lanes) reply result said (answers m stands.joined.means stands.lanes_are) is in
    rw (kept, medium) (with_lanes law old.kept now.blocks now.failures m event said slots old.lanes new.lanes stands leads)

-- ---- a call that only reads, and is refused

pub refused_on : {M : Type 0} (disk : M → Disk) (old new : RecorderState M Lane) → Moves → (event : EventValue) (r : Refusal) → (disk new.medium).blocks ≡ (disk old.medium).blocks → new.lanes ≡ old.lanes → new.kept.config ≡ old.kept.config
    → (slots : List (Option Cursor)) (m : Machine) → RecorderStandsFor disk old slots m → KeptStepsTaking none_taken old.kept m event (replies.Refused r) new.kept (disk new.medium).blocks (disk new.medium).failures
    → PartsStepTo old.kept m event (replies.Refused r) new.kept (disk new.medium).blocks (disk new.medium).failures new.lanes slots
refused_on disk old new law event r reads left config slots m stands leads =
    let before = disk old.medium in
    let now = disk new.medium in
    leads_on law none_taken old.kept new.kept before.blocks now.blocks before.failures now.failures m event (replies.Refused r) slots old.lanes new.lanes stands leads
    (keeps_read old.kept before.blocks now.blocks before.failures reads m stands.joined.means) config (λ machine lanes. lanes_stay old.lanes new.lanes m machine left lanes stands.lanes_are)
