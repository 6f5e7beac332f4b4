-- What calls leave of what a recorder keeps, by what they answer.
use Rattle.std.proofs.Common.{◌≡◌, ◌⊎◌, ℕ, List, [], ◌∷◌, Bool, true, false, Option, Some, None, Result, Ok, Err, refl, sym, ap, subst, ◌∙◌, inl, inr, ⊎_elim}
use Rattle.std.specs.Prelude.{IfErr, OnOk, IsSomeAnd, is_some, find, ◌==◌, ◌++◌}
use Rattle.r10_body.specs.declared.refusal.Refusal.{Refusal}
use Rattle.r10_body.specs.declared.refusal.Refusal.TheVariants as refusals
use Rattle.r10_body.specs.declared.spec.ChannelSpec.{ChannelSpec}
use Rattle.r10_control.specs.Calls.{SealEffect}
use Rattle.r10_control.specs.Checks.{recorder_refusal}
use Rattle.r10_count.specs.Checks.{first_broken}
use Rattle.r10_count.specs.declared.civil.Parts.{Parts}
use Rattle.r10_machine.specs.Checks.{Check, is_working, recording_checks}
use Rattle.r10_control.specs.Effects.{CommitEffect, DismountEffect, EraseEffect, EventEffect, MountEffect, PumpEffect, StartEffect, StartEffectAt, TickEffect, TickEffectIn, WhereIdle, WhereRecording}
use Rattle.r10_control.specs.Refused.{IsSameKept, IsSameWork, RefusesCall, RefusesOpen}
use Rattle.r10_control.specs.SealRefusals.{IsSealed}
use Rattle.r10_control.specs.Taking.{RefusesReadied}
use Rattle.r10_control.specs.RecorderStatus.{last_shown}
use Rattle.r10_dirchain.specs.declared.chain.ChainBlock.{ChainBlock}
use Rattle.r10_machine.specs.Config.{Config}
use Rattle.r10_machine.specs.Machine.{Tick}
use Rattle.r10_machine.specs.declared.event.Event.TheVariants as events
use Rattle.r10_refinement.specs.KeptState.{Kept, Work, mode_of, unmounted, idle, recording, failed, OpenState}
use Rattle.r10_medium.specs.Disk.{Disk, Image}

-- ---- what is reported of the last file

-- where a file is recorded then, it was recorded before, and the same is reported of it
abbrev pub TellsStill : Work → Work → Type 0
TellsStill (recording made p) (recording chain o) = last_shown (recording made p) ≡ last_shown (recording chain o)
TellsStill (recording made p) work = ⊥
TellsStill later work = Unit {0}

pub still : (work : Work) → TellsStill work work
still unmounted = tt
still (idle chain) = tt
still (recording chain o) = refl
still failed = tt

same_still : (work later : Work) → IsSameWork work later → TellsStill later work
same_still work unmounted is = tt
same_still work (idle made) is = tt
same_still work failed is = tt
same_still (recording chain o) (recording made p) is = ap (λ (c : List ChainBlock). last_shown (recording c p)) is.0
same_still unmounted (recording made p) is = cc
same_still (idle chain) (recording made p) is = cc
same_still failed (recording made p) is = cc

-- ---- what is kept

-- the channels' numbers stay, and a recorder that failed has failed then
pub record KeepsNumbers (k later : Kept) : Type 0 where
  pub numbers : (later.taken ≡ k.taken) × (later.erased ≡ k.erased)
  pub fails : k.work ≡ failed → later.work ≡ failed

-- and the same is reported of the file that is recorded
pub record Settles (k later : Kept) : Type 0 where
  pub numbers : KeepsNumbers k later
  pub tells : TellsStill later.work k.work

pub still_told : (k later : Kept) → later ≡ k → TellsStill later.work k.work
still_told k later is = subst (λ (x : Kept). TellsStill x.work k.work) (sym is) (still k.work)

-- the same, or failed
abbrev pub SameOrFailed : Kept → Kept → Type 0
SameOrFailed k later = (later ≡ k) ⊎ (later ≡ record k { work = failed })

settles_same : (k later : Kept) → later ≡ k → Settles k later
settles_same k later is = subst (Settles k) (sym is) (record { numbers = record { numbers = (refl, refl); fails = λ fails. fails }; tells = still k.work })

settles_failed : (k later : Kept) → later ≡ record k { work = failed } → Settles k later
settles_failed k later is = subst (Settles k) (sym is) (record { numbers = record { numbers = (refl, refl); fails = λ fails. refl }; tells = tt })

pub settles_so : (k later : Kept) → SameOrFailed k later → Settles k later
settles_so k later is = ⊎_elim (settles_same k later) (settles_failed k later) is

failed_still : (work later : Work) → IsSameWork work later → work ≡ failed → later ≡ failed
failed_still failed later is fails = is
failed_still unmounted later is fails = cc
failed_still (idle chain) later is fails = cc
failed_still (recording chain o) later is fails = cc

settles_asked : (k later : Kept) → IsSameKept k later → Settles k later
settles_asked k later is = record {
  numbers = record { numbers = (ap (λ (x : Kept). x.taken) is.0, ap (λ (x : Kept). x.erased) is.0); fails = failed_still k.work later.work is.1 };
  tells = same_still k.work later.work is.1;
}

-- a call that a check passes has not failed before
pub works : (work : Work) (rest : List Check) → first_broken ((is_working (mode_of work), refusals.Failed) ∷ rest) ≡ None → work ≡ failed → ⊥
works failed rest fine fails = let e : Some refusals.Failed ≡ None = fine in absurd (cc)
works unmounted rest fine fails = cc
works (idle chain) rest fine fails = cc
works (recording chain o) rest fine fails = cc

-- ---- refusals

pub refused_left : {M : Type 0} (disk : M → Disk) (first : Option Refusal) (lacks : Refusal → Type 0) (k later : Kept) (medium medium' : M) (r : Refusal) → RefusesCall disk first lacks k later medium medium' r → SameOrFailed k later
refused_left disk (Some first) lacks k later medium medium' r is = inl is.1
refused_left disk None lacks k later medium medium' refusals.Failed is = inl is.2
refused_left disk None lacks k later medium medium' refusals.NotMounted is = inl is.2
refused_left disk None lacks k later medium medium' refusals.AlreadyMounted is = inl is.2
refused_left disk None lacks k later medium medium' refusals.Busy is = inl is.2
refused_left disk None lacks k later medium medium' refusals.NotRecording is = inl is.2
refused_left disk None lacks k later medium medium' refusals.NoSuchChannel is = inl is.2
refused_left disk None lacks k later medium medium' refusals.WrongKind is = inl is.2
refused_left disk None lacks k later medium medium' refusals.BadMessage is = inl is.2
refused_left disk None lacks k later medium medium' refusals.TooLong is = inl is.2
refused_left disk None lacks k later medium medium' refusals.CountRange is = inl is.2
refused_left disk None lacks k later medium medium' refusals.CountBack is = inl is.2
refused_left disk None lacks k later medium medium' refusals.Overflow is = inl is.2
refused_left disk None lacks k later medium medium' refusals.BadCivil is = inl is.2
refused_left disk None lacks k later medium medium' refusals.NoTime is = inl is.2
refused_left disk None lacks k later medium medium' refusals.BadName is = inl is.2
refused_left disk None lacks k later medium medium' refusals.NameTaken is = inl is.2
refused_left disk None lacks k later medium medium' refusals.BadEvent is = inl is.2
refused_left disk None lacks k later medium medium' refusals.Unsealed is = inl is.2
refused_left disk None lacks k later medium medium' refusals.NoSuchFile is = inl is.2
refused_left disk None lacks k later medium medium' refusals.Stale is = inl is.2
refused_left disk None lacks k later medium medium' refusals.NoCursor is = inl is.2
refused_left disk None lacks k later medium medium' refusals.Unread is = inl is.2
refused_left disk None lacks k later medium medium' refusals.DirectoryFull is = inl is.2
refused_left disk None lacks k later medium medium' refusals.MediumFull is = inl is.2
refused_left disk None lacks k later medium medium' (refusals.BadDirectory n) is = inl is.2
refused_left disk None lacks k later medium medium' (refusals.BadFile at fault) is = inl is.2
refused_left disk None lacks k later medium medium' (refusals.Behind seen) is = inl is.2
refused_left disk None lacks k later medium medium' refusals.Medium is = inr is.1
refused_left disk None lacks k later medium medium' refusals.OutOfMemory is = inl is.1

pub open_settles : {M : Type 0} (disk : M → Disk) (first : Option Refusal) (lacks : Refusal → Type 0) (k later : Kept) (medium medium' : M) (r : Refusal) → RefusesOpen disk first lacks k later medium medium' r → Settles k later
open_settles disk (Some first) lacks k later medium medium' r is = settles_same k later is.1
open_settles disk None lacks k later medium medium' refusals.Failed is = settles_same k later is.1
open_settles disk None lacks k later medium medium' refusals.NotMounted is = settles_same k later is.1
open_settles disk None lacks k later medium medium' refusals.AlreadyMounted is = settles_same k later is.1
open_settles disk None lacks k later medium medium' refusals.Busy is = settles_same k later is.1
open_settles disk None lacks k later medium medium' refusals.NotRecording is = settles_same k later is.1
open_settles disk None lacks k later medium medium' refusals.NoSuchChannel is = settles_same k later is.1
open_settles disk None lacks k later medium medium' refusals.WrongKind is = settles_same k later is.1
open_settles disk None lacks k later medium medium' refusals.BadMessage is = settles_same k later is.1
open_settles disk None lacks k later medium medium' refusals.TooLong is = settles_same k later is.1
open_settles disk None lacks k later medium medium' refusals.CountRange is = settles_same k later is.1
open_settles disk None lacks k later medium medium' refusals.CountBack is = settles_same k later is.1
open_settles disk None lacks k later medium medium' refusals.Overflow is = settles_same k later is.1
open_settles disk None lacks k later medium medium' refusals.BadCivil is = settles_same k later is.1
open_settles disk None lacks k later medium medium' refusals.NoTime is = settles_same k later is.1
open_settles disk None lacks k later medium medium' refusals.BadName is = settles_same k later is.1
open_settles disk None lacks k later medium medium' refusals.NameTaken is = settles_same k later is.1
open_settles disk None lacks k later medium medium' refusals.BadEvent is = settles_same k later is.1
open_settles disk None lacks k later medium medium' refusals.Unsealed is = settles_same k later is.1
open_settles disk None lacks k later medium medium' refusals.NoSuchFile is = settles_same k later is.1
open_settles disk None lacks k later medium medium' refusals.Stale is = settles_same k later is.1
open_settles disk None lacks k later medium medium' refusals.NoCursor is = settles_same k later is.1
open_settles disk None lacks k later medium medium' refusals.Unread is = settles_same k later is.1
open_settles disk None lacks k later medium medium' refusals.DirectoryFull is = settles_same k later is.1
open_settles disk None lacks k later medium medium' refusals.MediumFull is = settles_same k later is.1
open_settles disk None lacks k later medium medium' (refusals.BadDirectory n) is = settles_same k later is.1
open_settles disk None lacks k later medium medium' (refusals.BadFile at fault) is = settles_same k later is.1
open_settles disk None lacks k later medium medium' (refusals.Behind seen) is = settles_same k later is.1
open_settles disk None lacks k later medium medium' refusals.Medium is = settles_failed k later is.2
open_settles disk None lacks k later medium medium' refusals.OutOfMemory is = settles_asked k later is.1

-- the recorder failed and nothing else changed, or the medium did not fail in this call
abbrev pub FailedOrSettles : Kept → Kept → Refusal → Type 0
FailedOrSettles k later r = (later ≡ record k { work = failed }) ⊎ (Settles k later × (r ≡ refusals.Medium → ⊥))

pub readied_left : {M : Type 0} (disk : M → Disk) (first : Option Refusal) (lacks : Refusal → Type 0) (k later : Kept) (medium medium' : M) (r : Refusal) → (first ≡ Some refusals.Medium → ⊥) → RefusesReadied disk first lacks k later medium medium' r → FailedOrSettles k later r
readied_left disk (Some first) lacks k later medium medium' r never is = inr (settles_same k later is.1, λ fails. never (ap (λ (x : Refusal). Some x) (sym is.0 ∙ fails)))
readied_left disk None lacks k later medium medium' refusals.Failed never is = inr (settles_asked k later is.1, λ fails. cc)
readied_left disk None lacks k later medium medium' refusals.NotMounted never is = inr (settles_asked k later is.1, λ fails. cc)
readied_left disk None lacks k later medium medium' refusals.AlreadyMounted never is = inr (settles_asked k later is.1, λ fails. cc)
readied_left disk None lacks k later medium medium' refusals.Busy never is = inr (settles_asked k later is.1, λ fails. cc)
readied_left disk None lacks k later medium medium' refusals.NotRecording never is = inr (settles_asked k later is.1, λ fails. cc)
readied_left disk None lacks k later medium medium' refusals.NoSuchChannel never is = inr (settles_asked k later is.1, λ fails. cc)
readied_left disk None lacks k later medium medium' refusals.WrongKind never is = inr (settles_asked k later is.1, λ fails. cc)
readied_left disk None lacks k later medium medium' refusals.BadMessage never is = inr (settles_asked k later is.1, λ fails. cc)
readied_left disk None lacks k later medium medium' refusals.TooLong never is = inr (settles_asked k later is.1, λ fails. cc)
readied_left disk None lacks k later medium medium' refusals.CountRange never is = inr (settles_asked k later is.1, λ fails. cc)
readied_left disk None lacks k later medium medium' refusals.CountBack never is = inr (settles_asked k later is.1, λ fails. cc)
readied_left disk None lacks k later medium medium' refusals.Overflow never is = inr (settles_asked k later is.1, λ fails. cc)
readied_left disk None lacks k later medium medium' refusals.BadCivil never is = inr (settles_asked k later is.1, λ fails. cc)
readied_left disk None lacks k later medium medium' refusals.NoTime never is = inr (settles_asked k later is.1, λ fails. cc)
readied_left disk None lacks k later medium medium' refusals.BadName never is = inr (settles_asked k later is.1, λ fails. cc)
readied_left disk None lacks k later medium medium' refusals.NameTaken never is = inr (settles_asked k later is.1, λ fails. cc)
readied_left disk None lacks k later medium medium' refusals.BadEvent never is = inr (settles_asked k later is.1, λ fails. cc)
readied_left disk None lacks k later medium medium' refusals.Unsealed never is = inr (settles_asked k later is.1, λ fails. cc)
readied_left disk None lacks k later medium medium' refusals.NoSuchFile never is = inr (settles_asked k later is.1, λ fails. cc)
readied_left disk None lacks k later medium medium' refusals.Stale never is = inr (settles_asked k later is.1, λ fails. cc)
readied_left disk None lacks k later medium medium' refusals.NoCursor never is = inr (settles_asked k later is.1, λ fails. cc)
readied_left disk None lacks k later medium medium' refusals.Unread never is = inr (settles_asked k later is.1, λ fails. cc)
readied_left disk None lacks k later medium medium' refusals.DirectoryFull never is = inr (settles_asked k later is.1, λ fails. cc)
readied_left disk None lacks k later medium medium' refusals.MediumFull never is = inr (settles_asked k later is.1, λ fails. cc)
readied_left disk None lacks k later medium medium' (refusals.BadDirectory n) never is = inr (settles_asked k later is.1, λ fails. cc)
readied_left disk None lacks k later medium medium' (refusals.BadFile at fault) never is = inr (settles_asked k later is.1, λ fails. cc)
readied_left disk None lacks k later medium medium' (refusals.Behind seen) never is = inr (settles_asked k later is.1, λ fails. cc)
readied_left disk None lacks k later medium medium' refusals.Medium never is = inl is.1
readied_left disk None lacks k later medium medium' refusals.OutOfMemory never is = inr (settles_asked k later is.0, λ fails. cc)

-- ---- effects

where_idle : (work : Work) (holds : List ChainBlock → Type 0) {P : Type 0} → WhereIdle work holds → ((chain : List ChainBlock) → work ≡ idle chain → holds chain → P) → P
where_idle unmounted holds is then = absurd is
where_idle (idle chain) holds is then = then chain refl is
where_idle (recording chain o) holds is then = absurd is
where_idle failed holds is then = absurd is

where_recording : (work : Work) (holds : List ChainBlock → OpenState → Type 0) {P : Type 0} → WhereRecording work holds → ((chain : List ChainBlock) (o : OpenState) → work ≡ recording chain o → holds chain o → P) → P
where_recording unmounted holds is then = absurd is
where_recording (idle chain) holds is then = absurd is
where_recording (recording chain o) holds is then = then chain o refl is
where_recording failed holds is then = absurd is

pub mount_settles : (k later : Kept) (old new : Disk) → (k.work ≡ failed → ⊥) → MountEffect k old later new → Settles k later
mount_settles k later old new able is = subst (Settles k) (sym is.effect.kept) (record { numbers = record { numbers = (refl, refl); fails = λ fails. absurd (able fails) }; tells = tt })

pub dismount_settles : (k later : Kept) (old new : Disk) → (k.work ≡ failed → ⊥) → DismountEffect k old later new → Settles k later
dismount_settles k later old new able is = where_idle k.work _ is (λ chain at effect. subst (Settles k) (sym effect.kept) (record { numbers = record { numbers = (refl, refl); fails = λ fails. absurd (able fails) }; tells = tt }))

tick_settles_at : (work now : Work) (tick : Tick) (k later : Kept) (old new : Disk) → (k.work ≡ failed → ⊥) → k.work ≡ work → TickEffectIn work now tick k old later new → Settles k later
tick_settles_at (idle chain) now tick k later old new able at is = subst (Settles k) (sym is.kept) (record { numbers = record { numbers = (refl, refl); fails = λ fails. absurd (able fails) }; tells = still k.work })
tick_settles_at (recording chain o) (recording made p) tick k later old new able at is = subst (Settles k) (sym is.effect.kept) (record { numbers = record { numbers = (refl, refl); fails = λ fails. absurd (able fails) }; tells = subst (TellsStill (recording chain p)) (sym at) refl })
tick_settles_at unmounted now tick k later old new able at is = absurd is
tick_settles_at failed now tick k later old new able at is = absurd is
tick_settles_at (recording chain o) unmounted tick k later old new able at is = absurd is
tick_settles_at (recording chain o) (idle made) tick k later old new able at is = absurd is
tick_settles_at (recording chain o) failed tick k later old new able at is = absurd is

pub tick_settles : (tick : Tick) (k later : Kept) (old new : Disk) → (k.work ≡ failed → ⊥) → TickEffect tick k old later new → Settles k later
tick_settles tick k later old new able is = tick_settles_at k.work later.work tick k later old new able refl is

pub event_settles : (number count : ℕ) (k later : Kept) (old new : Disk) → (k.work ≡ failed → ⊥) → EventEffect number count k old later new → Settles k later
event_settles number count k later old new able is = where_recording k.work _ is
    (λ chain o at there. where_recording later.work _ there
    (λ made p then effect. subst (Settles k) (sym effect.effect.kept) (record { numbers = record { numbers = (refl, refl); fails = λ fails. absurd (able fails) }; tells = subst (TellsStill (recording chain p)) (sym at) refl })))

seal_tells : (s : Config) (old new : Image) (work later : Work) → IsSealed s old work new later → TellsStill later work
seal_tells s old new work unmounted is = tt
seal_tells s old new work (idle made) is = tt
seal_tells s old new work failed is = tt
seal_tells s old new unmounted (recording made p) is = absurd is
seal_tells s old new (idle chain) (recording made p) is = absurd is
seal_tells s old new (recording chain o) (recording made p) is = absurd is
seal_tells s old new failed (recording made p) is = absurd is

pub seal_settles : (k later : Kept) (old new : Image) → (k.work ≡ failed → ⊥) → IsSealed k.config old k.work new later.work → later ≡ record k { work = later.work } → Settles k later
seal_settles k later old new able is rest = record { numbers = record { numbers = (ap (λ (x : Kept). x.taken) rest, ap (λ (x : Kept). x.erased) rest); fails = λ fails. absurd (able fails) }; tells = seal_tells k.config old new k.work later.work is }

-- of a start and of a commit the channels' numbers stay
pub start_stays : (name setup : List ℕ) (k later : Kept) (old new : Disk) → StartEffect name setup k old later new → (later.taken ≡ k.taken) × (later.erased ≡ k.erased)
start_stays name setup k later old new is = where_idle k.work _ is (λ chain at there. where_recording later.work _ there (λ made o then does. by chain made o k.tick does))
  where
    by : (chain made : List ChainBlock) (o : OpenState) (t : Option Tick) → IsSomeAnd t (λ (tick : Tick). StartEffectAt name setup tick chain o k old later new) → (later.taken ≡ k.taken) × (later.erased ≡ k.erased)
    by chain made o (Some tick) does = (ap (λ (x : Kept). x.taken) does.effect.kept, ap (λ (x : Kept). x.erased) does.effect.kept)
    by chain made o None does = absurd does

pub commit_stays : (k later : Kept) (old new : Disk) → CommitEffect k old later new → (later.taken ≡ k.taken) × (later.erased ≡ k.erased)
commit_stays k later old new is = where_recording k.work _ is
    (λ chain o at there. where_recording later.work _ there (λ made p then does. (ap (λ (x : Kept). x.taken) does.effect.kept, ap (λ (x : Kept). x.erased) does.effect.kept)))

pub pump_tells : (k later : Kept) (old new : Disk) → PumpEffect k old later new → TellsStill later.work k.work
pump_tells k later old new is = where_recording k.work _ is
    (λ chain o at there. where_recording later.work _ there
    (λ made p then effect. subst (λ (x : Kept). TellsStill x.work k.work) (sym effect.kept) (subst (TellsStill (recording chain p)) (sym at) refl)))

-- what an erase that answers Ok leaves
pub erase_turns : (k later : Kept) (old new : Disk) → EraseEffect k old later new → (later.taken ≡ k.taken) × (later.erased ≡ k.taken)
erase_turns k later old new is = where_idle k.work _ is (λ chain at effect. (ap (λ (x : Kept). x.taken) effect.kept, ap (λ (x : Kept). x.erased) effect.kept))

-- no check of a pump or a stop says that the medium failed
recording_first : (work : Work) (b : Bool) → first_broken (recording_checks (mode_of work) ++ (b, refusals.NoSuchChannel) ∷ []) ≡ Some refusals.Medium → ⊥
recording_first unmounted b is = let e : Some refusals.NotMounted ≡ Some refusals.Medium = is in absurd (cc)
recording_first (idle chain) b is = let e : Some refusals.NotRecording ≡ Some refusals.Medium = is in absurd (cc)
recording_first (recording chain o) true is = let e : None ≡ Some refusals.Medium = is in absurd (cc)
recording_first (recording chain o) false is = let e : Some refusals.NoSuchChannel ≡ Some refusals.Medium = is in absurd (cc)
recording_first failed b is = let e : Some refusals.Failed ≡ Some refusals.Medium = is in absurd (cc)

pub pump_checks : (channel most : ℕ) (k : Kept) → recorder_refusal k (events.Pump channel most) ≡ Some refusals.Medium → ⊥
pump_checks channel most k is = recording_first k.work (is_some (find (λ (spec : ChannelSpec). spec.id == channel) k.config.channels)) is

stopping_first : (work : Work) → first_broken (recording_checks (mode_of work)) ≡ Some refusals.Medium → ⊥
stopping_first unmounted is = let e : Some refusals.NotMounted ≡ Some refusals.Medium = is in absurd (cc)
stopping_first (idle chain) is = let e : Some refusals.NotRecording ≡ Some refusals.Medium = is in absurd (cc)
stopping_first (recording chain o) is = let e : None ≡ Some refusals.Medium = is in absurd (cc)
stopping_first failed is = let e : Some refusals.Failed ≡ Some refusals.Medium = is in absurd (cc)

pub stop_checks : (k : Kept) → recorder_refusal k events.Stop ≡ Some refusals.Medium → ⊥
stop_checks k is = stopping_first k.work is

-- ---- calls, by what they answer

pub answered : {T P Q : Type 0} {F : Refusal → Type 0} (result : Result T Refusal) → OnOk result P → IfErr result F → (P → Q) → ((r : Refusal) → F r → Q) → Q
answered (Ok v) done refused then other = then done
answered (Err r) done refused then other = other r refused

both : {T : Type 0} (P Q : Type 0) (result : Result T Refusal) → OnOk result P → OnOk result Q → OnOk result (P × Q)
both P Q (Ok v) p q = (p, q)
both P Q (Err r) p q = tt

pub where_done : {T P Q : Type 0} (result : Result T Refusal) → OnOk result P → (P → Q) → OnOk result Q
where_done (Ok v) done then = then done
where_done (Err r) done then = tt

pub where_refused : {T : Type 0} {F G : Refusal → Type 0} (result : Result T Refusal) → IfErr result F → ((r : Refusal) → F r → G r) → IfErr result G
where_refused (Ok v) refused then = tt
where_refused (Err r) refused then = then r refused

module _ {M : Type 0} (disk : M → Disk) (lacks : Refusal → Type 0) (k later : Kept) (old new : M) where
  left_by : (first : Option Refusal) (r : Refusal) → RefusesCall disk first lacks k later old new r → Settles k later
  left_by first r is = settles_so k later (refused_left disk first lacks k later old new r is)

  pub mount_left : (result : Result (Unit {0}) Refusal) → OnOk result (recorder_refusal k events.Mount ≡ None) → OnOk result (MountEffect k (disk old) later (disk new)) → IfErr result (RefusesCall disk (recorder_refusal k events.Mount) lacks k later old new) → Settles k later
  mount_left result passed effect refused = answered result (both _ _ result passed effect) refused (λ done. mount_settles k later (disk old) (disk new) (works k.work _ done.0) done.1) (left_by (recorder_refusal k events.Mount))

  pub dismount_left : (result : Result (Unit {0}) Refusal) → OnOk result (recorder_refusal k events.Dismount ≡ None) → OnOk result (DismountEffect k (disk old) later (disk new)) → IfErr result (RefusesCall disk (recorder_refusal k events.Dismount) lacks k later old new) → Settles k later
  dismount_left result passed effect refused = answered result (both _ _ result passed effect) refused (λ done. dismount_settles k later (disk old) (disk new) (works k.work _ done.0) done.1) (left_by (recorder_refusal k events.Dismount))

  pub tick_left : (count : ℕ) (parts : Parts) (result : Result (Unit {0}) Refusal) → OnOk result (recorder_refusal k (events.Tick count parts) ≡ None) → OnOk result (TickEffect (record { count = count; civil = parts }) k (disk old) later (disk new)) → IfErr result (RefusesOpen disk (recorder_refusal k (events.Tick count parts)) lacks k later old new) → Settles k later
  tick_left count parts result passed effect refused = answered result (both _ _ result passed effect) refused (λ done. tick_settles (record { count = count; civil = parts }) k later (disk old) (disk new) (works k.work _ done.0) done.1) (open_settles disk (recorder_refusal k (events.Tick count parts)) lacks k later old new)

  pub event_left : (number count : ℕ) (result : Result (Unit {0}) Refusal) → OnOk result (recorder_refusal k (events.Event number count) ≡ None) → OnOk result (EventEffect number count k (disk old) later (disk new)) → IfErr result (RefusesOpen disk (recorder_refusal k (events.Event number count)) lacks k later old new) → Settles k later
  event_left number count result passed effect refused = answered result (both _ _ result passed effect) refused (λ done. event_settles number count k later (disk old) (disk new) (works k.work _ done.0) done.1) (open_settles disk (recorder_refusal k (events.Event number count)) lacks k later old new)

  pub seal_left : (result : Result (Unit {0}) Refusal) → OnOk result (recorder_refusal k events.Seal ≡ None) → OnOk result (SealEffect k (disk old) later (disk new)) → IfErr result (RefusesCall disk (recorder_refusal k events.Seal) lacks k later old new)
      → Settles k later
  seal_left result passed effect refused = answered result (both _ _ result passed effect) refused
      (λ done. seal_settles k later (disk old).blocks (disk new).blocks (works k.work _ done.0) done.1.sealed done.1.rest) (left_by (recorder_refusal k events.Seal))

  -- of a start and of a commit the numbers stay, and where they are refused the same is reported
  pub start_left : (name setup : List ℕ) (result : Result (Unit {0}) Refusal) → OnOk result (recorder_refusal k (events.Start name setup) ≡ None) → OnOk result (StartEffect name setup k (disk old) later (disk new))
      → IfErr result (RefusesCall disk (recorder_refusal k (events.Start name setup)) lacks k later old new) → KeepsNumbers k later
  start_left name setup result passed effect refused = answered result (both _ _ result passed effect) refused
      (λ done. record { numbers = start_stays name setup k later (disk old) (disk new) done.1; fails = λ fails. absurd (works k.work _ done.0 fails) })
      (λ r is. (left_by (recorder_refusal k (events.Start name setup)) r is).numbers)

  pub call_tells : (first : Option Refusal) (r : Refusal) → RefusesCall disk first lacks k later old new r → TellsStill later.work k.work
  call_tells first r is = (left_by first r is).tells

  pub commit_left : (result : Result (Unit {0}) Refusal) → OnOk result (recorder_refusal k events.Commit ≡ None) → OnOk result (CommitEffect k (disk old) later (disk new)) → IfErr result (RefusesOpen disk (recorder_refusal k events.Commit) lacks k later old new)
      → KeepsNumbers k later
  commit_left result passed effect refused = answered result (both _ _ result passed effect) refused
      (λ done. record { numbers = commit_stays k later (disk old) (disk new) done.1; fails = λ fails. absurd (works k.work _ done.0 fails) })
      (λ r is. (open_settles disk (recorder_refusal k events.Commit) lacks k later old new r is).numbers)

  pub open_tells : (first : Option Refusal) (r : Refusal) → RefusesOpen disk first lacks k later old new r → TellsStill later.work k.work
  open_tells first r is = (open_settles disk first lacks k later old new r is).tells

  -- a pump and a stop
  pub pump_refused : (channel most : ℕ) (r : Refusal) → RefusesReadied disk (recorder_refusal k (events.Pump channel most)) lacks k later old new r → FailedOrSettles k later r
  pump_refused channel most r is = readied_left disk (recorder_refusal k (events.Pump channel most)) lacks k later old new r (pump_checks channel most k) is

  pub stop_refused : (r : Refusal) → RefusesReadied disk (recorder_refusal k events.Stop) lacks k later old new r → FailedOrSettles k later r
  stop_refused r is = readied_left disk (recorder_refusal k events.Stop) lacks k later old new r (stop_checks k) is

pub tells_after : (k later : Kept) (r : Refusal) → FailedOrSettles k later r → TellsStill later.work k.work
tells_after k later r is = ⊎_elim (λ fails. subst (λ (x : Kept). TellsStill x.work k.work) (sym fails) tt) (λ settles. settles.0.tells) is
