-- Runs, and what a power loss leaves of them, one event after another.
use Rattle.std.proofs.Common.{◌≡◌, ◌≤◌, ◌<◌, ◌+◌, ⊎_elim, inl, inr, false, ℕ, List, [], ◌∷◌, ◌++◌, length, take, drop, get_or, Option, Some, None, Result, Ok, Err, refl, sym, ap, ◌∙◌, subst}
use Rattle.std.specs.Prelude.{IfErr, OnOk}
use Rattle.std.proofs.lemmas.List.{take_more}
use Rattle.r10_body.specs.declared.refusal.Refusal.{Refusal}
use Rattle.r10_control.specs.Lanes.{AreLanes}
use Rattle.r10_control.specs.Refused.{RefusesCall, RefusesOpen}
use Rattle.r10_control.specs.State.{RecorderState}
use Rattle.r10_control.specs.Taking.{RefusesReadied}
use Rattle.r10_cursor.specs.declared.cursor.Cursor.{Cursor}
use Rattle.r10_machine.specs.Config.{Config}
use Rattle.r10_machine.specs.Limits.{IsConfig}
use Rattle.r10_machine.specs.Machine.{Lane, Machine}
use Rattle.r10_machine.specs.Says.{MediumSays}
use Rattle.r10_machine.specs.Step.{Step}
use Rattle.r10_machine.specs.declared.event.Event.{Event as EventValue}
use Rattle.r10_machine.specs.declared.reply.Reply.{Reply as ReplyValue}
use Rattle.r10_machine.specs.declared.reply.Reply.TheVariants as replies
use Rattle.r10_refinement.specs.KeptState.{Kept, failed}
use Rattle.r10_medium.proofs.PowerLoss.{unchanged}
use Rattle.r10_medium.specs.Disk.{Disk, Unchanged}
use Rattle.r10_medium.specs.PowerLoss.{Leaves}
use Rattle.r10_refinement.proofs.SafeCalls.{reads_safely, refused_safely, still_safely}
use Rattle.r10_refinement.proofs.Keeping.{safe_says}
use Rattle.r10_refinement.proofs.Leaving.{leaves_begun, leaves_more, leaves_still}
use Rattle.r10_refinement.specs.PowerLossInCalls.{AnswersSafely, IsEither, StaysSafe, whichever}
use Rattle.r10_refinement.specs.Quiet.{may_make}
use Rattle.r10_world.proofs.Going.{RunsJoin, drop_one_more, none_behind}
use Rattle.r10_control.specs.Safely.{StopsSafely, WaitsAlike}
use Rattle.r10_machine.specs.declared.event.Event.TheVariants.{Stop}
use Rattle.r10_machine.specs.declared.mode.Stopped.{Stopped}
use Rattle.r10_world.proofs.Taking.{waiting}
use Rattle.r10_world.proofs.CallsAsSteps.{reported}
use Rattle.r10_world.specs.RepresentedParts.{PartsStepTo}
use Rattle.r10_world.specs.State.{WorldState}
use Rattle.r10_world.specs.PowerLoss.{RanSafely, RunsSafely, Survives}
use Rattle.r10_world.specs.WorldSteps.{RecorderStepsTo}

-- no events
begins : {M : Type 0} (disk : M → Disk) (w : WorldState M) → RunsSafely disk w [] [] w
begins disk w m stands = record {
  ran = record { images = []; machine = m; run = refl; stands = stands; config = refl };
  left = λ safe. leaves_begun w.recorder.kept.config m (disk w.recorder.medium) (safe_says w.recorder.kept.config w.recorder.kept.work m.files (disk w.recorder.medium) safe);
  held = λ safe. inr safe;
}

pub begun_safely : {M : Type 0} (disk : M → Disk) (w : WorldState M) (n : ℕ) (xs : List ReplyValue) → n ≡ length xs → RunsSafely disk w [] (drop n xs) w
begun_safely disk w n xs is = rw (is, none_behind xs) (begins disk w)

-- one event more
goes_from : RunsJoin → (k mid later : Kept) (m : Machine) (es : List EventValue) (rs : List ReplyValue) (event : EventValue) (reply : ReplyValue) (start old now : Disk) (lanes lanes' : List Lane) (slots after : List (Option Cursor))
    → (so_far : RanSafely k m es rs mid start old lanes slots) → PartsStepTo mid so_far.ran.machine event reply later now.blocks now.failures lanes' after
    → StaysSafe (AreLanes lanes) mid event reply old later now → (mid.work ≡ failed → Unchanged old now × (later.work ≡ failed))
    → RanSafely k m (es ++ event ∷ []) (rs ++ reply ∷ []) later start now lanes' after
goes_from law k mid later m es rs event reply start old now lanes lanes' slots after so_far go safe fails =
    let ran = so_far.ran in
    let means = ran.stands.joined.means in
    let step : Step k.config ran.machine event reply go.machine = subst (λ (s : Config). Step s ran.machine event reply go.machine) ran.config go.on.step in
    let says : MediumSays k.config now.blocks go.machine.files = subst (λ (s : Config). MediumSays s now.blocks go.machine.files) ran.config go.on.says in
    record {
      ran = record {
        images = ran.images ++ now.blocks ∷ [];
        machine = go.machine;
        run = law k.config m ran.machine go.machine es (event ∷ []) rs (reply ∷ []) ran.images (now.blocks ∷ []) ran.run (go.machine, step, says, refl);
        stands = record {
          limits = subst IsConfig (sym go.on.config) ran.stands.limits;
          joined = go.on.joined;
          lanes_are = go.lanes_are;
          says = subst (λ (s : Config). MediumSays s now.blocks go.machine.files) (sym go.on.config) go.on.says;
        };
        config = go.on.config ∙ ran.config;
      };
      left = λ first. ⊎_elim
          (λ failed. leaves_still k.config m es rs event reply start old now (so_far.left first) (fails failed).0)
          (λ was. leaves_more k.config m ran.machine es rs ran.images event reply start old now ran.run (so_far.left first)
          (subst (λ (s : Config). Leaves (IsEither s ran.machine event) old now) ran.config (safe.left ran.machine means ran.stands.lanes_are was)))
          (so_far.held first);
      held = λ first. ⊎_elim (λ failed. inl (fails failed).1) (λ was. safe.behind ran.machine go.machine means was (record { step = go.on.step; means = go.on.joined.means })) (so_far.held first);
    }

pub run_more_safely : {M : Type 0} (disk : M → Disk) (start mid new : WorldState M) (events : List EventValue) (i n : ℕ) (event : EventValue) (reply : ReplyValue) (xs ys : List ReplyValue) → RunsJoin
    → i < length events → event ≡ get_or events i event → n ≤ length xs → ys ≡ xs ++ reply ∷ []
    → RunsSafely disk start (take i events) (drop n xs) mid → RecorderStepsTo disk mid.recorder mid.slots event reply new.recorder new.slots → Survives disk mid.recorder event reply new.recorder → RunsSafely disk start (take (i + 1) events) (drop n ys) new
run_more_safely disk start mid new events i n event reply xs ys law here is within longer runs tells survives = λ m stands.
    let more : take (i + 1) events ≡ take i events ++ event ∷ [] = take_more events i event here ∙ ap (λ (e : EventValue). take i events ++ e ∷ []) (sym is) in
    let so_far = runs m stands in
    rw (more, drop_one_more n xs ys reply within longer)
    (goes_from law start.recorder.kept mid.recorder.kept new.recorder.kept m (take i events) (drop n xs) event reply (disk start.recorder.medium) (disk mid.recorder.medium) (disk new.recorder.medium)
    mid.recorder.lanes new.recorder.lanes mid.slots new.slots so_far (tells so_far.ran.machine so_far.ran.stands) survives.safe survives.failed)

-- ---- the recorder's calls

-- a recorder that failed refuses, and leaves all
pub alone_if : {M : Type 0} (disk : M → Disk) (first : Option Refusal) (lacks : Refusal → Type 0) (x : Refusal) (old new : Kept) (medium medium' : M) (r : Refusal) → first ≡ Some x → RefusesCall disk first lacks old new medium medium' r → (new ≡ old) × (medium' ≡ medium)
alone_if disk (Some first) lacks x old new medium medium' r is refuses = (refuses.1, refuses.2)
alone_if disk None lacks x old new medium medium' r is refuses = cc

pub alone_if_open : {M : Type 0} (disk : M → Disk) (first : Option Refusal) (lacks : Refusal → Type 0) (x : Refusal) (old new : Kept) (medium medium' : M) (r : Refusal) → first ≡ Some x → RefusesOpen disk first lacks old new medium medium' r → (new ≡ old) × (medium' ≡ medium)
alone_if_open disk (Some first) lacks x old new medium medium' r is refuses = (refuses.1, refuses.2)
alone_if_open disk None lacks x old new medium medium' r is refuses = cc

pub alone_if_readied : {M : Type 0} (disk : M → Disk) (first : Option Refusal) (lacks : Refusal → Type 0) (x : Refusal) (old new : Kept) (medium medium' : M) (r : Refusal) → first ≡ Some x → RefusesReadied disk first lacks old new medium medium' r → (new ≡ old) × (medium' ≡ medium)
alone_if_readied disk (Some first) lacks x old new medium medium' r is refuses = (refuses.1, refuses.2)
alone_if_readied disk None lacks x old new medium medium' r is refuses = cc

-- so it is of what a call answers
pub stays_failed : {M T : Type 0} (disk : M → Disk) (old new : RecorderState M Lane) (first : Option Refusal) (x : Refusal) (refuses : Refusal → Type 0) (result : Result T Refusal) → (old.kept.work ≡ failed → first ≡ Some x) → OnOk result (first ≡ None) → IfErr result refuses
    → ((r : Refusal) → first ≡ Some x → refuses r → (new.kept ≡ old.kept) × (new.medium ≡ old.medium)) → old.kept.work ≡ failed → Unchanged (disk old.medium) (disk new.medium) × (new.kept.work ≡ failed)
stays_failed disk old new first x refuses (Ok v) stops passed refused alone fails = let some = stops fails in let none : first ≡ None = passed in cc
stays_failed disk old new first x refuses (Err r) stops passed refused alone fails =
    let same = alone r (stops fails) refused in
    (subst (λ (m : _). Unchanged (disk old.medium) (disk m)) (sym same.1) (unchanged (disk old.medium)), ap (λ (k : Kept). k.work) same.0 ∙ fails)

-- what is known of a machine may be more
pub knowing : (known more : Machine → Type 0) (k : Kept) (event : EventValue) (reply : ReplyValue) (old : Disk) (later : Kept) (new : Disk) → ((m : Machine) → more m → known m) → StaysSafe known k event reply old later new → StaysSafe more k event reply old later new
knowing known more k event reply old later new tells stays = record { left = λ m means is safe. stays.left m means (tells m is) safe; behind = stays.behind }

pub survives_by : {M T : Type 0} (disk : M → Disk) (old new : RecorderState M Lane) (event : EventValue) (reply : T → ReplyValue) (result : Result T Refusal) (said : ReplyValue) → AnswersSafely old.kept (disk old.medium) event reply result new.kept (disk new.medium)
    → said ≡ elim result [ Ok v ↦ reply v | Err r ↦ replies.Refused r ] → (old.kept.work ≡ failed → Unchanged (disk old.medium) (disk new.medium) × (new.kept.work ≡ failed)) → Survives disk old event said new
survives_by disk old new event reply result said answers is fails = record {
  safe = knowing whichever (AreLanes old.lanes) old.kept event said (disk old.medium) new.kept (disk new.medium) (λ m are. tt)
      (reported (λ (a : ReplyValue). StaysSafe whichever old.kept event a (disk old.medium) new.kept (disk new.medium)) reply result said answers is);
  failed = fails;
}

-- ---- calls that leave what is kept, and the medium

pub survives_same : {M : Type 0} (disk : M → Disk) (old new : RecorderState M Lane) (event : EventValue) (reply : ReplyValue) → may_make event ≡ false → new.kept ≡ old.kept → new.medium ≡ old.medium → Survives disk old event reply new
survives_same disk old new event reply plain kept medium =
    let same : Unchanged (disk old.medium) (disk new.medium) = subst (λ (m : _). Unchanged (disk old.medium) (disk m)) (sym medium) (unchanged (disk old.medium)) in
    record {
      safe = subst (λ (k : Kept). StaysSafe (AreLanes old.lanes) old.kept event reply (disk old.medium) k (disk new.medium)) (sym kept) (still_safely (AreLanes old.lanes) old.kept event reply (disk old.medium) (disk new.medium) plain same);
      failed = λ fails. (same, ap (λ (k : Kept). k.work) kept ∙ fails);
    }

-- ---- a stop

pub survives_stop : {M : Type 0} (disk : M → Disk) (old new : RecorderState M Lane) (result : Result Stopped Refusal) (said : ReplyValue) → StopsSafely (λ (lane : Lane). Some lane.waiting) (λ (lane : Lane). lane.spec) old.lanes old.kept (disk old.medium) result new.kept (disk new.medium)
    → said ≡ elim result [ Ok v ↦ replies.Stopped v | Err r ↦ replies.Refused r ] → (old.kept.work ≡ failed → Unchanged (disk old.medium) (disk new.medium) × (new.kept.work ≡ failed)) → Survives disk old Stop said new
survives_stop disk old new result said answers is fails = record {
  safe = knowing (WaitsAlike (λ (lane : Lane). Some lane.waiting) (λ (lane : Lane). lane.spec) old.lanes) (AreLanes old.lanes) old.kept Stop said (disk old.medium) new.kept (disk new.medium) (λ m are parts tells. waiting parts old.lanes m.lanes are tells)
      (reported (λ (a : ReplyValue). StaysSafe (WaitsAlike (λ (lane : Lane). Some lane.waiting) (λ (lane : Lane). lane.spec) old.lanes) old.kept Stop a (disk old.medium) new.kept (disk new.medium)) (λ said. replies.Stopped said) result said answers is);
  failed = fails;
}

-- ---- calls that only read

pub survives_read : {M T : Type 0} (disk : M → Disk) (old new : RecorderState M Lane) (event : EventValue) (reply : T → ReplyValue) (result : Result T Refusal) (said : ReplyValue) → may_make event ≡ false → new.kept.config ≡ old.kept.config → OnOk result (new.kept ≡ old.kept)
    → Unchanged (disk old.medium) (disk new.medium) → said ≡ elim result [ Ok v ↦ reply v | Err r ↦ replies.Refused r ] → (old.kept.work ≡ failed → Unchanged (disk old.medium) (disk new.medium) × (new.kept.work ≡ failed)) → Survives disk old event said new
survives_read disk old new event reply result said plain config kept same is fails = record {
  safe = reads_safely (AreLanes old.lanes) old.kept new.kept event reply result said (disk old.medium) (disk new.medium) config plain kept same is;
  failed = fails;
}

-- what is kept stays
pub survives_kept : {M : Type 0} (disk : M → Disk) (old new : RecorderState M Lane) (event : EventValue) (reply : ReplyValue) → may_make event ≡ false → new.kept ≡ old.kept → Unchanged (disk old.medium) (disk new.medium) → Survives disk old event reply new
survives_kept disk old new event reply plain kept same = record {
  safe = subst (λ (k : Kept). StaysSafe (AreLanes old.lanes) old.kept event reply (disk old.medium) k (disk new.medium)) (sym kept) (still_safely (AreLanes old.lanes) old.kept event reply (disk old.medium) (disk new.medium) plain same);
  failed = λ fails. (same, ap (λ (k : Kept). k.work) kept ∙ fails);
}

-- or the call is refused
pub survives_refused : {M : Type 0} (disk : M → Disk) (old new : RecorderState M Lane) (event : EventValue) (r : Refusal) → new.kept.config ≡ old.kept.config → Unchanged (disk old.medium) (disk new.medium) → (old.kept.work ≡ failed → new.kept.work ≡ failed)
    → Survives disk old event (replies.Refused r) new
survives_refused disk old new event r config same fails = record {
  safe = refused_safely (AreLanes old.lanes) old.kept new.kept event r (disk old.medium) (disk new.medium) config same;
  failed = λ failed. (same, fails failed);
}
