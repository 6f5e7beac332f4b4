-- Calls of the recorder and on the table, answered whatever files the medium has.
use Rattle.std.proofs.Common.{◌≡◌, ℕ, ◌==◌, ⊎_elim, inr, Bool, true, false, cond, List, [], ◌∷◌, ◌++◌, length, drop, map, Option, Some, None, Result, Ok, Err, refl, sym, ap, ◌∙◌, subst}
use Rattle.std.specs.Prelude.{◌⊎◌, IfErr, IfOk, MatchResult, OnOk}
use Rattle.std.specs.List.{AllByRecursion}
use Rattle.std.proofs.Math.Seq.{drop-append_seam}
use Rattle.std.proofs.lemmas.List.{append-nil}
use Rattle.r10_count.specs.Checks.{first_broken}
use Rattle.r10_body.specs.declared.entry.Entry.{Entry}
use Rattle.r10_body.specs.declared.entry.Sample.{Sample}
use Rattle.r10_body.specs.declared.refusal.Refusal.{Refusal}
use Rattle.r10_body.proofs.ChannelLists.{none_on_any}
use Rattle.r10_body.specs.declared.refusal.Refusal.TheVariants as refusals
use Rattle.r10_medium.proofs.PowerLoss.{unchanged}
use Rattle.r10_medium.specs.Disk.{Disk, Image, Unchanged}
use Rattle.r10_machine.specs.Checks.{Check, mounted_checks}
use Rattle.r10_machine.specs.Machine.{Lane}
use Rattle.r10_machine.specs.declared.event.Event.{Event as EventValue}
use Rattle.r10_machine.specs.declared.event.Event.TheVariants as events
use Rattle.r10_machine.specs.declared.reply.Reply.{Reply as ReplyValue}
use Rattle.r10_machine.specs.declared.reply.Reply.TheVariants as replies
use Rattle.r10_cursor.specs.declared.cursor.Cursor.{Cursor}
use Rattle.r10_lane.specs.Lanes.{TookWaiting}
use Rattle.r10_control.specs.Taking.{Part, TellsWaiting, TookAll, entries_of, samples_on, GoesInto, RefusesReadied, StepsByTaking}
use Rattle.r10_refinement.specs.Grown.{AreGrown}
use Rattle.r10_refinement.specs.KeptState.{Kept, Work, mode_of, unmounted, idle, recording, failed}
use Rattle.r10_control.specs.Refused.{IsSameKept, IsSameWork, RefusesCall, RefusesOpen}
use Rattle.r10_control.specs.Own.{AreOwn, OwnGrow, OwnStay}
use Rattle.r10_control.specs.Reading.{OnlyReads}
use Rattle.r10_control.specs.State.{RecorderState}
use Rattle.r10_world.specs.Answering.{AnswersSo, ChangesNothing, EitherOr, HaveGiven, IsLacking, KeepsOwn, LeavesAll, LeavesLanes, LeavesRead, MayLack, MediumOr, MemoryOr, OnlyRead, RefusesSo, TakesParts, first_refusal, lanes_counted}
pub use Rattle.r10_cursor.proofs.Slots.{set_puts}

-- ---- what a call answered

-- by its parts: what passed and what was done at Ok, and what a refusal says
pub matched : {T : Type 0} (A : Type 0) (P : T → Type 0) (Q : Refusal → Type 0) (C : ReplyValue → Type 0) (reply : T → ReplyValue) (result : Result T Refusal) (said : ReplyValue) → OnOk result A → IfOk result P → IfErr result Q
    → ((v : T) → result ≡ Ok v → A → P v → C (reply v)) → ((r : Refusal) → result ≡ Err r → Q r → C (replies.Refused r)) → said ≡ elim result [ Ok v ↦ reply v | Err r ↦ replies.Refused r ] → C said
matched A P Q C reply (Ok v) said a b q done refused is = rw is (done v refl a b)
matched A P Q C reply (Err r) said a b q done refused is = rw is (refused r refl q)

pub told_apart : {T : Type 0} (P : T → Type 0) (Q : Refusal → Type 0) (C : ReplyValue → Type 0) (reply : T → ReplyValue) (result : Result T Refusal) (said : ReplyValue) → IfOk result P → IfErr result Q
    → ((v : T) → P v → C (reply v)) → ((r : Refusal) → Q r → C (replies.Refused r)) → said ≡ elim result [ Ok v ↦ reply v | Err r ↦ replies.Refused r ] → C said
told_apart P Q C reply (Ok v) said p q done refused is = rw is (done v p)
told_apart P Q C reply (Err r) said p q done refused is = rw is (refused r q)

pub told_either : {T : Type 0} (P : T → Type 0) (Q : Refusal → Type 0) (C : ReplyValue → Type 0) (reply : T → ReplyValue) (result : Result T Refusal) (said : ReplyValue) → MatchResult result P Q
    → ((v : T) → P v → C (reply v)) → ((r : Refusal) → Q r → C (replies.Refused r)) → said ≡ elim result [ Ok v ↦ reply v | Err r ↦ replies.Refused r ] → C said
told_either P Q C reply (Ok v) said p done refused is = rw is (done v p)
told_either P Q C reply (Err r) said q done refused is = rw is (refused r q)

-- what holds at Ok holds of the value
pub at_ok : {T : Type 0} (A : Type 0) (result : Result T Refusal) (v : T) → result ≡ Ok v → OnOk result A → A
at_ok {T} A result v is holds = subst (λ (r : Result T Refusal). OnOk r A) is holds

pub at_value : {T : Type 0} (P : T → Type 0) (result : Result T Refusal) (v : T) → result ≡ Ok v → IfOk result P → P v
at_value {T} P result v is holds = subst (λ (r : Result T Refusal). IfOk r P) is holds

pub at_match : {T : Type 0} (P : T → Type 0) (Q : Refusal → Type 0) (result : Result T Refusal) (v : T) → result ≡ Ok v → MatchResult result P Q → P v
at_match {T} P Q result v is holds = subst (λ (r : Result T Refusal). MatchResult r P Q) is holds

pub only_read : {M T : Type 0} (disk : M → Disk) (old new : RecorderState M Lane) (result : Result T Refusal) (v : T) → result ≡ Ok v → OnlyReads disk old new result → OnlyRead disk old new
only_read disk old new result v is reads = record { kept = at_ok (new.kept ≡ old.kept) result v is reads.kept; same = reads.same; no_fewer = reads.no_fewer; lanes = reads.lanes }

-- ---- causes

pub or_memory : (lacks : Refusal → Type 0) (q : Refusal) → lacks q → MemoryOr lacks q
or_memory lacks refusals.OutOfMemory holds = tt
or_memory lacks q holds = holds

pub or_medium : (lacks : Refusal → Type 0) (q : Refusal) → lacks q → MediumOr lacks q
or_medium lacks refusals.Medium holds = tt
or_medium lacks q holds = holds

pub or_either : (lacks : Refusal → Type 0) (q : Refusal) → lacks q → EitherOr lacks q
or_either lacks q holds = or_medium (MemoryOr lacks) q (or_memory lacks q holds)

-- ---- refusals

-- by a check
pub refused_check : {M : Type 0} (disk : M → Disk) (first : Option Refusal) (old new : RecorderState M Lane) (slots later : List (Option Cursor)) (event : EventValue) (r : Refusal) → first ≡ Some r → new.kept ≡ old.kept → new.medium ≡ old.medium
    → new.lanes ≡ lanes_counted event old.lanes → later ≡ slots → RefusesSo disk first old slots event r new later
refused_check disk (Some f) old new slots later event r is kept medium lanes same = let same_is : r ≡ f = cc in record { first_is = same_is; kept = kept; medium = medium; lanes = lanes; cursors = same }
refused_check disk None old new slots later event r is kept medium lanes same = cc

own_on : (k later : Kept) (old new : Image) (more : List Entry) → more ≡ [] → OwnGrow k old later new more → OwnStay k old later new
own_on k later old new more none grows = record { more = []; own = subst (OwnGrow k old later new) none grows; others = none_on_any k.config.channels }

pub own_same : (k later : Kept) (old new : Image) → later ≡ k → new ≡ old → OwnStay k old later new
own_same k later old new kept reads = own_on k later old new [] refl (inr (λ own are.
    subst (AreOwn later new) (sym (append-nil own)) (subst (λ (i : Image). AreOwn later i own) (sym reads) (subst (λ (x : Kept). AreOwn x old own) (sym kept) are))))

pub own_none : (k later : Kept) (old new : Image) (parts : List Part) → AllByRecursion (λ (p : Part). p.samples ≡ []) parts → OwnGrow k old later new (entries_of parts) → OwnStay k old later new
own_none k later old new parts all grows = own_on k later old new (entries_of parts) (none_in parts all) grows
  where
    none_in : (parts : List Part) → AllByRecursion (λ (p : Part). p.samples ≡ []) parts → entries_of parts ≡ []
    none_in [] all = refl
    none_in (p ∷ parts) (here, all) = rw (here, none_in parts all) refl

pub refused_call : {M : Type 0} (disk : M → Disk) (first : Option Refusal) (lacks : Refusal → Type 0) (old new : RecorderState M Lane) (slots : List (Option Cursor)) (event : EventValue) (r : Refusal) → RefusesCall disk first lacks old.kept new.kept old.medium new.medium r
    → new.lanes ≡ old.lanes → old.lanes ≡ lanes_counted event old.lanes → ((q : Refusal) → lacks q → MayLack disk old slots event new q) → (first ≡ None → new.kept ≡ record old.kept { work = failed } → MayLack disk old slots event new refusals.Medium)
    → (r ≡ refusals.OutOfMemory → MayLack disk old slots event new refusals.OutOfMemory) → ((new.kept ≡ old.kept) × Unchanged (disk old.medium) (disk new.medium) → LeavesAll disk old event new) → LeavesRead disk old.medium event new.medium
    → (new.lanes ≡ old.lanes → LeavesLanes old.lanes event new.lanes) → RefusesSo disk first old slots event r new slots
refused_call disk (Some f) lacks old new slots event r refuses lanes counted more medium memory leaves reads left = record { first_is = refuses.0; kept = refuses.1; medium = refuses.2; lanes = lanes ∙ counted; cursors = refl }
refused_call disk None lacks old new slots event refusals.Medium refuses lanes counted more medium memory leaves reads left =
    record { cause = medium refl refuses.1; rose = refuses.0; kept = refuses.1; reads = reads; lanes = left lanes; cursors = refl }
refused_call disk None lacks old new slots event refusals.OutOfMemory refuses lanes counted more medium memory leaves reads left =
    record { cause = memory refl; leaves = leaves (refuses.1, refuses.0); own = own_same old.kept new.kept (disk old.medium).blocks (disk new.medium).blocks refuses.1 refuses.0.reads; lanes = lanes; cursors = refl }
refused_call disk None lacks old new slots event r refuses lanes counted more medium memory leaves reads left =
    record { cause = more r refuses.0; leaves = leaves (refuses.2, refuses.1); own = own_same old.kept new.kept (disk old.medium).blocks (disk new.medium).blocks refuses.2 refuses.1.reads; lanes = lanes; cursors = refl }

same_work : (work : Work) → IsSameWork work work
same_work unmounted = refl
same_work (idle chain) = refl
same_work (recording chain o) = (refl, record { rest = refl; out = refl; left = refl; held = refl; specs = refl }, refl)
same_work failed = refl

same_kept : (old new : Kept) → new ≡ old → IsSameKept old new
same_kept old new same = subst (λ (k : Kept). IsSameKept old k) (sym same) (refl, same_work old.work)

-- a call that puts into the file that is recorded
pub refused_open : {M : Type 0} (disk : M → Disk) (first : Option Refusal) (cause : Refusal → Type 0) (old new : RecorderState M Lane) (slots : List (Option Cursor)) (event : EventValue) (r : Refusal) → RefusesOpen disk first cause old.kept new.kept old.medium new.medium r
    → new.lanes ≡ old.lanes → old.lanes ≡ lanes_counted event old.lanes → ((q : Refusal) → cause q → MayLack disk old slots event new q) → KeepsOwn disk old new → (IsSameKept old.kept new.kept × (new.medium ≡ old.medium) → LeavesAll disk old event new)
    → LeavesRead disk old.medium event new.medium → (new.lanes ≡ old.lanes → LeavesLanes old.lanes event new.lanes) → RefusesSo disk first old slots event r new slots
refused_open disk (Some f) cause old new slots event r refuses lanes counted more own leaves reads left = record { first_is = refuses.0; kept = refuses.1; medium = refuses.2; lanes = lanes ∙ counted; cursors = refl }
refused_open disk None cause old new slots event refusals.Medium refuses lanes counted more own leaves reads left =
    record { cause = more refusals.Medium refuses.0; rose = refuses.1; kept = refuses.2; reads = reads; lanes = left lanes; cursors = refl }
refused_open disk None cause old new slots event refusals.OutOfMemory refuses lanes counted more own leaves reads left =
    record { cause = more refusals.OutOfMemory refuses.0; leaves = leaves (refuses.1, refuses.2); own = own; lanes = lanes; cursors = refl }
refused_open disk None cause old new slots event r refuses lanes counted more own leaves reads left =
    record { cause = more r refuses.0; leaves = leaves (same_kept old.kept new.kept refuses.1, refuses.2); own = own; lanes = lanes; cursors = refl }

-- and takes from lanes
pub refused_readied : {M : Type 0} (disk : M → Disk) (first : Option Refusal) (lacks : Refusal → Type 0) (old new : RecorderState M Lane) (slots : List (Option Cursor)) (event : EventValue) (r : Refusal) → RefusesReadied disk first lacks old.kept new.kept old.medium new.medium r
    → (first ≡ Some refusals.Medium → ⊥) → ((r ≡ refusals.Medium → ⊥) → new.lanes ≡ old.lanes) → ((r ≡ refusals.Medium → ⊥) → KeepsOwn disk old new) → old.lanes ≡ lanes_counted event old.lanes → ((q : Refusal) → lacks q → MayLack disk old slots event new q)
    → MayLack disk old slots event new refusals.Medium → MayLack disk old slots event new refusals.OutOfMemory → (IsSameKept old.kept new.kept × (new.medium ≡ old.medium) → LeavesAll disk old event new) → LeavesRead disk old.medium event new.medium
    → LeavesLanes old.lanes event new.lanes → RefusesSo disk first old slots event r new slots
refused_readied disk (Some f) lacks old new slots event r refuses never lanes own counted more medium memory leaves reads left =
    record { first_is = refuses.0; kept = refuses.1; medium = refuses.2; lanes = lanes (λ is. never (ap (λ (q : Refusal). Some q) (sym refuses.0 ∙ is))) ∙ counted; cursors = refl }
refused_readied disk None lacks old new slots event refusals.Medium refuses never lanes own counted more medium memory leaves reads left =
    record { cause = medium; rose = refuses.0; kept = refuses.1; reads = reads; lanes = left; cursors = refl }
refused_readied disk None lacks old new slots event refusals.OutOfMemory refuses never lanes own counted more medium memory leaves reads left =
    record { cause = memory; leaves = leaves (refuses.0, refuses.1); own = own (λ is. cc); lanes = lanes (λ is. cc); cursors = refl }
refused_readied disk None lacks old new slots event r refuses never lanes own counted more medium memory leaves reads left =
    record { cause = more r refuses.0; leaves = leaves (refuses.1, refuses.2); own = own (λ is. cc); lanes = lanes (λ is. cc); cursors = refl }

-- ---- what is taken from lanes

pub have_given : (parts : List Part) (old new : List Lane) → TookAll TookWaiting (λ (lane : Lane). lane.spec) parts old new → HaveGiven old new
have_given parts [] [] took = tt
have_given parts (a ∷ old) (b ∷ new) (took, more) =
    let xs = samples_on a.spec.id parts in
    let rest : drop (length xs) a.waiting ≡ b.waiting = ap (λ (w : List Sample). drop (length xs) w) took.front ∙ drop-append_seam xs b.waiting in
    ((length xs, took.others ∙ ap (λ (w : List Sample). record a { waiting = w }) (sym rest)), have_given parts old new more)
have_given parts [] (b ∷ new) took = absurd took
have_given parts (a ∷ old) [] took = absurd took

none_on : (channel : ℕ) (parts : List Part) → AllByRecursion (λ (p : Part). p.samples ≡ []) parts → samples_on channel parts ≡ []
none_on channel [] all = refl
none_on channel (p ∷ parts) (here, all) = by (channel == p.channel) p.samples (samples_on channel parts) here (none_on channel parts all)
  where
    by : (b : Bool) (xs ys : List Sample) → xs ≡ [] → ys ≡ [] → cond b xs [] ++ ys ≡ []
    by true xs ys first rest = rw (first, rest) refl
    by false xs ys first rest = rest

pub none_given : (parts : List Part) (old new : List Lane) → AllByRecursion (λ (p : Part). p.samples ≡ []) parts → TookAll TookWaiting (λ (lane : Lane). lane.spec) parts old new → new ≡ old
none_given parts [] [] all took = refl
none_given parts (a ∷ old) (b ∷ new) all (took, more) =
    let front : a.waiting ≡ b.waiting = took.front ∙ ap (λ (xs : List Sample). xs ++ b.waiting) (none_on a.spec.id parts all) in
    let head : b ≡ a = took.others ∙ ap (λ (w : List Sample). record a { waiting = w }) (sym front) in
    let rest : new ≡ old = none_given parts old new all more in
    rw (head, rest) refl
none_given parts [] (b ∷ new) all took = absurd took
none_given parts (a ∷ old) [] all took = absurd took

-- what a call that succeeded took
pub takes_parts : {T : Type 0} (order : List ℕ) (most : ℕ → ℕ) (says : T → List Part → Type 0) (bare : Result T Refusal → Type 0) (k : Kept) (old : Disk) (event : EventValue) (reply : T → ReplyValue) (result : Result T Refusal) (later : Kept) (new : Disk) (lanes lanes' : List Lane)
    → StepsByTaking TookWaiting (λ (lane : Lane). Some lane.waiting) (λ (lane : Lane). lane.spec) order most says bare k old.blocks old.failures event reply result later new.blocks new.failures lanes lanes' → (v : T) → result ≡ Ok v
    → TakesParts order most (says v) k old lanes later new lanes'
takes_parts {T} order most says bare k old event reply result later new lanes lanes' takes v is =
    let whole : takes.passed ≡ [] = subst (λ (r : Result T Refusal). OnOk r (takes.passed ≡ [])) is takes.whole in
    let known : takes.known ≡ takes.parts = ⊎_elim (λ same. same) (λ none. absurd (apart result v refusals.Medium is none.1)) takes.reported in
    record {
      parts = takes.parts;
      order_is = sym (append-nil (map (λ (p : Part). p.channel) takes.parts)) ∙ subst (λ (xs : List ℕ). map (λ (p : Part). p.channel) takes.parts ++ xs ≡ order) whole takes.order_is;
      through = subst (λ (r : Result T Refusal). OnOk r (GoesInto most k.config k.work takes.parts)) is takes.through;
      within = takes.within;
      taken = takes.taken;
      waits = subst (λ (ps : List Part). AllByRecursion (TellsWaiting (λ (lane : Lane). Some lane.waiting) (λ (lane : Lane). lane.spec) lanes) ps) known takes.waits;
      tells = subst (λ (r : Result T Refusal). IfOk r (λ x. says x takes.parts)) is takes.tells;
      counts = subst (λ (r : Result T Refusal). OnOk r (AreGrown (entries_of takes.parts) k.config.channels k.taken later.taken)) is takes.counts;
      own = takes.own;
    }
  where
    apart : (result : Result T Refusal) (v : T) (r : Refusal) → result ≡ Ok v → result ≡ Err r → ⊥
    apart (Ok x) v r is fails = cc
    apart (Err x) v r is fails = cc

-- and one that was refused, if the medium didn't fail
all_empty : {T : Type 0} (result : Result T Refusal) (parts : List Part) (r : Refusal) → IfErr result (λ r. (r ≡ refusals.Medium) ⊎ AllByRecursion (λ (p : Part). p.samples ≡ []) parts) → result ≡ Err r → (r ≡ refusals.Medium → ⊥)
    → AllByRecursion (λ (p : Part). p.samples ≡ []) parts
all_empty {T} result parts r none is differs =
    let either : (r ≡ refusals.Medium) ⊎ AllByRecursion (λ (p : Part). p.samples ≡ []) parts =
    subst (λ (x : Result T Refusal). IfErr x (λ r. (r ≡ refusals.Medium) ⊎ AllByRecursion (λ (p : Part). p.samples ≡ []) parts)) is none in
    ⊎_elim (λ fails. absurd (differs fails)) (λ all. all) either

pub takes_none : {T : Type 0} (result : Result T Refusal) (parts : List Part) (old new : List Lane) (r : Refusal) → IfErr result (λ r. (r ≡ refusals.Medium) ⊎ AllByRecursion (λ (p : Part). p.samples ≡ []) parts)
    → TookAll TookWaiting (λ (lane : Lane). lane.spec) parts old new → result ≡ Err r → (r ≡ refusals.Medium → ⊥) → new ≡ old
takes_none result parts old new r none took is differs = none_given parts old new (all_empty result parts r none is differs) took

pub keeps_none : {T : Type 0} (result : Result T Refusal) (parts : List Part) (k later : Kept) (old new : Image) (r : Refusal) → IfErr result (λ r. (r ≡ refusals.Medium) ⊎ AllByRecursion (λ (p : Part). p.samples ≡ []) parts)
    → OwnGrow k old later new (entries_of parts) → result ≡ Err r → (r ≡ refusals.Medium → ⊥) → OwnStay k old later new
keeps_none result parts k later old new r none grows is differs = own_none k later old new parts (all_empty result parts r none is differs) grows

-- ---- checks

abbrev is_medium : Refusal → Bool
is_medium r = elim r [ refusals.Medium ↦ true | _ ↦ false ]

pub none_of_medium : (checks : List Check) → AllByRecursion (λ (x : Check). is_medium x.1 ≡ false) checks → first_broken checks ≡ Some refusals.Medium → ⊥
none_of_medium [] all is = cc
none_of_medium ((true, r) ∷ checks) (here, all) is = none_of_medium checks all is
none_of_medium ((false, r) ∷ checks) (here, all) is =
    let same : r ≡ refusals.Medium = cc in
    let no : true ≡ false = subst (λ (q : Refusal). is_medium q ≡ false) same here in
    cc

-- a recorder that failed isn't mounted
pub failed_refuses : (work : Work) → first_broken (mounted_checks (mode_of work)) ≡ None → work ≡ failed → ⊥
failed_refuses work passed fails = let no : Some refusals.Failed ≡ None = subst (λ (w : Work). first_broken (mounted_checks (mode_of w)) ≡ None) fails passed in cc

-- ---- what a refusal leaves

leaves_all : {M : Type 0} (disk : M → Disk) (old : RecorderState M Lane) (event : EventValue) (new : RecorderState M Lane) → LeavesAll disk old event new → IsSameKept old.kept new.kept × Unchanged (disk old.medium) (disk new.medium)
leaves_all {M} disk old event new leaves = by event leaves
  where
    same_medium : IsSameKept old.kept new.kept × (new.medium ≡ old.medium) → IsSameKept old.kept new.kept × Unchanged (disk old.medium) (disk new.medium)
    same_medium (kept, same) = (kept, subst (λ (m : M). Unchanged (disk old.medium) (disk m)) (sym same) (unchanged (disk old.medium)))

    by : (event : EventValue) → LeavesAll disk old event new → IsSameKept old.kept new.kept × Unchanged (disk old.medium) (disk new.medium)
    by (events.Tick count parts) left = same_medium left
    by (events.Pump channel most) left = same_medium left
    by (events.Event number count) left = same_medium left
    by events.Commit left = same_medium left
    by events.Stop left = same_medium left
    by events.Files (kept, same) = same_medium (same_kept old.kept new.kept kept, same)
    by events.Status (kept, same) = same_medium (same_kept old.kept new.kept kept, same)
    by event (kept, same) = (same_kept old.kept new.kept kept, same)

-- an offer lacks nothing
none_counted : {M : Type 0} (disk : M → Disk) (old : RecorderState M Lane) (slots : List (Option Cursor)) (event : EventValue) (r : Refusal) (new : RecorderState M Lane) → MayLack disk old slots event new r → old.lanes ≡ lanes_counted event old.lanes
none_counted disk old slots (events.Offer channel count message) r new lacks = absurd lacks
none_counted disk old slots event r new lacks = refl

lacking_changes : {M : Type 0} (disk : M → Disk) (old : RecorderState M Lane) (slots : List (Option Cursor)) (event : EventValue) (r : Refusal) (new : RecorderState M Lane) (later : List (Option Cursor)) → IsLacking disk old slots event r new later
    → ChangesNothing disk old slots event new later
lacking_changes disk old slots event r new later lacks =
    let left = leaves_all disk old event new lacks.leaves in
    record { kept = left.0; medium = left.1; own = lacks.own; lanes = lacks.lanes ∙ none_counted disk old slots event r new lacks.cause; cursors = lacks.cursors }

refused_changes : {M : Type 0} (disk : M → Disk) (first : Option Refusal) (old : RecorderState M Lane) (slots : List (Option Cursor)) (event : EventValue) (r : Refusal) (new : RecorderState M Lane) (later : List (Option Cursor)) → RefusesSo disk first old slots event r new later
    → (r ≡ refusals.Medium → ⊥) → ChangesNothing disk old slots event new later
refused_changes {M} disk (Some f) old slots event r new later refuses differs = record {
  kept = same_kept old.kept new.kept refuses.kept;
  medium = subst (λ (m : M). Unchanged (disk old.medium) (disk m)) (sym refuses.medium) (unchanged (disk old.medium));
  own = own_same old.kept new.kept (disk old.medium).blocks (disk new.medium).blocks refuses.kept (ap (λ (m : M). (disk m).blocks) refuses.medium);
  lanes = refuses.lanes;
  cursors = refuses.cursors;
}
refused_changes disk None old slots event refusals.Medium new later refuses differs = absurd (differs refl)
refused_changes disk None old slots event r new later refuses differs = lacking_changes disk old slots event r new later refuses

pub change_nothing : {M : Type 0} (disk : M → Disk) (old : RecorderState M Lane) (slots : List (Option Cursor)) (event : EventValue) (r : Refusal) (new : RecorderState M Lane) (later : List (Option Cursor)) → AnswersSo disk old slots event (replies.Refused r) new later
    → (r ≡ refusals.Medium → ⊥) → ChangesNothing disk old slots event new later
change_nothing disk old slots event r new later answers differs = refused_changes disk (first_refusal old.kept old.lanes slots event) old slots event r new later answers differs
