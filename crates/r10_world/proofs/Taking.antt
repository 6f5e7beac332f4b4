-- What is taken from the lanes of one thread leaves the machine's lanes the same.
use Rattle.std.proofs.Common.{◌≡◌, ℕ, List, [], ◌∷◌, ◌++◌, length, drop, map, Some, Result, Ok, Err, refl, sym, ap, ◌∙◌, subst}
use Rattle.std.proofs.Math.Seq.{drop-append_seam}
use Rattle.std.specs.List.{AllByRecursion}
use Rattle.r10_body.specs.declared.entry.Sample.{Sample}
use Rattle.r10_body.specs.declared.refusal.Refusal.{Refusal}
use Rattle.r10_lane.specs.Lanes.{TookWaiting}
use Rattle.r10_machine.specs.Machine.{Lane}
use Rattle.r10_control.specs.Taking.{HasWaiting, StepsByTaking, taken_of, Part, TellsWaiting, TookAll, samples_on}
use Rattle.r10_control.specs.Lanes.{unerased}
use Rattle.r10_control.specs.Leading.{AreLeft, MachinesKeepShown, KeptStepsTaking}
use Rattle.r10_control.specs.State.{RecorderState}
use Rattle.r10_world.specs.WorldSteps.{RecorderStepsAlone}
use Rattle.r10_world.proofs.CallsAsSteps.{Moves, leads_on, reported}
use Rattle.r10_machine.specs.declared.event.Event.{Event as EventValue}
use Rattle.r10_machine.specs.declared.reply.Reply.{Reply as ReplyValue}
use Rattle.r10_machine.specs.declared.reply.Reply.TheVariants as replies
use Rattle.r10_medium.specs.Disk.{Disk}

-- ---- one lane

gave : (n : ℕ) (a b x y : Lane) (samples : List Sample) → a ≡ unerased x → TookWaiting a samples b → n ≡ length samples → y ≡ record x { waiting = drop n x.waiting; erased = y.erased } → b ≡ unerased y
gave n a b x y samples same took number left =
    let front : x.waiting ≡ samples ++ b.waiting = sym (ap (λ (l : Lane). l.waiting) same) ∙ took.front in
    let rest : drop n x.waiting ≡ b.waiting = rw (number, front) (drop-append_seam samples b.waiting) in
    let given : b ≡ record x { waiting = b.waiting; erased = 0 } = took.others ∙ ap (λ (l : Lane). record l { waiting = b.waiting }) same in
    given ∙ ap (λ (w : List Sample). record x { waiting = w; erased = 0 }) (sym rest) ∙ sym (ap unerased left)

-- ---- all of them

heads : (x y : Lane) (xs ys : List Lane) → (x ∷ xs) ≡ (y ∷ ys) → x ≡ y
heads x y xs ys is = cc

tails : (x y : Lane) (xs ys : List Lane) → (x ∷ xs) ≡ (y ∷ ys) → xs ≡ ys
tails x y xs ys is = cc

pub all_gave : (parts : List Part) (lanes lanes' old new : List Lane) → lanes ≡ map unerased old → TookAll TookWaiting (λ (lane : Lane). lane.spec) parts lanes lanes' → AreLeft (λ channel. length (samples_on channel parts)) old new → lanes' ≡ map unerased new
all_gave parts [] [] [] [] same took left = refl
all_gave parts (a ∷ lanes) (b ∷ lanes') (x ∷ old) (y ∷ new) same (took, more) (is, left) =
    let one : a ≡ unerased x = heads a (unerased x) lanes (map unerased old) same in
    let id : samples_on a.spec.id parts ≡ samples_on x.spec.id parts = ap (λ (l : Lane). samples_on l.spec.id parts) one in
    let head : b ≡ unerased y = gave (length (samples_on x.spec.id parts)) a b x y (samples_on x.spec.id parts) one (subst (λ (s : List Sample). TookWaiting a s b) id took) refl is in
    rw (head, all_gave parts lanes lanes' old new (tails a (unerased x) lanes (map unerased old) same) more left) refl
all_gave parts [] [] (x ∷ old) new same took left = absurd (cc (same))
all_gave parts [] [] [] (y ∷ new) same took left = absurd left
all_gave parts [] (b ∷ lanes') old new same took left = absurd took
all_gave parts (a ∷ lanes) [] old new same took left = absurd took
all_gave parts (a ∷ lanes) (b ∷ lanes') [] new same took left = absurd (cc (same))
all_gave parts (a ∷ lanes) (b ∷ lanes') (x ∷ old) [] same took left = absurd left

-- ---- what waits

waiting_one : (p : Part) (old : List Lane) → TellsWaiting (λ (lane : Lane). Some lane.waiting) (λ (lane : Lane). lane.spec) (map unerased old) p → HasWaiting old p
waiting_one p [] tells = tt
waiting_one p (x ∷ old) (tells, more) = (tells, waiting_one p old more)

pub waiting : (parts : List Part) (lanes old : List Lane) → lanes ≡ map unerased old → AllByRecursion (TellsWaiting (λ (lane : Lane). Some lane.waiting) (λ (lane : Lane). lane.spec) lanes) parts → AllByRecursion (HasWaiting old) parts
waiting [] lanes old same tells = tt
waiting (p ∷ parts) lanes old same (tells, more) =
    (waiting_one p old (subst (λ (ls : List Lane). TellsWaiting (λ (lane : Lane). Some lane.waiting) (λ (lane : Lane). lane.spec) ls p) same tells), waiting parts lanes old same more)

-- ---- a call that takes from lanes

pub telling_taken : {M T : Type 0} (disk : M → Disk) (old new : RecorderState M Lane) → Moves → (order : List ℕ) (most : ℕ → ℕ) (says : T → List Part → Type 0) (bare : Result T Refusal → Type 0) (event : EventValue) (reply : T → ReplyValue) (result : Result T Refusal) (said : ReplyValue)
    → StepsByTaking TookWaiting (λ (lane : Lane). Some lane.waiting) (λ (lane : Lane). lane.spec) order most says bare old.kept (disk old.medium).blocks (disk old.medium).failures event reply result new.kept (disk new.medium).blocks (disk new.medium).failures old.lanes new.lanes
    → MachinesKeepShown old.kept (disk old.medium).blocks (disk old.medium).failures (disk new.medium).blocks → new.kept.config ≡ old.kept.config → said ≡ elim result [ Ok v ↦ reply v | Err r ↦ replies.Refused r ] → RecorderStepsAlone disk old event said new
telling_taken disk old new law order most says bare event reply result said takes keeps config is = λ slots m stands.
    let before = disk old.medium in
    let now = disk new.medium in
    let means = stands.joined.means in
    let leads : KeptStepsTaking (taken_of takes.parts) old.kept m event said new.kept now.blocks now.failures =
    reported (λ (r : ReplyValue). KeptStepsTaking (taken_of takes.parts) old.kept m event r new.kept now.blocks now.failures) reply result said (takes.steps m means (waiting takes.known old.lanes m.lanes stands.lanes_are takes.waits)) is in
    leads_on law (taken_of takes.parts) old.kept new.kept before.blocks now.blocks before.failures now.failures m event said slots old.lanes new.lanes stands leads (keeps m means) config
    (λ machine left. all_gave takes.parts old.lanes new.lanes m.lanes machine.lanes stands.lanes_are takes.taken left)
