-- A loss and an offer that no check refuses are answered 0.
use Rattle.std.proofs.Common.{◌≡◌, ◌≢◌, ℕ, ◌==◌, Bool, true, false, cond, List, [], ◌∷◌, ◌++◌, find, Option, None, Some, IsSome, refl, sym, ap, ◌∙◌, subst}
use Rattle.std.proofs.lemmas.Bool.{ne_eqb}
use Rattle.r10_body.specs.declared.entry.Sample.{Sample}
use Rattle.r10_body.specs.declared.message.Message.{Message}
use Rattle.r10_machine.specs.Calls.{losing}
use Rattle.r10_machine.specs.Checks.{offer_refusal}
use Rattle.r10_machine.specs.Machine.{Lane, change_first, is_channel, lane_in}
use Rattle.r10_machine.specs.declared.event.Event.{Event as EventValue}
use Rattle.r10_machine.specs.declared.event.Event.TheVariants as events
use Rattle.r10_medium.specs.Disk.{Disk}
use Rattle.r10_calls.specs.Carrying.{DoesEach, events_of, lost_of}
use Rattle.r10_calls.specs.EventCalls.{DoesEvent, reply_number}
use Rattle.r10_calls.specs.declared.desk.Desk.{Desk as DeskValue}

-- ---- the channel's lane

pub there_is : (o : Option Lane) (count : ℕ) (message : Message) → offer_refusal o count message ≡ None → IsSome o
there_is None count message fine = cc
there_is (Some lane) count message fine = refl

same_after_loss : (o : Option Lane) (n count : ℕ) (message : Message) → offer_refusal (elim o [ None ↦ None | Some l ↦ Some (losing n l) ]) count message ≡ offer_refusal o count message
same_after_loss None n count message = refl
same_after_loss (Some l) n count message = refl

found_after_loss : (channel n : ℕ) (lanes : List Lane) → lane_in channel (change_first (is_channel channel) (losing n) lanes) ≡ elim (lane_in channel lanes) [ None ↦ None | Some l ↦ Some (losing n l) ]
found_after_loss channel n [] = refl
found_after_loss channel n (l ∷ lanes) = by (is_channel channel l) refl (found_after_loss channel n lanes)
  where
    by : (b : Bool) → is_channel channel l ≡ b → lane_in channel (change_first (is_channel channel) (losing n) lanes) ≡ elim (lane_in channel lanes) [ None ↦ None | Some l ↦ Some (losing n l) ]
        → find (is_channel channel) (cond b (losing n l ∷ lanes) (l ∷ change_first (is_channel channel) (losing n) lanes)) ≡ elim (cond b (Some l) (find (is_channel channel) lanes)) [ None ↦ None | Some l ↦ Some (losing n l) ]
    by true is rest = rw is refl
    by false is rest = rw is rest

-- a loss changes nothing of what the channel takes
pub taken_after_loss : (channel n count : ℕ) (message : Message) (old new : List Lane) → new ≡ change_first (is_channel channel) (losing n) old → offer_refusal (lane_in channel old) count message ≡ None
    → offer_refusal (lane_in channel new) count message ≡ None
taken_after_loss channel n count message old new made fine =
    ap (λ (ls : List Lane). offer_refusal (lane_in channel ls) count message) made ∙ ap (λ (o : Option Lane). offer_refusal o count message) (found_after_loss channel n old)
    ∙ same_after_loss (lane_in channel old) n count message ∙ fine

-- ---- both, one after the other

lossy : (channel : ℕ) (x : Sample) (n : ℕ) → n ≡ lost_of x.gap → n ≢ 0 → events_of channel x ≡ events.Lose channel n ∷ events.Offer channel x.count x.message ∷ []
lossy channel x n is some =
    ap (λ (b : Bool). cond b [] (events.Lose channel (lost_of x.gap) ∷ []) ++ events.Offer channel x.count x.message ∷ []) (ne_eqb (lost_of x.gap) 0 (λ e. some (is ∙ e)))
    ∙ ap (λ (k : ℕ). events.Lose channel k ∷ events.Offer channel x.count x.message ∷ []) (sym is)

lossless : (channel : ℕ) (x : Sample) (n : ℕ) → n ≡ lost_of x.gap → n ≡ 0 → events_of channel x ≡ events.Offer channel x.count x.message ∷ []
lossless channel x n is none = ap (λ (k : ℕ). cond (k == 0) [] (events.Lose channel k ∷ []) ++ events.Offer channel x.count x.message ∷ []) (sym is ∙ none)

pub both_done : {M : Type 0} (disk : M → Disk) (old mid new : DeskValue M) (channel : ℕ) (x : Sample) (n : ℕ) → n ≡ lost_of x.gap → n ≢ 0
    → DoesEvent disk old (events.Lose channel n) (λ reply. reply_number reply ≡ 0) mid → DoesEvent disk mid (events.Offer channel x.count x.message) (λ reply. reply_number reply ≡ 0) new → DoesEach disk old (events_of channel x) new
both_done disk old mid new channel x n is some loss offer = subst (λ (es : List EventValue). DoesEach disk old es new) (sym (lossy channel x n is some)) (mid, loss, (new, offer, refl))

pub one_done : {M : Type 0} (disk : M → Disk) (old new : DeskValue M) (channel : ℕ) (x : Sample) (n : ℕ) → n ≡ lost_of x.gap → n ≡ 0
    → DoesEvent disk old (events.Offer channel x.count x.message) (λ reply. reply_number reply ≡ 0) new → DoesEach disk old (events_of channel x) new
one_done disk old new channel x n is none offer = subst (λ (es : List EventValue). DoesEach disk old es new) (sym (lossless channel x n is none)) (new, offer, refl)
