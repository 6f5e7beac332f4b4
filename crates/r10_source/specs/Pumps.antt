-- What becomes at a port of what a source gives.
use Rattle.std.specs.Prelude.{◌≡◌, ℕ, ◌+◌, ◌≤◌, Bool, true, false, List, [], ◌∷◌, ◌++◌, map, length, count_by, is_ok, is_err}
use Rattle.std.specs.Prelude.{Result, Ok, Err, if◌then◌else◌}
use Rattle.r10_body.specs.Gaps.{gap_after}
use Rattle.r10_body.specs.declared.entry.Sample.{Sample}
use Rattle.r10_body.specs.declared.entry.Timed.{Timed}
use Rattle.r10_body.specs.declared.refusal.Refusal.{Refusal}
use Rattle.r10_body.specs.declared.refusal.Refusal.TheVariants.{Overflow}
use Rattle.r10_machine.specs.Machine.{saturated}
use Rattle.r10_port.specs.Ends.{Sending, Offered, sent, with_losses}
use Rattle.r10_source.specs.declared.pump.Pumped.{Pumped}
use Rattle.r10_source.specs.declared.source.SourceItem.{SourceItem}
use Rattle.r10_source.specs.declared.source.SourceItem.TheVariants as brings

-- a message that was offered, and the answer; or a loss that was counted
pub data Tried : Type 0 where
  tries : Timed → Result (Unit {0}) Refusal → Tried
  counts : ℕ → Tried

-- what the source gave
abbrev pub turn_of : Tried → SourceItem
turn_of (tries item answer) = brings.Message item
turn_of (counts n) = brings.Lost n

-- all of them were offered, or counted, one after the other
abbrev pub OffersAll : Sending → List Tried → Sending → Type 0
OffersAll old [] new = new ≡ old
OffersAll old (tries item answer ∷ tried) new = (next : Sending) × Offered old item.count item.message answer next
    × OffersAll next tried new
OffersAll old (counts n ∷ tried) new = OffersAll (with_losses n old) tried new

abbrev pub is_accepted : Tried → Bool
is_accepted (tries item answer) = is_ok answer
is_accepted (counts n) = false

abbrev pub is_refused : Tried → Bool
is_refused (tries item answer) = is_err answer
is_refused (counts n) = false

abbrev pub is_overflow : Refusal → Bool
is_overflow r = elim r [ Overflow ↦ true | _ ↦ false ]

-- how many messages were lost since the last that was accepted, after an answer; the number stays at the greatest of 64 bits
abbrev pub missed_after : ℕ → Result (Unit {0}) Refusal → ℕ
missed_after missed (Ok x) = 0
missed_after missed (Err r) = if is_overflow r then saturated (missed + 1) else missed

abbrev pub accepted_with : ℕ → Timed → Result (Unit {0}) Refusal → List Sample
accepted_with missed item (Ok x) = record { count = item.count; message = item.message; gap = gap_after missed } ∷ []
accepted_with missed item (Err r) = []

-- the accepted ones, each with the number of those that were lost since the accepted one before
abbrev pub accepted_of : ℕ → List Tried → List Sample
accepted_of missed [] = []
accepted_of missed (tries item answer ∷ tried) = accepted_with missed item answer ++ accepted_of (missed_after missed answer) tried
accepted_of missed (counts n ∷ tried) = accepted_of (saturated (missed + n)) tried

-- so many turns: what was tried, accepted, refused or counted, is the front of what the source had, and the source has the rest;
-- the port stays on its ring and on its channel
pub record PumpsSource (most : ℕ) (before after : List SourceItem) (old new : Sending) (pumped : Pumped) : Type 0 where
  pub tried : List Tried
  pub given : before ≡ map turn_of tried ++ after
  pub offers : OffersAll old tried new
  pub same : (new.ring ≡ old.ring) × (new.lane.spec ≡ old.lane.spec)
  pub sent : sent new ≡ sent old ++ accepted_of old.lane.missed tried
  pub accepted : pumped.accepted ≡ count_by is_accepted tried
  pub refused : pumped.refused ≡ count_by is_refused tried
  pub turns : length tried ≤ most
  pub ended : pumped.ended ≡ true → after ≡ []
