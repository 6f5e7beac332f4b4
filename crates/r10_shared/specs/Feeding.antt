-- What became of a feed.
use Rattle.std.specs.Prelude.{◌≡◌, ◌⊎◌, ℕ, Bool, true, false, ◌++◌, List, [], map, count_by, Option, Some, None}
use Rattle.r10_machine.specs.Machine.{saturated}
use Rattle.r10_port.specs.Ends.{Sending, sent}
use Rattle.r10_source.specs.Pumps.{Tried, OffersAll, is_accepted, is_refused, accepted_of, turn_of}
use Rattle.r10_source.specs.declared.source.SourceItem.{SourceItem}
use Rattle.r10_shared.specs.Naming.{SendingLine}
use Rattle.r10_shared.specs.declared.source.Tally.{Tally}

-- the source's list begins with what was tried, each offered in turn, accepted or refused, or counted as a loss; what was sent
-- has grown by the accepted ones, each with the number of those lost before it, over the same ring; and so many were accepted and
-- refused
pub record FedFrom (before : List SourceItem) (old new : Sending) (tally : Tally) : Type 0 where
  pub tried : List Tried
  pub left : List SourceItem
  pub given : before ≡ map turn_of tried ++ left
  pub offers : OffersAll old tried new
  pub same : (new.ring ≡ old.ring) × (new.lane.spec ≡ old.lane.spec)
  pub sent_is : sent new ≡ sent old ++ accepted_of old.lane.missed tried
  pub accepted_is : tally.accepted ≡ saturated (count_by is_accepted tried)
  pub refused_is : tally.refused ≡ saturated (count_by is_refused tried)

-- all that the source had was offered so, unless a stop was asked
abbrev pub FedUnless : (Bool → Type 0) → List SourceItem → Sending → Sending → Tally → Type 0
FedUnless stops before old new tally = (fed : FedFrom before old new tally) × ((fed.left ≡ []) ⊎ stops true)

-- A feed after a gate, with a stop. If the gate let it through, all that the source had was offered, up to its end, unless the
-- stop was asked. Else nothing was.
pub record FedUntil (answers stops : Bool → Type 0) (before : List SourceItem) (old new : Sending) (tally : Tally) : Type 0 where
  pub fed : FedFrom before old new tally
  pub answer : Bool
  pub answered : answers answer
  pub whole : answer ≡ true → (fed.left ≡ []) ⊎ stops true
  pub none : answer ≡ false → fed.tried ≡ []

-- A feed after a gate. If the gate let it through, all that the source had was offered, up to its end. Else nothing was.
pub record FedBehind (answers : Bool → Type 0) (before : List SourceItem) (old new : Sending) (tally : Tally) : Type 0 where
  pub fed : FedFrom before old new tally
  pub answer : Bool
  pub answered : answers answer
  pub whole : answer ≡ true → fed.left ≡ []
  pub none : answer ≡ false → fed.tried ≡ []

-- on the same channel
abbrev pub FedLine : List SourceItem → SendingLine → SendingLine → Tally → Type 0
FedLine before old new tally = (new.channel ≡ old.channel) × FedFrom before old.port new.port tally

-- a source that waited was fed to its line; where none waited all is as it was
abbrev pub HasRun : {S : Type 0} → (S → List SourceItem) → Option S → SendingLine → Tally → SendingLine → Tally → Type 0
HasRun rest_of (Some source) line tally line' tally' = FedLine (rest_of source) line line' tally'
HasRun rest_of None line tally line' tally' = (line' ≡ line) × (tally' ≡ tally)

-- a source that waited was fed to its line past the gate, and to its end if that let it through
abbrev pub HasRunWhole : {S : Type 0} → (Bool → Type 0) → (S → List SourceItem) → Option S → SendingLine → SendingLine → Tally
    → Type 0
HasRunWhole answers rest_of (Some source) line line' tally' =
    (line'.channel ≡ line.channel) × FedBehind answers (rest_of source) line.port line'.port tally'
HasRunWhole answers rest_of None line line' tally' = Unit {0}

-- the same with a stop
abbrev pub HasRunUntil : {S : Type 0} → (Bool → Type 0) → (Bool → Type 0) → (S → List SourceItem) → Option S → SendingLine
    → SendingLine → Tally → Type 0
HasRunUntil answers stops rest_of (Some source) line line' tally' =
    (line'.channel ≡ line.channel) × FedUntil answers stops (rest_of source) line.port line'.port tally'
HasRunUntil answers stops rest_of None line line' tally' = Unit {0}

-- the answers of a power loss that is never asked
abbrev pub never : Bool → Type 0
never answer = answer ≡ false
