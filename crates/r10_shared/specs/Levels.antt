-- What a feed shows of its lane while it runs.
use Rattle.std.specs.Prelude.{◌≡◌, ◌==◌, ◌&&◌, ◌-◌, Bool, cond, List, [], ◌∷◌, ◌++◌, length, Option, Some, None, IsSomeAnd}
use Rattle.r10_body.specs.declared.refusal.Glance.{Glance}
use Rattle.r10_gauge.specs.Published.{PublishingEnd, last_triple, triple}
use Rattle.r10_machine.specs.Machine.{saturated}
use Rattle.r10_port.specs.Ends.{Sending, sent}
use Rattle.r10_source.specs.Pumps.{Tried, OffersAll}
use Rattle.r10_source.specs.declared.source.SourceItem.{SourceItem}
use Rattle.r10_shared.specs.Feeding.{FedFrom}
use Rattle.r10_shared.specs.Naming.{SendingLine}
use Rattle.r10_shared.specs.declared.source.Tally.{Tally}

-- the level of a lane: how many messages its sender sent, how many it lost, and how many places it doesn't know to be free
abbrev pub level_of : Sending → Glance
level_of port = triple (saturated (length (sent port))) port.lane.lost (port.lane.spec.capacity - port.free)

-- as many were sent and lost as before
abbrev pub is_level : Sending → Sending → Bool
is_level old new = saturated (length (sent new)) == saturated (length (sent old)) && new.lane.lost == old.lane.lost

-- what is shown of a step: the level then, if a message was sent or lost
abbrev pub shown_by : Sending → Sending → List Glance
shown_by old new = cond (is_level old new) [] (level_of new ∷ [])

-- of these, tried one after the other, each is shown so, in order, and nothing else is
abbrev pub ShowsEach : Sending → List Tried → List Glance → Sending → Type 0
ShowsEach old [] shown new = (new ≡ old) × (shown ≡ [])
ShowsEach old (t ∷ tried) shown new = (next : Sending) × (rest : List Glance) × OffersAll old (t ∷ []) next
    × (shown ≡ shown_by old next ++ rest) × ShowsEach next tried rest new

-- a gauge, where there is one, has published these too
abbrev pub GrewBy : Option PublishingEnd → Option PublishingEnd → List Glance → Type 0
GrewBy None new shown = new ≡ None
GrewBy (Some g) new shown = IsSomeAnd new (λ (h : PublishingEnd). (h.cell ≡ g.cell) × (h.published ≡ g.published ++ shown))

-- the numbers of a triple are those of a sender
pub record TellsNumbers (x : Glance) (port : Sending) : Type 0 where
  pub sent_is : x.commits ≡ saturated (length (sent port))
  pub lost_is : x.file ≡ port.lane.lost

-- so are the last numbers of a gauge, where there is one
abbrev pub TellsLast : Option PublishingEnd → Sending → Type 0
TellsLast None port = Unit {0}
TellsLast (Some g) port = TellsNumbers (last_triple g.published) port

-- A feed with a gauge: each thing tried that sent or lost a message was followed by the lane's level, and nothing else was shown.
-- So if the last that was published had the sender's numbers before, the last has its numbers now.
pub record FedShowing (before : List SourceItem) (old new : Sending) (tally : Tally)
    (gauge later : Option PublishingEnd) : Type 0 where
  pub fed : FedFrom before old new tally
  pub shown : List Glance
  pub shows : ShowsEach old fed.tried shown new
  pub grew : GrewBy gauge later shown
  pub last : TellsLast gauge old → TellsLast later new

-- a source that waited was shown so; where none waited the gauge is as it was
abbrev pub HasShown : {S : Type 0} → (S → List SourceItem) → Option S → SendingLine → Option PublishingEnd → SendingLine → Tally
    → Option PublishingEnd → Type 0
HasShown rest_of (Some source) line gauge line' tally' gauge' = FedShowing (rest_of source) line.port line'.port tally' gauge gauge'
HasShown rest_of None line gauge line' tally' gauge' = gauge' ≡ gauge
