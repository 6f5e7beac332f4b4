-- What became of feeds, put together.
use Rattle.std.proofs.Common.{◌≡◌, ℕ, ◌+◌, ◌<◌, suc, List, [], ◌∷◌, ◌++◌, length, map, get_or, count_by, refl, sym, ap, subst, ◌∙◌, arith, Option, Some, None}
use Rattle.std.specs.Prelude.{IsSomeAnd}
use Rattle.std.specs.List.{AllZip}
use Rattle.r10_body.specs.Files.{on_channel}
use Rattle.r10_body.specs.declared.entry.Entry.{Entry}
use Rattle.r10_body.specs.declared.entry.Sample.{Sample}
use Rattle.r10_body.specs.declared.spec.ChannelSpec.{ChannelSpec}
use Rattle.r10_machine.specs.Machine.{Lane, fresh_lane, saturated}
use Rattle.r10_port.specs.Ends.{sent}
use Rattle.r10_session.specs.Feeds.{Comes, FeedCame, WaitsAsLine, feed_end}
use Rattle.r10_script.specs.declared.session.FeedTable.{FeedTable}
use Rattle.r10_shared.specs.Feeding.{FedLine, HasRun}
use Rattle.r10_shared.specs.Naming.{SendingLine}
use Rattle.r10_shared.specs.Recorder.{entries_on}
use Rattle.r10_shared.specs.Settling.{IsSettledReport}
use Rattle.r10_shared.specs.declared.report.FeedReport.{FeedReport}
use Rattle.r10_shared.specs.declared.source.Tally.{Tally}
use Rattle.r10_source.specs.Pumps.{accepted_of, is_accepted, is_refused}
use Rattle.r10_source.specs.declared.source.SourceItem.{SourceItem}
use Rattle.r10_session.specs.Turns.{turns_in}

-- ---- from places to pairs

module _ {S F : Type 0} (rest_of : S → List SourceItem) (own : List Entry) (source_of : F → Option S) (line_of : F → SendingLine) (tally_of : F → Tally) where
  one_comes : (items : List SourceItem) (source : Option S) (line later : SendingLine) (tally reported : Tally) (report : FeedReport) → IsSomeAnd source (λ s. rest_of s ≡ items) → HasRun rest_of source line tally later reported → IsSettledReport own later reported report
      → Comes own items line report
  one_comes items (Some s) line later tally reported report given run settled = record { later = later; reported = reported; fed = subst (λ (l : List SourceItem). FedLine l line later reported) given run; settled = settled }
  one_comes items None line later tally reported report given run settled = absurd given

  pub came_each : (feeds later : List F) (reports : List FeedReport) → length later ≡ length feeds
      → ((i : ℕ) (d : F) → i < length feeds → HasRun rest_of (source_of (get_or feeds i d)) (line_of (get_or feeds i d)) (tally_of (get_or feeds i d)) (line_of (get_or later i d)) (tally_of (get_or later i d)))
      → length reports ≡ length later → ((i : ℕ) (d : F) (r : FeedReport) → i < length later → IsSettledReport own (line_of (get_or later i d)) (tally_of (get_or later i d)) (get_or reports i r))
      → AllZip (λ (feed : F) (report : FeedReport). (items : List SourceItem) → IsSomeAnd (source_of feed) (λ s. rest_of s ≡ items) → Comes own items (line_of feed) report) feeds reports
  came_each [] [] [] same run many settled = tt
  came_each (f ∷ feeds) (g ∷ later) (r ∷ reports) same run many settled = (
    λ items given. one_comes items (source_of f) (line_of f) (line_of g) (tally_of f) (tally_of g) r given (run 0 f (omega arith)) (settled 0 g r (omega arith)),
    came_each feeds later reports (omega (arith, same)) (λ i d below. run (suc i) d (omega (arith, below))) (omega (arith, many)) (λ i d s below. settled (suc i) d s (omega (arith, below))),
  )
  came_each [] [] (r ∷ reports) same run many settled = absurd (omega (arith, many))
  came_each [] (g ∷ later) reports same run many settled = absurd (omega (arith, same))
  came_each (f ∷ feeds) [] reports same run many settled = absurd (omega (arith, same))
  came_each (f ∷ feeds) (g ∷ later) [] same run many settled = absurd (omega (arith, many))

-- ---- a feed

-- nothing had gone through a new lane
sent_there : (lane : Lane) (spec : ChannelSpec) (more : List Sample) (all : List Sample) → lane ≡ fresh_lane spec → all ≡ lane.waiting ++ more → all ≡ more
sent_there lane spec more all new is = is ∙ ap (λ (l : Lane). l.waiting ++ more) new

none_missed : (lane : Lane) (spec : ChannelSpec) → lane ≡ fresh_lane spec → lane.missed ≡ 0
none_missed lane spec new = ap (λ (l : Lane). l.missed) new

one_came : (specs : List ChannelSpec) (own : List Entry) (table : FeedTable) (line : SendingLine) (report : FeedReport) → WaitsAsLine specs table line → Comes own (turns_in table.items) line report → FeedCame specs own table (feed_end report)
one_came specs own table line report waits comes =
    let fed = comes.fed.1 in
    let settled = comes.settled in
    let channel : comes.later.channel ≡ table.channel = comes.fed.0 ∙ waits.channel_is in
    let all : sent comes.later.port ≡ accepted_of 0 fed.tried =
    sent_there line.port.lane waits.unused.spec (accepted_of line.port.lane.missed fed.tried) (sent comes.later.port) waits.unused.lane_is fed.sent_is
    ∙ ap (λ b. accepted_of b fed.tried) (none_missed line.port.lane waits.unused.spec waits.unused.lane_is) in
    record {
      channel_is = settled.channel_is ∙ channel;
      port = line.port;
      unused = waits.unused;
      tried = fed.tried;
      left = fed.left;
      given = fed.given;
      later = comes.later.port;
      offers = fed.offers;
      gone = settled.gone;
      kept = settled.kept;
      rest = report.rest.items;
      accepted_are = sym all ∙ settled.sent_is;
      entries_are = subst (λ (c : ℕ). on_channel c own ≡ entries_on c settled.kept) channel settled.entries_are;
      accepted_is = settled.accepted_is ∙ ap (λ (l : List Sample). saturated (length l)) all;
      refused_is = settled.refused_is ∙ fed.refused_is;
      lost_is = settled.lost_is;
      erased_is = settled.erased_is;
      filed_is = settled.filed_is;
      rest_is = refl;
    }

-- ---- all feeds

zip_join : {A B C : Type 0} (P : A → B → Type 0) (Q : B → C → Type 0) (R : A → C → Type 0) → ((a : A) (b : B) (c : C) → P a b → Q b c → R a c) → (as' : List A) (bs : List B) (cs : List C) → AllZip P as' bs → AllZip Q bs cs → AllZip R as' cs
zip_join P Q R both [] [] [] p q = tt
zip_join P Q R both (a ∷ as') (b ∷ bs) (c ∷ cs) p q = (both a b c p.0 q.0, zip_join P Q R both as' bs cs p.1 q.1)
zip_join P Q R both [] [] (c ∷ cs) p q = absurd q
zip_join P Q R both [] (b ∷ bs) cs p q = absurd p
zip_join P Q R both (a ∷ as') [] cs p q = absurd p
zip_join P Q R both (a ∷ as') (b ∷ bs) [] p q = absurd q

zip_map : {A B C : Type 0} (R : A → C → Type 0) (f : B → C) (as' : List A) (bs : List B) → AllZip (λ (a : A) (b : B). R a (f b)) as' bs → AllZip R as' (map f bs)
zip_map R f [] [] each = tt
zip_map R f (a ∷ as') (b ∷ bs) each = (each.0, zip_map R f as' bs each.1)
zip_map R f [] (b ∷ bs) each = absurd each
zip_map R f (a ∷ as') [] each = absurd each

-- by pairs of a table and its feed, whatever they are, that give a line that waits and its items
pub all_came : {F : Type 0} (specs : List ChannelSpec) (own : List Entry) (P : FeedTable → F → Type 0) (Q : F → FeedReport → Type 0) (tables : List FeedTable) (feeds : List F) (reports : List FeedReport) → AllZip P tables feeds → AllZip Q feeds reports
    → ((t : FeedTable) (f : F) (r : FeedReport) → P t f → Q f r → (line : SendingLine) × WaitsAsLine specs t line × Comes own (turns_in t.items) line r) → AllZip (FeedCame specs own) tables (map feed_end reports)
all_came {F} specs own P Q tables feeds reports waits comes both =
    zip_map (FeedCame specs own) feed_end tables reports
    (zip_join P Q (λ (t : FeedTable) (r : FeedReport). FeedCame specs own t (feed_end r)) (λ t f r p q. let one = both t f r p q in one_came specs own t one.0 r one.1 one.2) tables feeds reports waits comes)
