-- What becomes of the items of feeds.
use Rattle.std.specs.Prelude.{◌≡◌, ℕ, List, ◌++◌, length, map, count_by}
use Rattle.std.specs.List.{AllZip}
use Rattle.r10_body.specs.Files.{on_channel}
use Rattle.r10_body.specs.declared.entry.Entry.{Entry}
use Rattle.r10_body.specs.declared.entry.Sample.{Sample}
use Rattle.r10_body.specs.declared.spec.ChannelSpec.{ChannelSpec}
use Rattle.r10_session.specs.declared.ended.FeedEnd.{FeedEnd}
use Rattle.r10_machine.specs.Machine.{saturated}
use Rattle.r10_port.specs.Ends.{Sending}
use Rattle.r10_session.specs.Lanes.{IsUnused}
use Rattle.r10_script.specs.declared.session.FeedTable.{FeedTable}
use Rattle.r10_shared.specs.Feeding.{FedLine}
use Rattle.r10_shared.specs.Naming.{SendingLine}
use Rattle.r10_shared.specs.Recorder.{entries_on}
use Rattle.r10_shared.specs.Settling.{IsSettledReport}
use Rattle.r10_shared.specs.declared.report.FeedReport.{FeedReport}
use Rattle.r10_shared.specs.declared.source.Tally.{Tally}
use Rattle.r10_source.specs.Pumps.{OffersAll, Tried, accepted_of, is_refused, turn_of}
use Rattle.r10_source.specs.declared.source.SourceItem.{SourceItem}
use Rattle.r10_session.specs.Turns.{turns_in}

-- each of these, with the one at its place
abbrev pub Zipped : {A B : Type 0} → List A → List B → (A → B → Type 0) → Type 0
Zipped xs ys R = AllZip R xs ys

-- the line of a feed that waits: the sending end of a new lane of the table's channel
pub record WaitsAsLine (specs : List ChannelSpec) (table : FeedTable) (line : SendingLine) : Type 0 where
  pub channel_is : line.channel ≡ table.channel
  pub unused : IsUnused specs table.channel line.port

-- a feed of these items was run, and its report tells what became of its messages, by the entries of the recorder's own files
pub record Comes (own : List Entry) (items : List SourceItem) (line : SendingLine) (report : FeedReport) : Type 0 where
  pub later : SendingLine
  pub reported : Tally
  pub fed : FedLine items line later reported
  pub settled : IsSettledReport own later reported report

abbrev pub feed_end : FeedReport → FeedEnd
feed_end r = record {
  channel = r.channel;
  accepted = r.accepted;
  refused = r.refused;
  lost = r.lost;
  erased = r.erased;
  filed = r.filed;
  rest = length r.rest.items;
}

-- Of a table's items the first were offered in turn, or counted as losses, to a new lane of its channel, which answered as a lane
-- does. Those that it accepted, each telling how many were lost before it, are what erases took, then what the recorder's own
-- files have of the channel, and then the rest, each once and in order; and the numbers are theirs.
pub record FeedCame (specs : List ChannelSpec) (own : List Entry) (table : FeedTable) (end : FeedEnd) : Type 0 where
  pub channel_is : end.channel ≡ table.channel
  pub port : Sending
  pub unused : IsUnused specs table.channel port
  pub tried : List Tried
  pub left : List SourceItem
  pub given : turns_in table.items ≡ map turn_of tried ++ left
  pub later : Sending
  pub offers : OffersAll port tried later
  pub gone : List Sample
  pub kept : List Sample
  pub rest : List Sample
  pub accepted_are : accepted_of 0 tried ≡ (gone ++ kept) ++ rest
  pub entries_are : on_channel table.channel own ≡ entries_on table.channel kept
  pub accepted_is : end.accepted ≡ saturated (length (accepted_of 0 tried))
  pub refused_is : end.refused ≡ saturated (count_by is_refused tried)
  pub lost_is : end.lost ≡ later.lane.lost
  pub erased_is : end.erased ≡ saturated (length gone)
  pub filed_is : end.filed ≡ saturated (length kept)
  pub rest_is : end.rest ≡ length rest
