-- What became of the messages of a session whose recorder failed.
use Rattle.std.specs.Prelude.{Bool, ◌≡◌, ℕ, ◌-◌, ◌^◌, ◌<◌, ◌≤◌, List, ◌++◌, length, Some, IsSomeAnd, slice_index_or}
use Rattle.r10_body.specs.declared.entry.Sample.{Sample}
use Rattle.r10_held.specs.Naming.{ChannelRing}
use Rattle.r10_held.specs.Recorder.{Kept, RecorderState, Work, failed, number_on}
use Rattle.r10_port.specs.Ends.{Receiving, sent}
use Rattle.r10_shared.specs.Naming.{SendingLine}
use Rattle.r10_shared.specs.Settling.{AreReady, HasDrained, receiving_of}
use Rattle.r10_shared.specs.declared.failing.NotEnded.{NotEnded}
use Rattle.r10_shared.specs.declared.failing.NotEnded.TheVariants.{Works, OutOfMemory}
use Rattle.r10_shared.specs.declared.report.FeedReport.{FeedReport}
use Rattle.r10_shared.specs.declared.source.Tally.{Tally}

-- the reports had room, and of each feed what was left is moved into its report
pub record AreMovedToReports {M F : Type 0} (line_of : F → SendingLine) (tally_of : F → Tally) (rings : List ChannelRing)
    (r : RecorderState M Receiving) (feeds : List F) (reports : List FeedReport) : Type 0 where
  pub ready : List FeedReport
  pub are_ready : AreReady line_of tally_of rings r.kept feeds ready
  pub moved : HasDrained line_of r.lanes feeds ready reports

-- Of a feed that was refused so many messages: what was sent on its line is what the recorder took from its lane, and then the
-- rest, each once and in order. The report tells how many were sent, and fewer than 2^64 - 1 were, so that the number
-- that the recorder took is known too. As erased and as filed it tells the numbers that the recorder kept, which are no more
-- than what it took; what its last call took is in neither.
pub record IsFailedReport (k : Kept) (lanes : List Receiving) (line : SendingLine) (tally : Tally)
    (report : FeedReport) : Type 0 where
  pub channel_is : report.channel ≡ line.channel
  pub front : List Sample
  pub received_is : IsSomeAnd (receiving_of line.channel lanes) (λ lane. lane.received ≡ front)
  pub sent_is : sent line.port ≡ front ++ report.rest.items
  pub accepted_is : report.accepted ≡ length (sent line.port)
  pub few : report.accepted < 2 ^ 64 - 1
  pub refused_is : report.refused ≡ tally.refused
  pub lost_is : report.lost ≡ line.port.lane.lost
  pub erased_is : number_on line.channel k.config.channels k.erased ≡ Some report.erased
  pub taken : ℕ
  pub taken_is : number_on line.channel k.config.channels k.taken ≡ Some taken
  pub filed_is : report.filed ≡ taken - report.erased
  pub within : (report.erased ≤ taken) × (taken ≤ length front)

-- each feed has its report
pub record FailedSettles {F : Type 0} (line_of : F → SendingLine) (tally_of : F → Tally) (k : Kept) (lanes : List Receiving)
    (feeds : List F) (reports : List FeedReport) : Type 0 where
  pub number : length reports ≡ length feeds
  pub each : (place : ℕ) (f : F) (r : FeedReport) → place < length feeds
      → IsFailedReport k lanes (line_of (slice_index_or feeds place f)) (tally_of (slice_index_or feeds place f))
      (slice_index_or reports place r)

-- such an end is refused where the recorder works; else for want of memory
abbrev pub IsNotEnded : Work → NotEnded → Type 0
IsNotEnded failed n = n ≡ OutOfMemory
IsNotEnded work n = n ≡ Works

-- the same by whether the recorder had failed when its cabinet was made
abbrev pub why_not_ended : Bool → NotEnded
why_not_ended had_failed = elim had_failed [ Bool.true ↦ OutOfMemory | Bool.false ↦ Works ]
