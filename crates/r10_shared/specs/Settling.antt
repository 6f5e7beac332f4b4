-- What became of the messages of a session.
use Rattle.std.specs.Prelude.{◌≡◌, ℕ, ◌<◌, ◌-◌, ◌^◌, ◌==◌, Bool, List, ◌++◌, [], length, take, drop, Option, Some, IsSomeAnd, find}
use Rattle.std.specs.Prelude.{slice_index_or, vec_capacity}
use Rattle.r10_body.specs.Files.{on_channel}
use Rattle.r10_body.specs.declared.entry.Entry.{Entry}
use Rattle.r10_body.specs.declared.entry.Sample.{Sample}
use Rattle.r10_body.specs.declared.refusal.Refusal.{Refusal}
use Rattle.r10_body.specs.declared.refusal.Refusal.TheVariants.{Failed, OutOfMemory}
use Rattle.r10_held.specs.Naming.{ChannelRing, ring_for}
use Rattle.r10_held.specs.Recorder.{AreOwn, Kept, Work, entries_on, failed, number_on}
use Rattle.r10_machine.specs.Machine.{saturated}
use Rattle.r10_medium.specs.Disk.{Image}
use Rattle.r10_port.specs.Ends.{Receiving, Sending, sent, unreceived}
use Rattle.r10_shared.specs.Naming.{SendingLine}
use Rattle.r10_shared.specs.declared.reading.Transcribing.{Transcribing}
use Rattle.r10_shared.specs.declared.report.FeedReport.{FeedReport}
use Rattle.r10_shared.specs.declared.source.Tally.{Tally}
use Rattle.r10_held.specs.declared.transcript.Transcript.{Transcript}

-- ---- what a report says

-- Of a feed that was refused so many messages: what was sent on its line is what erases took, then what the recorder's own files
-- have of the channel, and then the rest, each once and in order; and the report tells how many of each.
pub record IsSettledReport (own : List Entry) (line : SendingLine) (tally : Tally) (report : FeedReport) : Type 0 where
  pub channel_is : report.channel ≡ line.channel
  pub gone : List Sample
  pub kept : List Sample
  pub sent_is : sent line.port ≡ (gone ++ kept) ++ report.rest.items
  pub entries_are : on_channel line.channel own ≡ entries_on line.channel kept
  pub accepted_is : report.accepted ≡ saturated (length (sent line.port))
  pub erased_is : report.erased ≡ saturated (length gone)
  pub filed_is : report.filed ≡ saturated (length kept)
  pub refused_is : report.refused ≡ tally.refused
  pub lost_is : report.lost ≡ line.port.lane.lost

-- The report's numbers are those that the recorder kept: so many erased of the feed's channel, and as filed what it took in
-- there less those. Fewer than 2^64 - 1 were sent, so that none of these numbers represents a larger one:
-- it is known then how many are gone and how many kept, and the rest is what stands after them, all that was sent and not
-- taken in. A message that was left in a ring can't be reported as erased.
pub record TellsKept (k : Kept) (line : SendingLine) (report : FeedReport) : Type 0 where
  pub few : report.accepted < 2 ^ 64 - 1
  pub erased_is : number_on line.channel k.config.channels k.erased ≡ Some report.erased
  pub taken : ℕ
  pub taken_is : number_on line.channel k.config.channels k.taken ≡ Some taken
  pub filed_is : report.filed ≡ taken - report.erased
  pub rest_is : report.rest.items ≡ drop taken (sent line.port)

-- each feed has its report, by the entries of the recorder's own files and by the numbers that it kept
pub record Settles {F : Type 0} (line_of : F → SendingLine) (tally_of : F → Tally) (k : Kept) (image : Image) (feeds : List F)
    (reports : List FeedReport) : Type 0 where
  pub own : List Entry
  pub is_own : AreOwn k image own
  pub number : length reports ≡ length feeds
  pub each : (place : ℕ) (f : F) (r : FeedReport) → place < length feeds
      → IsSettledReport own (line_of (slice_index_or feeds place f)) (tally_of (slice_index_or feeds place f))
      (slice_index_or reports place r)
  pub numbers : (place : ℕ) (f : F) (r : FeedReport) → place < length feeds
      → TellsKept k (line_of (slice_index_or feeds place f)) (slice_index_or reports place r)

-- an end is refused Failed where the recorder failed; else for want of memory
abbrev pub IsEndRefusal : Work → Refusal → Type 0
IsEndRefusal failed r = r ≡ Failed
IsEndRefusal work r = r ≡ OutOfMemory

-- the same by whether the recorder had failed when its cabinet was made
abbrev pub end_refusal : Bool → Refusal
end_refusal had_failed = elim had_failed [ Bool.true ↦ Failed | Bool.false ↦ OutOfMemory ]

-- ---- transcripts

-- a transcript is of what a player was to read
pub record IsTranscriptOf (reading : Transcribing) (transcript : Transcript) : Type 0 where
  pub file : transcript.file ≡ reading.player.cursor.file
  pub channels : transcript.channels ≡ reading.player.cursor.reading.channels
  pub first : transcript.first ≡ reading.player.cursor.reading.from
  pub last : transcript.last ≡ reading.player.cursor.reading.to

-- and has what it wrote down
abbrev pub IsWrittenDown : Transcribing → Transcript → Type 0
IsWrittenDown reading transcript = IsTranscriptOf reading transcript × (transcript.instalments.items ≡ reading.instalments.items)

pub record AreBegun (readings : List Transcribing) (transcripts : List Transcript) : Type 0 where
  pub number : length transcripts ≡ length readings
  pub each : (place : ℕ) (a : Transcribing) (b : Transcript) → place < length readings
      → IsTranscriptOf (slice_index_or readings place a) (slice_index_or transcripts place b)

pub record AreWrittenDown (readings : List Transcribing) (transcripts : List Transcript) : Type 0 where
  pub number : length transcripts ≡ length readings
  pub each : (place : ℕ) (a : Transcribing) (b : Transcript) → place < length readings
      → IsWrittenDown (slice_index_or readings place a) (slice_index_or transcripts place b)

-- ---- room, before anything is moved

-- a report of a feed that has room for all that was sent and not taken in
pub record IsReportReady (rings : List ChannelRing) (k : Kept) (line : SendingLine) (tally : Tally)
    (report : FeedReport) : Type 0 where
  pub named : ring_for line.channel rings ≡ Some line.port.ring
  pub channel_is : report.channel ≡ line.channel
  pub accepted_is : report.accepted ≡ saturated (length (sent line.port))
  pub few : report.accepted < 2 ^ 64 - 1
  pub refused_is : report.refused ≡ tally.refused
  pub lost_is : report.lost ≡ line.port.lane.lost
  pub erased_is : number_on line.channel k.config.channels k.erased ≡ Some report.erased
  pub taken : ℕ
  pub taken_is : number_on line.channel k.config.channels k.taken ≡ Some taken
  pub filed_is : report.filed ≡ taken - report.erased
  pub empty : report.rest.items ≡ []
  pub room : vec_capacity report.rest ≡ report.accepted - taken

-- no two reports are of one channel
abbrev pub ReportsAreApart : List FeedReport → Type 0
ReportsAreApart reports = (i j : ℕ) (r s : FeedReport) → i < j → j < length reports
    → (slice_index_or reports i r).channel ≡ (slice_index_or reports j s).channel → ⊥

pub record AreReady {F : Type 0} (line_of : F → SendingLine) (tally_of : F → Tally) (rings : List ChannelRing) (k : Kept)
    (feeds : List F) (reports : List FeedReport) : Type 0 where
  pub number : length reports ≡ length feeds
  pub each : (place : ℕ) (f : F) (r : FeedReport) → place < length feeds
      → IsReportReady rings k (line_of (slice_index_or feeds place f)) (tally_of (slice_index_or feeds place f))
      (slice_index_or reports place r)
  pub apart : ReportsAreApart reports

-- ---- what is moved

-- a channel's lane
abbrev pub receiving_of : ℕ → List Receiving → Option Receiving
receiving_of channel lanes = find (λ (lane : Receiving). lane.spec.id == channel) lanes

-- all that was sent was received before, or is left; of this as much is moved into a report as it has room for
pub record Drains (lane : Receiving) (port : Sending) (old new : FeedReport) : Type 0 where
  pub all : sent port ≡ lane.received ++ unreceived lane port
  pub same : new ≡ record old { rest = new.rest }
  pub moved : new.rest.items ≡ old.rest.items ++ take (vec_capacity old.rest - length old.rest.items) (unreceived lane port)

-- each feed has its report, no two of one channel, and its line is that of its channel's lane
pub record MayDrain {F : Type 0} (line_of : F → SendingLine) (lanes : List Receiving) (feeds : List F)
    (reports : List FeedReport) : Type 0 where
  pub number : length reports ≡ length feeds
  pub channels : (place : ℕ) (f : F) (r : FeedReport) → place < length feeds
      → (slice_index_or reports place r).channel ≡ (line_of (slice_index_or feeds place f)).channel
  pub apart : ReportsAreApart reports
  pub rings : (place : ℕ) (f : F) (r : FeedReport) → place < length feeds
      → IsSomeAnd (receiving_of (line_of (slice_index_or feeds place f)).channel lanes)
      (λ lane. lane.ring ≡ (line_of (slice_index_or feeds place f)).port.ring)

-- of each feed what was left is moved into its report
pub record HasDrained {F : Type 0} (line_of : F → SendingLine) (lanes : List Receiving) (feeds : List F)
    (reports later : List FeedReport) : Type 0 where
  pub number : length later ≡ length reports
  pub each : (place : ℕ) (f : F) (r s : FeedReport) → place < length feeds
      → IsSomeAnd (receiving_of (line_of (slice_index_or feeds place f)).channel lanes)
      (λ lane. Drains lane (line_of (slice_index_or feeds place f)).port (slice_index_or reports place r)
      (slice_index_or later place s))
