-- What came of a session.
use Rattle.std.specs.Prelude.{◌↔◌, List, Option, IfOk, IsTrue}
use Rattle.std.specs.List.{AllZip}
use Rattle.r10_body.specs.declared.entry.Entry.{Entry}
use Rattle.r10_body.specs.declared.refusal.Refusal.{Refusal}
use Rattle.r10_body.specs.declared.spec.ChannelSpec.{ChannelSpec}
use Rattle.r10_session.specs.declared.ended.Ended.{Ended}
use Rattle.r10_medium.specs.Disk.{Image}
use Rattle.r10_medium.specs.MemoryDisk.{memory_disk}
use Rattle.r10_script.specs.declared.session.FeedTable.{FeedTable}
use Rattle.r10_script.specs.declared.session.ReaderTable.{ReaderTable}
use Rattle.r10_session.specs.Feeds.{FeedCame}
use Rattle.r10_session.specs.Readers.{AreRead, BeginsReading}
use Rattle.r10_shared.specs.Recorder.{AllAgree, AreOwn, Cursor, Kept, Transcript}
use Rattle.r10_shared.specs.declared.order.Order.{Order}

-- The steps were asked of a recorder under a lock, and it answered so; the readers' cursors were opened or refused after them.
-- At the end, by the own files of a recorder over a medium with this image, this became of each feed's items, and this was read by
-- each reader; and what the audit says of it, if it is not refused.
pub record CameOf (specs : List ChannelSpec) (steps : List Order) (feeds : List FeedTable)
    (readers : List ReaderTable) (image : Image) (ended : Ended) : Type 0 where
  pub refused : List (Option Refusal)
  pub cursors : List Cursor
  pub begun : BeginsReading memory_disk steps readers ended.replies.items refused cursors
  pub kept : Kept
  pub own : List Entry
  pub is_own : AreOwn kept image own
  pub came : AllZip (FeedCame specs own) feeds ended.feeds.items
  pub transcripts : List Transcript
  pub read : AreRead readers ended.readers.items transcripts
  pub audited : IfOk ended.audit (λ yes. IsTrue yes ↔ AllAgree kept.work image transcripts)
