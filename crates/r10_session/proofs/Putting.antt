-- What came of a session, put together.
use Rattle.std.proofs.Common.{◌≡◌, ◌↔◌, List, map, IfOk, IsTrue, Option, Result, Ok, Err, sym, subst}
use Rattle.std.specs.List.{AllZip}
use Rattle.r10_body.specs.declared.entry.Entry.{Entry}
use Rattle.r10_body.specs.declared.refusal.Refusal.{Refusal}
use Rattle.r10_body.specs.declared.spec.ChannelSpec.{ChannelSpec}
use Rattle.r10_session.specs.declared.ended.Ended.{Ended}
use Rattle.r10_session.specs.declared.ended.FeedEnd.{FeedEnd}
use Rattle.r10_session.specs.declared.ended.Left.{Left}
use Rattle.r10_session.specs.declared.ended.ReaderEnd.{ReaderEnd}
use Rattle.r10_machine.specs.declared.reply.Reply.{Reply}
use Rattle.r10_medium.specs.Disk.{Image}
use Rattle.r10_medium.specs.MemoryDisk.{memory_disk}
use Rattle.r10_script.specs.declared.session.FeedTable.{FeedTable}
use Rattle.r10_script.specs.declared.session.ReaderTable.{ReaderTable}
use Rattle.r10_session.proofs.Reading.{all_read}
use Rattle.r10_session.specs.Came.{CameOf}
use Rattle.r10_session.specs.Counting.{entries_in}
use Rattle.r10_session.specs.Feeds.{FeedCame, feed_end}
use Rattle.r10_session.specs.Readers.{AreRead, BeginsReading, IsReadOf, fill}
use Rattle.r10_shared.specs.Recorder.{AllAgree, AreOwn, Cursor, Kept, Transcript}
use Rattle.r10_shared.specs.declared.order.Order.{Order}
use Rattle.r10_shared.specs.declared.report.FeedReport.{FeedReport}

pub put_together : {X : Type 0} (r : Result Left X) (specs : List ChannelSpec) (steps : List Order) (tables : List FeedTable) (readers : List ReaderTable) (kept : Kept) (image : Image) (own : List Entry) (replies : List Reply) (refused : List (Option Refusal))
    (cursors : List Cursor) (reports : List FeedReport) (transcripts : List Transcript) → BeginsReading memory_disk steps readers replies refused cursors → AreOwn kept image own → AllZip (FeedCame specs own) tables (map feed_end reports)
    → AllZip IsReadOf cursors transcripts → IfOk r (λ l. l.ended.replies.items ≡ replies) → IfOk r (λ l. l.ended.feeds.items ≡ map feed_end reports)
    → IfOk r (λ l. l.ended.readers.items ≡ fill refused (map (λ t. entries_in t.instalments.items) transcripts))
    → IfOk r (λ l. IfOk l.ended.audit (λ yes. IsTrue yes ↔ AllAgree kept.work image transcripts)) → IfOk r (λ l. (memory_disk l.medium).blocks ≡ image)
    → IfOk r (λ l. CameOf specs steps tables readers (memory_disk l.medium).blocks l.ended)
put_together (Err x) specs steps tables readers kept image own replies refused cursors reports transcripts begun is_own came read a b c d m = tt
put_together (Ok l) specs steps tables readers kept image own replies refused cursors reports transcripts begun is_own came read a b c d m =
    let ends : CameOf specs steps tables readers image l.ended = record {
      refused = refused;
      cursors = cursors;
      begun = subst (λ (l : List Reply). BeginsReading memory_disk steps readers l refused cursors) (sym a) begun;
      kept = kept;
      own = own;
      is_own = is_own;
      came = subst (λ (l : List FeedEnd). AllZip (FeedCame specs own) tables l) (sym b) came;
      transcripts = transcripts;
      read = subst (λ (l : List ReaderEnd). AreRead readers l transcripts) (sym c) (all_read memory_disk readers begun.1 refused cursors begun.2 transcripts begun.4 read);
      audited = d;
    } in
    subst (λ (i : Image). CameOf specs steps tables readers i l.ended) (sym m) ends
