use Rattle.std.proofs.Common.{◌≡◌, ◌++◌, drop, ap}
use Rattle.std.proofs.KnownBytes.{Appends-trans}
use Rattle.r10_text.specs.Line.{entry_line}
use Rattle.r10_playback.specs.Lines.{entry_lines}
use Rattle.r10_cursor.specs.Replays.{Reading}
use Rattle.r10_playback.proofs.Queue.{one_given}
use Rattle.r10_playback.proofs.lines.write_entries.Goals as goal

pub loop-entry-preserved : goal.loop-entry-preserved
loop-entry-preserved g c =
    let contents = g.W.Write.contents in
    let so_far = c.loop-entry.invariant in
    let left : c.next.new.self.queue ≡ drop 1 c.loop-entry.cursor.queue = ap (λ (r : Reading). r.queue) c.next.ensures.left in (
      so_far.0 ++ entry_line c.in-Some.entry,
      Appends-trans (contents c.args.writer.now) (contents c.loop-entry.writer) (contents c.write_entry.new.writer) so_far.0 (entry_line c.in-Some.entry) so_far.1 c.in_ok-write_entry.ensures.line,
      one_given so_far.0 (entry_lines c.args.cursor.now.queue) c.loop-entry.cursor.queue c.next.new.self.queue c.next.result c.in-Some.entry c.next.ensures.given c.in-Some.is left so_far.2,
    )
