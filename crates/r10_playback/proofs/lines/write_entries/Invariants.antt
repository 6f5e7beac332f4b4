use Rattle.std.proofs.Common.{◌≡◌, ◌++◌, ℕ, List, length}
use Rattle.std.specs.Io.KnownBytes.{Appends}
use Rattle.r10_playback.specs.Lines.{entry_lines}
use Rattle.r10_playback.proofs.lines.write_entries.Given as goal

-- what is written so far, and then the lines of what is left, are all lines
abbrev pub invariant-loop-entry : goal.invariant-loop-entry
invariant-loop-entry g l =
    (text : List ℕ) × Appends (g.W.Write.contents l.fn.writer) (g.W.Write.contents l.writer) text × (text ++ entry_lines l.cursor.queue ≡ entry_lines l.fn.cursor.queue)

abbrev pub decreases-loop-entry : goal.decreases-loop-entry
decreases-loop-entry g l = length l.cursor.queue
