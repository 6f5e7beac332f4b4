use Rattle.std.proofs.Common.{◌≡◌, ◌+◌, take}
use Rattle.r10_command.specs.Lines.{WritesLines}
use Rattle.r10_command.proofs.play.write_lines.Given as goal

-- the lines so far are written
abbrev pub invariant-loop-reply : goal.invariant-loop-reply
invariant-loop-reply g l = record {
  number : l.number ≡ l.done + l.reply-index;
  lines : WritesLines (g.W.Write.contents l.fn.writer) (g.W.Write.contents l.writer) l.done (take l.reply-index l.replies);
}
