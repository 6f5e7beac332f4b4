use Rattle.std.proofs.Common.{◌≡◌, take, string_bytes}
use Rattle.r10_text.specs.Replies.{file_lines}
use Rattle.r10_text.proofs.reply.file_lines.Given as goal

-- the lines so far are those of the files so far
abbrev pub invariant-loop-number : goal.invariant-loop-number
invariant-loop-number l = string_bytes l.lines ≡ file_lines 0 (take l.number l.files)
