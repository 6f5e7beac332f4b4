use Rattle.std.proofs.Common.{◌≡◌, take, string_bytes}
use Rattle.r10_session.specs.Text.{reader_lines}
use Rattle.r10_session.proofs.text.readers_text.Given as goal

-- the lines so far
abbrev pub invariant-loop-number : goal.invariant-loop-number
invariant-loop-number l = string_bytes l.lines ≡ reader_lines 0 (take l.number l.readers)
