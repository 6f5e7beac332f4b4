use Rattle.std.proofs.Common.{◌≡◌, take, string_bytes}
use Rattle.r10_session.specs.Text.{feed_lines}
use Rattle.r10_session.proofs.text.feeds_text.Given as goal

-- the lines so far are those of the feeds so far
abbrev pub invariant-loop-number : goal.invariant-loop-number
invariant-loop-number l = string_bytes l.lines ≡ feed_lines l.asked 0 (take l.number l.feeds)
