use Rattle.std.proofs.Common.{◌≡◌, take, string_bytes}
use Rattle.r10_session.specs.Text.{step_lines}
use Rattle.r10_session.proofs.text.steps_text.Given as goal

-- the lines so far
abbrev pub invariant-loop-place : goal.invariant-loop-place
invariant-loop-place l = string_bytes l.lines ≡ step_lines 0 (take l.place l.replies)
