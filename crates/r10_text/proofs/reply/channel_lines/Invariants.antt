use Rattle.std.proofs.Common.{◌≡◌, take, string_bytes}
use Rattle.std.specs.List.{flat_map}
use Rattle.r10_text.specs.Replies.{channel_line}
use Rattle.r10_text.proofs.reply.channel_lines.Given as goal

-- the lines so far are those of the channels so far
abbrev pub invariant-loop-channel : goal.invariant-loop-channel
invariant-loop-channel l = string_bytes l.lines ≡ flat_map channel_line (take l.channel-index l.channels)
