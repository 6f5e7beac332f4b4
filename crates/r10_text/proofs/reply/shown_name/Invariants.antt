use Rattle.std.proofs.Common.{◌≡◌, map, take, string_bytes}
use Rattle.r10_count.specs.Printed.{shown_byte}
use Rattle.r10_text.proofs.reply.shown_name.Given as goal

-- the text so far is that of the bytes so far
abbrev pub invariant-loop-byte : goal.invariant-loop-byte
invariant-loop-byte l = string_bytes l.text ≡ map shown_byte (take l.byte-index l.name)
