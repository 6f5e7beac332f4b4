use Rattle.std.proofs.Common.{◌≡◌, take}
use Rattle.r10_text.specs.Line.{words_high_first}
use Rattle.r10_text.proofs.line.words_text.Given as goal

-- the bytes so far are those of the words so far
abbrev pub invariant-loop-word : goal.invariant-loop-word
invariant-loop-word l = l.bytes.items ≡ words_high_first (take l.word-index l.words)
