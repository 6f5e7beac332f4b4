use Rattle.std.proofs.Common.{◌≡◌, ◌++◌, length}
use Rattle.r10_text.specs.Line.{words_high_first}
use Rattle.r10_script.proofs.table.words_of.Given as goal

-- the words so far and the bytes that are left are all bytes
abbrev pub invariant-loop-rest : goal.invariant-loop-rest
invariant-loop-rest l = l.fn.bytes ≡ words_high_first l.words.items ++ l.rest

abbrev pub decreases-loop-rest : goal.decreases-loop-rest
decreases-loop-rest l = length l.rest
