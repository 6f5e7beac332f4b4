use Rattle.std.proofs.Common.{◌≡◌, ◌^◌, ◌<◌, ◌++◌, length}
use Rattle.std.specs.List.{AllByRecursion}
use Rattle.r10_b1553.specs.Bus.{words_low_first}
use Rattle.r10_b1553.proofs.words.words_of.Given as goal

-- the words so far and the bytes that are left are all bytes
abbrev pub invariant-loop-word : goal.invariant-loop-word
invariant-loop-word l = record {
  bytes : l.fn.bytes ≡ words_low_first l.words.items ++ l.rest;
  fit : AllByRecursion (λ w. w < 2 ^ 16) l.words.items;
}

abbrev pub decreases-loop-word : goal.decreases-loop-word
decreases-loop-word l = length l.rest
