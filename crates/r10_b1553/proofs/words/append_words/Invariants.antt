use Rattle.std.proofs.Common.{◌≡◌, ◌≤◌, ◌++◌, take, drop, length}
use Rattle.r10_b1553.specs.Bus.{words_low_first}
use Rattle.r10_b1553.proofs.words.append_words.Given as goal

-- what is written and the words that are left are all words, after what was there
abbrev pub invariant-loop-word : goal.invariant-loop-word
invariant-loop-word l = record {
  written : l.out.items ++ words_low_first (drop l.word-index l.words) ≡ l.fn.out.items ++ words_low_first l.words;
  kept : take (length l.fn.out.items) l.out.items ≡ l.fn.out.items;
  longer : length l.fn.out.items ≤ length l.out.items;
  capacity : l.fn.out.cap ≤ l.out.cap;
}
