use Rattle.std.proofs.Common.{◌≡◌, ◌+◌, ◌≤◌, length, take}
use Rattle.std.specs.List.{suffix_len}
use Rattle.r10_dirblock.specs.Texts.{is_padding}
use Rattle.r10_dirblock.proofs.text.strip.Given as goal

abbrev pub invariant-loop-end : goal.invariant-loop-end
invariant-loop-end l = record {
  within : l.end ≤ length l.text;
  rest : l.end + suffix_len is_padding l.text ≡ length l.text + suffix_len is_padding (take l.end l.text);
}

abbrev pub decreases-loop-end : goal.decreases-loop-end
decreases-loop-end l = l.end
