use Rattle.std.proofs.Common.{◌≡◌, ℕ, ◌<◌, ◌==◌, false, drop, get_or}
use Rattle.r10_packetout.specs.Numbers.{next_of}
use Rattle.r10_packetout.specs.declared.numbers.Number.{Number}
use Rattle.r10_packetout.proofs.numbers.next_number.Given as goal

-- none so far has the channel
abbrev pub invariant-loop-i : goal.invariant-loop-i
invariant-loop-i l = record {
  before : (k : ℕ) (d : Number) → k < l.i → (get_or l.numbers k d).channel == l.channel ≡ false;
  next : next_of l.channel l.numbers ≡ next_of l.channel (drop l.i l.numbers);
}
