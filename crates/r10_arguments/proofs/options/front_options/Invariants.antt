use Rattle.std.proofs.Common.{length, map, string_bytes}
use Rattle.r10_arguments.specs.Options.{BeginsWithOptions}
use Rattle.r10_arguments.specs.FoundOptions.{found_words}
use Rattle.r10_arguments.proofs.options.front_options.Given as goal

-- the options so far stand at the front, and what is left after them
abbrev pub invariant-loop-first : goal.invariant-loop-first
invariant-loop-first l = BeginsWithOptions (map (λ k. k.now) l.fn.known) (map string_bytes l.fn.words) (map found_words l.given.items) (map string_bytes l.rest)

abbrev pub decreases-loop-first : goal.decreases-loop-first
decreases-loop-first l = length l.rest
