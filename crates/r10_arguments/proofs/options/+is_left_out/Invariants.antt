use Rattle.std.proofs.Common.{length}
use Rattle.r10_arguments.proofs.options.+is_left_out.Given as goal

-- the options that are left to look at
abbrev pub decreases-is_left_out : goal.decreases-is_left_out
decreases-is_left_out l = length l.given.now
