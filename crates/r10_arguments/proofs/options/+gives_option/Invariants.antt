use Rattle.std.proofs.Common.{length}
use Rattle.r10_arguments.proofs.options.+gives_option.Given as goal

-- the options that are left to look at
abbrev pub decreases-gives_option : goal.decreases-gives_option
decreases-gives_option l = length l.given.now
