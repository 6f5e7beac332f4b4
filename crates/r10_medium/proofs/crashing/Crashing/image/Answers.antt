use Rattle.std.proofs.Common.{sym, subst, ◌∙◌}
use Rattle.r10_medium.specs.Disk.{Image, MayLeave}
use Rattle.r10_medium.specs.CrashingParts.{crashing_disk}
use Rattle.r10_medium.proofs.ChoicesAllowed.{left_allowed}
use Rattle.r10_medium.proofs.crashing.Crashing.image.Goals as goal

pub returns-clause-may_leave : goal.returns-clause-may_leave
returns-clause-may_leave c =
    subst (λ (l : Image). MayLeave (crashing_disk c.args.self.now) l)
    (sym (c.of_blocks.ensures ∙ c.in_ok-blocks.ensures.left)) (left_allowed c.args.choice c.args.self.now)
