use Rattle.std.proofs.Common.{arith, ◌∙◌, ap, length}
use Rattle.r10_medium.specs.Disk.{Image}
use Rattle.r10_medium.specs.Memory.{length-with_zeros}
use Rattle.r10_medium.proofs.Zeros.{all_made}
use Rattle.r10_medium.proofs.memory.Memory.into_blocks.Goals as goal

pub returns : goal.returns
returns c =
    let old = c.args.self in
    let new = c.make.new.self in
    all_made new.size new.front.items
    (omega (arith, c.make.ensures.made, ap (λ (l : Image). length l) c.make.ensures.same, length-with_zeros old.size old.front.items old.within, length-with_zeros new.size new.front.items new.within))
    ∙ c.make.ensures.same
