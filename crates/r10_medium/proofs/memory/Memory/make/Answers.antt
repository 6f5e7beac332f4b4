use Rattle.std.proofs.Common.{◌-◌, ◌++◌, Bool, take, replicate, is_ok, ap, ◌∙◌, if◌then◌else◌, arith, ℕ}
use Rattle.r10_medium.specs.Memory.{length-with_zeros, zeros}
use Rattle.r10_medium.proofs.Zeros.{more_made}
use Rattle.r10_medium.proofs.memory.Memory.make.Goals as goal

pub returns-then-len-blocks-clause-same : goal.returns-then-len-blocks-clause-same
returns-then-len-blocks-clause-same c =
    let m = c.args.self.now in
    let front = m.front.items in
    more_made m.size c.args.blocks front c.resize.new.self.items (omega arith)
    (omega (arith, c.requires, length-with_zeros m.size front m.within))
    (c.resize.ensures.items
    ∙ ap (λ (b : Bool). if b then take c.args.blocks front ++ replicate (c.args.blocks - m.front.len) zeros else front)
    (c.resize.ensures.succeeds (omega (arith, c.requires, length-with_zeros m.size front m.within, m.room)))
    ∙ ap (λ (k : ℕ). take c.args.blocks front ++ replicate (c.args.blocks - k) zeros) m.front.ok.0)
