use Rattle.std.proofs.Common.{sym, subst, arith}
use Rattle.r10_medium.specs.Memory.{HoldsBytes}
use Rattle.r10_medium.proofs.Bytes.{whole_cuts}
use Rattle.r10_medium.proofs.memory.Memory.of_image.Goals as goal

pub of_blocks-requires : goal.of_blocks-requires
of_blocks-requires c = whole_cuts c.args.bytes.now _ (omega arith) (λ k lt. c.loop-n.invariant.each k (omega arith))

pub returns : goal.returns
returns c = subst (HoldsBytes c.args.bytes.now) (sym c.of_blocks.ensures) (record {
  size = omega arith;
  each = λ k lt. c.loop-n.invariant.each k (omega arith);
})
