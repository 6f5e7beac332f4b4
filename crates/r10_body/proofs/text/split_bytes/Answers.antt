use Rattle.std.proofs.Common.{arith}
use Rattle.r10_body.proofs.Texts.{even_behind, padded_long}
use Rattle.r10_body.proofs.text.split_bytes.Goals as goal

pub returns-then-bytes-size-clause-none : goal.returns-then-bytes-size-clause-none
returns-then-bytes-size-clause-none c = λ text rest n is. omega (arith, c.if-bytes-size.true, padded_long c.args.bytes.now text rest c.args.size n is)

pub returns-then-size-eq0-clause-found : goal.returns-then-size-eq0-clause-found
returns-then-size-eq0-clause-found c = (
  c.split_at.ensures.front_len,
  even_behind c.args.bytes.now c.split_at.result.0.now c.split_at.result.1.now c.args.size c.split_at.ensures.by_index.0 c.split_at.ensures.front_len c.if-size-eq0.true,
)
