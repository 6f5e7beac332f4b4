use Rattle.std.proofs.Common.{◌≡◌, arith, ap}
use Rattle.std.proofs.lemmas.List.{nil_from_length}
use Rattle.std.specs.List.{sum}
use Rattle.r10_packet.specs.Sums.{words16}
use Rattle.r10_packet.proofs.Words.{sum16_is, last16_1}
use Rattle.r10_packet.proofs.sums.sum16.Goals as goal

pub returns-in-len1 : goal.returns-in-len1
returns-in-len1 c =
    let all = sum16_is c.args.bytes.now c.as_chunks.result.0.now c.as_chunks.result.1.now c.loop-word.total c.loop-word.word-index c.as_chunks.ensures.front c.as_chunks.ensures.back c.loop-word.invariant (omega arith) in
    omega (arith, all, last16_1 c.as_chunks.result.1.now (omega arith))

pub returns-in_default : goal.returns-in_default
returns-in_default c =
    let none = nil_from_length c.as_chunks.result.1.now (omega arith) in
    let all = sum16_is c.args.bytes.now c.as_chunks.result.0.now c.as_chunks.result.1.now c.loop-word.total c.loop-word.word-index c.as_chunks.ensures.front c.as_chunks.ensures.back c.loop-word.invariant (omega arith) in
    let nothing : sum (words16 c.as_chunks.result.1.now) ≡ 0 = ap (λ ys. sum (words16 ys)) none in
    omega (arith, all, nothing)
