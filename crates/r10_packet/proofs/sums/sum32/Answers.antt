use Rattle.std.proofs.Common.{◌≡◌, arith, ap}
use Rattle.std.proofs.lemmas.List.{nil_from_length}
use Rattle.std.specs.List.{sum}
use Rattle.r10_packet.specs.Sums.{words32}
use Rattle.r10_packet.proofs.Words.{sum32_is, last32_1, last32_2, last32_3}
use Rattle.r10_packet.proofs.sums.sum32.Goals as goal

pub returns-in-len1 : goal.returns-in-len1
returns-in-len1 c =
    let all = sum32_is c.args.bytes.now c.as_chunks.result.0.now c.as_chunks.result.1.now c.loop-word.total c.loop-word.word-index c.as_chunks.ensures.front c.as_chunks.ensures.back c.loop-word.invariant (omega arith) in
    omega (arith, all, last32_1 c.as_chunks.result.1.now (omega arith))

pub returns-in-len2 : goal.returns-in-len2
returns-in-len2 c =
    let all = sum32_is c.args.bytes.now c.as_chunks.result.0.now c.as_chunks.result.1.now c.loop-word.total c.loop-word.word-index c.as_chunks.ensures.front c.as_chunks.ensures.back c.loop-word.invariant (omega arith) in
    omega (arith, all, last32_2 c.as_chunks.result.1.now (omega arith))

pub returns-in-len3 : goal.returns-in-len3
returns-in-len3 c =
    let all = sum32_is c.args.bytes.now c.as_chunks.result.0.now c.as_chunks.result.1.now c.loop-word.total c.loop-word.word-index c.as_chunks.ensures.front c.as_chunks.ensures.back c.loop-word.invariant (omega arith) in
    omega (arith, all, last32_3 c.as_chunks.result.1.now (omega arith))

pub returns-in_default : goal.returns-in_default
returns-in_default c =
    let none = nil_from_length c.as_chunks.result.1.now (omega arith) in
    let all = sum32_is c.args.bytes.now c.as_chunks.result.0.now c.as_chunks.result.1.now c.loop-word.total c.loop-word.word-index c.as_chunks.ensures.front c.as_chunks.ensures.back c.loop-word.invariant (omega arith) in
    let nothing : sum (words32 c.as_chunks.result.1.now) ≡ 0 = ap (λ ys. sum (words32 ys)) none in
    omega (arith, all, nothing)
