use Rattle.std.proofs.Common.{◌≡◌, refl}
use Rattle.r10_discrete.proofs.Bodies.{is_body, told_body, told_is, foreign_is, is_foreign}
use Rattle.r10_discrete.proofs.body.DiscreteBody.decode.Goals as goal

pub returns-in-Strict-clause-found : goal.returns-in-Strict-clause-found
returns-in-Strict-clause-found c =
    let found = rw c.in-Strict.is at c.in_ok-entries.ensures.found in is_body c.bits_in-bits.result c.in-Strict.entries c.args.body.now found

pub returns-in-Strict-clause-only : goal.returns-in-Strict-clause-only
returns-in-Strict-clause-only c = λ bits entries is.
    let only = c.in_ok-entries.ensures.only entries (told_body c.bits_in-bits.result bits entries c.args.body.now c.bits_in-bits.ensures.value is) in
    let read = c.in-Strict.is in
    let same : c.in-Strict.entries ≡ entries = cc in
    rw (same, told_is c.bits_in-bits.result bits entries c.args.body.now c.bits_in-bits.ensures.value is) refl

pub returns-in-Lenient-clause-found : goal.returns-in-Lenient-clause-found
returns-in-Lenient-clause-found c =
    let found = rw c.in-Lenient.is at c.in_ok-entries.ensures.found in
    (foreign_is c.args.body.now found.0, λ said is. found.1 said.entries (told_body c.bits_in-bits.result said.bits said.entries c.args.body.now c.bits_in-bits.ensures.value is))

pub returns-in-Lenient-clause-only : goal.returns-in-Lenient-clause-only
returns-in-Lenient-clause-only c = λ bits entries is.
    let only = c.in_ok-entries.ensures.only entries (told_body c.bits_in-bits.result bits entries c.args.body.now c.bits_in-bits.ensures.value is) in
    let read = c.in-Lenient.is in absurd cc

pub returns-in-Neither-clause-found : goal.returns-in-Neither-clause-found
returns-in-Neither-clause-found c =
    let found = rw c.in-Neither.is at c.in_ok-entries.ensures.found in λ foreign. found (is_foreign c.args.body.now foreign)

pub returns-in-Neither-clause-only : goal.returns-in-Neither-clause-only
returns-in-Neither-clause-only c = λ bits entries is.
    let only = c.in_ok-entries.ensures.only entries (told_body c.bits_in-bits.result bits entries c.args.body.now c.bits_in-bits.ensures.value is) in
    let read = c.in-Neither.is in absurd cc
