use Rattle.std.proofs.Common.{◌≡◌, refl}
use Rattle.r10_indexbody.proofs.Roots.{body_is, is_body, foreign_is, is_foreign}
use Rattle.r10_indexbody.proofs.root.RootBody.decode.Goals as goal

pub returns-in-Strict-clause-found : goal.returns-in-Strict-clause-found
returns-in-Strict-clause-found c =
    let found = rw c.in-Strict.is at c.in_ok-entries.ensures.found in is_body c.in-Strict.entries c.args.body.now found

pub returns-in-Strict-clause-only : goal.returns-in-Strict-clause-only
returns-in-Strict-clause-only c = λ entries is.
    let only = c.in_ok-entries.ensures.only entries (body_is entries c.args.body.now is) in
    let read = c.in-Strict.is in
    let same : c.in-Strict.entries ≡ entries = cc in
    rw same refl

pub returns-in-Lenient-clause-found : goal.returns-in-Lenient-clause-found
returns-in-Lenient-clause-found c =
    let found = rw c.in-Lenient.is at c.in_ok-entries.ensures.found in
    (foreign_is c.args.body.now found.0, λ said is. found.1 said.entries (body_is said.entries c.args.body.now is))

pub returns-in-Lenient-clause-only : goal.returns-in-Lenient-clause-only
returns-in-Lenient-clause-only c = λ entries is.
    let only = c.in_ok-entries.ensures.only entries (body_is entries c.args.body.now is) in
    let read = c.in-Lenient.is in absurd cc

pub returns-in-Neither-clause-found : goal.returns-in-Neither-clause-found
returns-in-Neither-clause-found c =
    let found = rw c.in-Neither.is at c.in_ok-entries.ensures.found in λ foreign. found (is_foreign c.args.body.now foreign)

pub returns-in-Neither-clause-only : goal.returns-in-Neither-clause-only
returns-in-Neither-clause-only c = λ entries is.
    let only = c.in_ok-entries.ensures.only entries (body_is entries c.args.body.now is) in
    let read = c.in-Neither.is in absurd cc
