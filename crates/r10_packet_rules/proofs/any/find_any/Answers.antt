use Rattle.r10_packet_rules.proofs.Once.{own_foreign}
use Rattle.r10_packet_rules.proofs.any.find_any.Goals as goal

pub returns-in-Strict-clause-found : goal.returns-in-Strict-clause-found
returns-in-Strict-clause-found c = λ header body sound checked.
    let least = c.is_least.ensures header sound checked in
    let finds = rw c.in-Strict.is at c.find.ensures in
    finds header body sound (λ r. (checked, least.0 r), λ both. least.1 both.1)

pub returns-in-Strict-clause-foreign : goal.returns-in-Strict-clause-foreign
returns-in-Strict-clause-foreign c = λ header body sound checked.
    let least = c.is_least.ensures header sound checked in
    let finds = rw c.in-Strict.is at c.find.ensures in
    let found = finds header body sound (λ r. (checked, least.0 r), λ both. least.1 both.1) in
    own_foreign c.args.bytes.now c.args.body.now c.args.header.now found.0 header body found.1

pub returns-else-not-is_foreign_body-clause-found :
    goal.returns-else-not-is_foreign_body-clause-found
returns-else-not-is_foreign_body-clause-found c = λ header body sound checked.
    let least = c.is_least.ensures header sound checked in
    let finds = rw c.in-Breaks.is at c.find.ensures in
    finds header body sound (λ r. (checked, least.0 r), λ both. least.1 both.1)
