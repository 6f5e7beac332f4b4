use Rattle.std.proofs.Common.{rules, arith, ap, length}
use Rattle.r10_b1553.specs.Entry.{words-size}
use Rattle.r10_b1553.proofs.Numbers.{fields_are, entry_read}
use Rattle.r10_b1553.proofs.entry.BusEntryBodyEntry.read.Goals as goal
use Rattle.r10_b1553.proofs.entry.BusEntryBodyEntry.read.Goals.{then-status-via-then-status, then-status-via-else-status+then-size-eq1, then-status-via-else-status+else-size-eq1+then-size-gt-MOST_BYTES, then-status-via-else-status+else-size-eq1+else-size-gt-MOST_BYTES+then-rest-from}

pub returns-then-status-clause-none : goal.returns-then-status-clause-none
returns-then-status-clause-none c = λ e fits is.
    let are = fields_are c.args.bytes.now c.in-Some.rest.now c.in-Some-split_fields.rest.now c.in-Some.count c.in-Some-split_fields.status c.in-Some-split_fields.gap c.in-Some-split_fields.size e
    (search rules) (search rules) (search rules) (search rules) (search rules) (search rules) fits is in
    elim c.then-status.branch [
      | then-status-via-then-status w ↦ w.if-status.true (rw are.0 fits.status)
      | then-status-via-else-status+then-size-eq1 w ↦ omega (arith, w.if-size-eq1.true, are.1)
      | then-status-via-else-status+else-size-eq1+then-size-gt-MOST_BYTES w ↦ omega (arith, w.if-size-gt-MOST_BYTES.true, are.1, fits.few)
      | then-status-via-else-status+else-size-eq1+else-size-gt-MOST_BYTES+then-rest-from w ↦ omega (arith, w.if-rest-from.true, w.from.ensures, are.1, ap length are.2, words-size e.message.words)
    ]

pub returns-clause-found : goal.returns-clause-found
returns-clause-found c = rw c.of.ensures (entry_read c.args.bytes.now c.in-Some.rest.now c.in-Some-split_fields.rest.now c.in_ok-words.words.items _ c.in-Some-split_fields.status c.in-Some-split_fields.gap c.in-Some-split_fields.size
    (search rules) c.if-status.false (search rules) (search rules) (search rules) (search rules) c.in_ok-words.ensures.bytes c.in_ok-words.ensures.fit (omega (arith, c.if-rest-from.false, c.from.ensures)))
