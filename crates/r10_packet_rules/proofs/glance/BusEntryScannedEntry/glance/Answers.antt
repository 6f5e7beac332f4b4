use Rattle.std.proofs.Common.{◌*◌, length, arith, rules}
use Rattle.r10_b1553.specs.Bus.{words_low_first}
use Rattle.r10_b1553.specs.Entry.{status-fits, words-size}
use Rattle.r10_packet_rules.proofs.Buses.{bus_glimpse, bus_told}
use Rattle.r10_packet_rules.proofs.glance.BusEntryScannedEntry.glance.Goals as goal

pub returns-in_default-clause-none : goal.returns-in_default-clause-none
returns-in_default-clause-none c = λ e rest fits suits is.
    let few = fits.few in
    c.in_default.ensures.none e.count e.message.status e.message.gap (2 * length e.message.words) (words_low_first e.message.words) rest fits.count (status-fits e.message.status fits.status) fits.gap (omega arith) (words-size e.message.words) is

pub returns-then-front-clause-none : goal.returns-then-front-clause-none
returns-then-front-clause-none c = λ e rest fits suits is.
    let found = c.in-Some.ensures.found in
    let reported = bus_told c.args.bytes.now found.0 c.in-Some.front.rest.now rest c.in-Some.front.count c.in-Some.front.status c.in-Some.front.gap c.in-Some.front.size e
    (search rules) (search rules) (search rules) (search rules) found.3 fits is in
    c.if-front.true (rw reported.0 fits.status)

pub returns-then-front-eq1-clause-none : goal.returns-then-front-eq1-clause-none
returns-then-front-eq1-clause-none c = λ e rest fits suits is.
    let found = c.in-Some.ensures.found in
    let reported = bus_told c.args.bytes.now found.0 c.in-Some.front.rest.now rest c.in-Some.front.count c.in-Some.front.status c.in-Some.front.gap c.in-Some.front.size e
    (search rules) (search rules) (search rules) (search rules) found.3 fits is in
    omega (arith, c.if-front-eq1.true, reported.1)

pub returns-then-front-gt-MOST_BYTES-clause-none : goal.returns-then-front-gt-MOST_BYTES-clause-none
returns-then-front-gt-MOST_BYTES-clause-none c = λ e rest fits suits is.
    let found = c.in-Some.ensures.found in
    let reported = bus_told c.args.bytes.now found.0 c.in-Some.front.rest.now rest c.in-Some.front.count c.in-Some.front.status c.in-Some.front.gap c.in-Some.front.size e
    (search rules) (search rules) (search rules) (search rules) found.3 fits is in
    omega (arith, c.if-front-gt-MOST_BYTES.true, reported.1, fits.few)

pub returns-clause-found : goal.returns-clause-found
returns-clause-found c =
    let found = c.in-Some.ensures.found in
    rw c.from.ensures (bus_glimpse c.args.setting c.args.before c.args.bytes.now found.0 c.in-Some.front.rest.now c.in-Some.front.count c.in-Some.front.status c.in-Some.front.gap c.in-Some.front.size
    (search rules) c.if-front.false (search rules) (search rules) (search rules) found.1 found.2 found.3)
