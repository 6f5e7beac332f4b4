use Rattle.std.proofs.Common.{List, ℕ, ◌++◌, length, refl, sym, rules}
use Rattle.r10_count.specs.Bytes.{le_bytes}
use Rattle.r10_count.specs.Padding.{padded}
use Rattle.r10_uart.specs.Uart.{uart_header}
use Rattle.r10_uart.specs.Entry.{uart_header-fits, uart_header-low}
use Rattle.r10_uart.proofs.Entries.{no_entry}
use Rattle.r10_packet_rules.proofs.Glances.{uart_glimpse}
use Rattle.r10_packet_rules.proofs.glance.UartEntryScannedEntry.glance.Goals as goal

pub returns-in_default-clause-none : goal.returns-in_default-clause-none
returns-in_default-clause-none c = λ e rest fits suits is.
    c.in_default.ensures.none e.count (uart_header e) e.message.bytes rest fits.count (uart_header-fits e.message.parity e.message.sub (length e.message.bytes) fits.sub fits.bytes)
    (sym (uart_header-low e.message.parity e.message.sub (length e.message.bytes) fits.bytes)) is

pub returns-in_default-of-clause-none : goal.returns-in_default-of-clause-none
returns-in_default-of-clause-none c = λ e rest fits suits is.
    let found = c.in-Some.ensures.found in
    let behind : List ℕ = padded c.in-Some.front.text.now ++ c.in-Some.front.rest.now in
    no_entry c.args.bytes.now (le_bytes 4 c.in-Some.front.header ++ behind) behind rest c.in-Some.front.count c.in-Some.front.header e (search rules) (search rules) c.in_default-of.ensures.none found.1 refl fits is

pub returns-clause-found : goal.returns-clause-found
returns-clause-found c =
    let found = c.in-Some.ensures.found in
    let parts = c.in-Some-of.ensures.found in
    uart_glimpse c.args.setting c.args.before c.args.bytes.now c.in-Some.front.text.now c.in-Some.front.rest.now c.in-Some.front.count c.in-Some.front.header c.in-Some-of.header (search rules) parts.0 parts.1 found.0 found.1
