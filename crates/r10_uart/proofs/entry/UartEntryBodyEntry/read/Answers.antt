use Rattle.std.proofs.Common.{◌≡◌, ◌++◌, List, [], ℕ, sym, ◌∙◌, rules}
use Rattle.std.proofs.lemmas.List.{append-nil}
use Rattle.r10_uart.specs.Uart.{uart_entry}
use Rattle.r10_uart.proofs.Entries.{entry_read, no_entry}
use Rattle.r10_uart.proofs.entry.UartEntryBodyEntry.read.Goals as goal

pub returns-in_default-of-clause-none : goal.returns-in_default-of-clause-none
returns-in_default-of-clause-none c = λ e fits is.
    no_entry c.args.bytes.now c.in-Some.rest.now c.in-Some-split_u32.rest.now [] c.in-Some.count c.in-Some-split_u32.header e (search rules) (search rules) c.in_default-of.ensures.none
    (search rules) (search rules) fits (is ∙ sym (append-nil (uart_entry e)))

pub returns-clause-found : goal.returns-clause-found
returns-clause-found c = rw c.in_ok-copy_of.ensures.same (entry_read c.args.bytes.now c.in-Some.rest.now c.in-Some-split_u32.rest.now c.in-Some-strip_padding.text.now _ c.in-Some-split_u32.header c.in-Some-of.header
    (search rules) c.in-Some-of.ensures.found.0 c.in-Some-of.ensures.found.1 (search rules) (search rules) (search rules) (search rules))
