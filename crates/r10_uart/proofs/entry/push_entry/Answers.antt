use Rattle.std.proofs.Common.{rules, ◌≡◌, ◌+◌, ◌*◌, ◌^◌, ◌++◌, ℕ, List, refl, subst}
use Rattle.r10_count.specs.Bytes.{flag_at}
use Rattle.r10_count.specs.Append.{Appends}
use Rattle.r10_count.specs.Padding.{padded}
use Rattle.r10_uart.specs.Uart.{uart_at, uart_entry, uart_header}
use Rattle.r10_uart.proofs.entry.push_entry.Goals as goal

pub returns : goal.returns
returns c =
    let text = c.args.message.now.bytes in
    let e = uart_at c.args.count c.args.message.now in
    let flag : c.if-message.flag ≡ flag_at 31 c.args.message.now.parity = search rules in
    let header : c.if-message.flag + 2 ^ 16 * c.from.result + c.len.result ≡ uart_header e = rw (flag, c.from.ensures, c.len.ensures) refl in
    let spelled : c.stamp.result ++ c.to_le_bytes.result ++ padded text ≡ uart_entry e = rw (c.stamp.ensures, c.to_le_bytes.ensures, header) refl in
    let Adds : List ℕ → Type 0 = λ more. Appends more c.args.out.now c.append_text.new.out c.append_text.result in
    subst Adds spelled c.append_text.ensures
