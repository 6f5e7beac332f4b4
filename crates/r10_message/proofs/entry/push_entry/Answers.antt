use Rattle.std.proofs.Common.{◌≡◌, ◌++◌, ℕ, List, refl, subst}
use Rattle.r10_count.specs.Append.{Appends}
use Rattle.r10_count.specs.Padding.{padded}
use Rattle.r10_message.specs.Message.{message_entry, message_at}
use Rattle.r10_message.proofs.entry.push_entry.Goals as goal

pub returns : goal.returns
returns c =
    let text = c.args.message.now.bytes in
    let e = message_at c.args.count c.args.message.now in
    let spelled : c.stamp-stamp.result ++ c.to_le_bytes.result ++ padded text ≡ message_entry e = rw (c.stamp-stamp.ensures, c.to_le_bytes.ensures, c.bits.ensures, c.len-length.ensures) refl in
    let Adds : List ℕ → Type 0 = λ more. Appends more c.args.out.now c.append_text.new.out c.append_text.result in
    subst Adds spelled c.append_text.ensures
