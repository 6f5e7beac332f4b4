use Rattle.std.proofs.Common.{rules, ◌≡◌, ◌++◌, ◌*◌, [], length, ap, ◌∙◌, append_assoc, refl}
use Rattle.r10_count.specs.Bytes.{le_bytes}
use Rattle.r10_count.specs.Count.{stamp}
use Rattle.r10_b1553.specs.Bus.{words_low_first}
use Rattle.r10_b1553.proofs.entry.push_entry.Goals as goal

pub returns : goal.returns
returns c =
    let words = c.as_slice-words.result.now in
    let front = stamp c.args.count ++ le_bytes 2 c.args.message.now.status ++ le_bytes 2 c.args.message.now.gap ++ le_bytes 2 (2 * length words) in
    let parts : c.stamp-stamp.result ++ (c.to_le_bytes-status.result ++ (c.to_le_bytes-gap.result ++ (c.to_le_bytes-length.result ++ []))) ≡ front =
    rw (c.stamp-stamp.ensures, c.to_le_bytes-status.ensures, c.to_le_bytes-gap.ensures, c.to_le_bytes-length.ensures) refl in
    let began : c.append_all.new.out.items ≡ c.args.out.now.items ++ front = c.in_ok-append_all.ensures.written ∙ ap (λ t. c.args.out.now.items ++ t) parts in
    record {
      written = rw (← c.as_slice-words.ensures) (c.in_default.ensures.written ∙ ap (λ t. t ++ words_low_first words) began ∙ append_assoc c.args.out.now.items front (words_low_first words));
      kept = tt;
      full = tt;
      capacity = search rules;
    }
