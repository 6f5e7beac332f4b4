use Rattle.std.proofs.Common.{rules, ◌≡◌, codes, string_bytes}
use Rattle.std.specs.List.{Contains}
use Rattle.r10_arguments.specs.Words.{commands}
use Rattle.r10_arguments.proofs.Words.{help_alone, help_of}
use Rattle.r10_arguments.proofs.asked.asks_help_word.Goals as goal

pub returns-in-len2 : goal.returns-in-len2
returns-in-len2 c = λ yes.
    let says : string_bytes c.word-item.result ≡ codes "help" = search rules in
    help_alone c.args.words.now c.word-item.result c.word-item.is c.in-len2.len_at_least c.in-len2.len_below says

pub returns-then-eq : goal.returns-then-eq
returns-then-eq c = λ yes.
    let says : string_bytes c.word-item-then-words-lt4.result ≡ codes "help" = search rules in
    let one : Contains commands (string_bytes c.command-item.result) = rw c.as_str-then-eq.ensures.value at c.is_one_of.ensures yes in
    help_of c.args.words.now c.word-item-then-words-lt4.result c.command-item.result c.word-item-then-words-lt4.is c.command-item.is c.in-len3.len_at_least c.in-len3.len_below says one
