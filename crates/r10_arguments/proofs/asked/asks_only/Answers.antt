use Rattle.std.proofs.Common.{◌≡◌, string_bytes}
use Rattle.std.proofs.lemmas.Slice.Eq.{bytes_eq-Decides}
use Rattle.std.specs.Bool.{Decides}
use Rattle.r10_arguments.proofs.Words.{only_word}
use Rattle.r10_arguments.proofs.asked.asks_only.Goals as goal

pub returns-in-len2 : goal.returns-in-len2
returns-in-len2 c =
    let decides : Decides c.eq.result (string_bytes c.word-item.result ≡ c.args.command.now) =
    rw (c.eq.ensures, c.as_str.ensures.value) (bytes_eq-Decides (string_bytes c.word-item.result) c.args.command.now) in
    only_word c.args.words.now c.word-item.result c.args.command.now c.eq.result c.word-item.is c.in-len2.len_at_least c.in-len2.len_below decides
