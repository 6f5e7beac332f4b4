use Rattle.std.proofs.Common.{rules, ◌≡◌, length, string_bytes}
use Rattle.r10_arguments.proofs.Words.{all_behind, only_these}
use Rattle.r10_arguments.proofs.asked.only_options.Goals as goal

pub returns-then-is_empty : goal.returns-then-is_empty
returns-then-is_empty c =
    let says : string_bytes c.word-item.result ≡ c.args.command.now = search rules in
    let none : length c.in_ok-front.front.rest.now ≡ 0 = search rules in
    only_these c.args.words.now c.in_ok-front.front.rest.now c.word-item.result c.args.command.now _ _ c.word-item.is c.in-len2-up.len_at_least says (rw (all_behind 2 c.args.words.now) at c.in_ok-front.ensures) none
