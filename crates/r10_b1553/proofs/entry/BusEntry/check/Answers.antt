use Rattle.std.proofs.Common.{◌<◌, ◌^◌, rules}
use Rattle.std.specs.List.{AllByRecursion}
use Rattle.r10_b1553.proofs.Numbers.{all_fit}
use Rattle.r10_b1553.proofs.entry.BusEntry.check.Goals as goal

pub returns-then-self : goal.returns-then-self
returns-then-self c =
    let words = c.as_slice-words.result.now in
    let fit : AllByRecursion (λ w. w < 2 ^ 16) words = all_fit words (λ i. search rules) in
    let fields : AllByRecursion (λ w. w < 2 ^ 16) c.args.self.now.message.words = rw (← c.as_slice-words.ensures) fit in
    search rules
