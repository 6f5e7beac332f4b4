use Rattle.std.proofs.Common.{rules, ◌^◌, ◌<◌}
use Rattle.std.specs.List.{AllByRecursion}
use Rattle.r10_b1553.proofs.Numbers.{all_fit}
use Rattle.r10_b1553.proofs.message.BusMessage.body_alone.Goals as goal

pub returns-in_err-body-clause-fits : goal.returns-in_err-body-clause-fits
returns-in_err-body-clause-fits c =
    let fit : AllByRecursion (λ w. w < 2 ^ 16) c.as_slice-words.result.now = all_fit c.as_slice-words.result.now (λ i. search rules) in
    let words : AllByRecursion (λ w. w < 2 ^ 16) c.args.self.now.words = rw (← c.as_slice-words.ensures) fit in
    search rules

pub returns-in_err-extend_from_slice-clause-fits : goal.returns-in_err-extend_from_slice-clause-fits
returns-in_err-extend_from_slice-clause-fits c =
    let fit : AllByRecursion (λ w. w < 2 ^ 16) c.as_slice-words.result.now = all_fit c.as_slice-words.result.now (λ i. search rules) in
    let words : AllByRecursion (λ w. w < 2 ^ 16) c.args.self.now.words = rw (← c.as_slice-words.ensures) fit in
    search rules

pub returns-in_err-push_entry-clause-fits : goal.returns-in_err-push_entry-clause-fits
returns-in_err-push_entry-clause-fits c =
    let fit : AllByRecursion (λ w. w < 2 ^ 16) c.as_slice-words.result.now = all_fit c.as_slice-words.result.now (λ i. search rules) in
    let words : AllByRecursion (λ w. w < 2 ^ 16) c.args.self.now.words = rw (← c.as_slice-words.ensures) fit in
    search rules

pub returns-clause-fits : goal.returns-clause-fits
returns-clause-fits c =
    let fit : AllByRecursion (λ w. w < 2 ^ 16) c.as_slice-words.result.now = all_fit c.as_slice-words.result.now (λ i. search rules) in
    let words : AllByRecursion (λ w. w < 2 ^ 16) c.args.self.now.words = rw (← c.as_slice-words.ensures) fit in
    search rules
