use Rattle.std.proofs.Common.{◌≡◌, ℕ, None, Some, sym, ap, ◌∙◌}
use Rattle.std.specs.List.{position}
use Rattle.r10_calls.specs.Accounts.{is_counted_on, one_more}
use Rattle.r10_calls.specs.declared.accounts.Accepted.{Accepted}
use Rattle.r10_calls.proofs.Counting.{changed_there, none_there}
use Rattle.r10_calls.proofs.accounts.count_accepted.Goals as goal

pub returns-in_default : goal.returns-in_default
returns-in_default c =
    let items = c.args.accepted.now.items in
    let e : position (is_counted_on c.args.channel) items ≡ None = ap (position (is_counted_on c.args.channel)) (sym c.as_slice.ensures.value) ∙ sym c.place_of.ensures ∙ c.in_default.is in
    rw c.if-answer-ne0.false (none_there c.args.channel one_more items e)

pub returns : goal.returns
returns c =
    let items = c.args.accepted.now.items in
    let one = c.index_mut-one.result.now in
    let e : position (is_counted_on c.args.channel) items ≡ Some c.in-Some.at = ap (position (is_counted_on c.args.channel)) (sym c.as_slice.ensures.value) ∙ sym c.place_of.ensures ∙ c.in-Some.is in
    let more : Accepted = record one { messages = c.saturating_add-one.result } in
    rw c.if-answer-ne0.false (changed_there c.args.channel one_more items c.in-Some.at one more e c.index_mut-one.ensures.value (ap (λ (n : ℕ). record one { messages = n }) c.saturating_add-one.ensures))
