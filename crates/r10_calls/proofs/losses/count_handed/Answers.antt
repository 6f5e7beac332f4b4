use Rattle.std.proofs.Common.{◌≡◌, ℕ, None, Some, sym, ap, ◌∙◌}
use Rattle.std.specs.List.{position}
use Rattle.r10_calls.specs.Accounts.{is_counted_on}
use Rattle.r10_calls.specs.Losses.{handing}
use Rattle.r10_calls.proofs.Counting.{changed_there, none_there}
use Rattle.r10_calls.proofs.losses.count_handed.Goals as goal

pub returns-in_default : goal.returns-in_default
returns-in_default c =
    let items = c.args.accepted.now.items in
    let e : position (is_counted_on c.args.channel) items ≡ None = ap (position (is_counted_on c.args.channel)) (sym c.as_slice.ensures.value) ∙ sym c.place_of.ensures ∙ c.in_default.is in
    none_there c.args.channel (handing c.args.lost) items e

pub returns : goal.returns
returns c =
    let items = c.args.accepted.now.items in
    let one = c.index_mut-one.result.now in
    let e : position (is_counted_on c.args.channel) items ≡ Some c.in-Some.at = ap (position (is_counted_on c.args.channel)) (sym c.as_slice.ensures.value) ∙ sym c.place_of.ensures ∙ c.in-Some.is in
    changed_there c.args.channel (handing c.args.lost) items c.in-Some.at one _ e c.index_mut-one.ensures.value
    (ap (λ (n : ℕ). record one { handed = n; handed_lost = c.saturating_add-one-2.result }) c.saturating_add-one.ensures
    ∙ ap (λ (n : ℕ). record (handing c.args.lost one) { handed_lost = n }) c.saturating_add-one-2.ensures)
