use Rattle.std.proofs.Common.{◌≡◌, None, Some, sym, ap, ◌∙◌, refl}
use Rattle.std.specs.List.{position}
use Rattle.r10_machine.specs.Machine.{Lane, is_channel}
use Rattle.r10_control.proofs.Offers.{is_nowhere, loses_at, loses_rise, none_risen, one_risen}
use Rattle.r10_control.proofs.offering.lose_in.Goals as goal

pub returns-in_default-clause-loses : goal.returns-in_default-clause-loses
returns-in_default-clause-loses c =
    let items = c.args.lanes.now.items in
    let e : position (is_channel c.args.channel) items ≡ None = ap (position (is_channel c.args.channel)) (sym c.as_slice.ensures.value) ∙ sym c.place_of.ensures ∙ c.in_default.is in
    rw (is_nowhere (is_channel c.args.channel) items e) (refl, refl)

pub returns-in_default-clause-risen : goal.returns-in_default-clause-risen
returns-in_default-clause-risen c = none_risen c.args.lanes.now.items

pub returns-clause-loses : goal.returns-clause-loses
returns-clause-loses c =
    let items = c.args.lanes.now.items in
    let e : position (is_channel c.args.channel) items ≡ Some c.in-Some.at = ap (position (is_channel c.args.channel)) (sym c.as_slice.ensures.value) ∙ sym c.place_of.ensures ∙ c.in-Some.is in
    loses_at c.args.channel items c.in-Some.at c.index_mut-lane.result.now c.lose.new.self c.args.lost e c.index_mut-lane.ensures.value c.lose.ensures

pub returns-clause-risen : goal.returns-clause-risen
returns-clause-risen c =
    let old = c.index_mut-lane.result.now in
    one_risen c.args.lanes.now.items c.in-Some.at old c.lose.new.self c.index_mut-lane.ensures.value (ap (λ (l : Lane). l.spec) c.lose.ensures) (loses_rise old c.lose.new.self c.args.lost c.lose.ensures)
