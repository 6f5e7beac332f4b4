use Rattle.std.proofs.Common.{◌≡◌, None, Some, sym, ap, ◌∙◌, refl}
use Rattle.std.specs.List.{position}
use Rattle.r10_machine.specs.Machine.{Lane, is_channel}
use Rattle.r10_control.proofs.FirstsTaken.{takes_at, took_reaches, took_spec, took_without}
use Rattle.r10_control.proofs.Offers.{is_nowhere, none_risen, one_risen}
use Rattle.r10_control.proofs.waiting.take_in.Goals as goal

pub returns-in_default-clause-takes : goal.returns-in_default-clause-takes
returns-in_default-clause-takes c =
    let items = c.args.lanes.now.items in
    let e : position (is_channel c.args.channel) items ≡ None = ap (position (is_channel c.args.channel)) (sym c.as_slice.ensures.value) ∙ sym c.place_of.ensures ∙ c.in_default.is in
    rw (is_nowhere (is_channel c.args.channel) items e) (refl, refl)

pub returns-in_default-clause-risen : goal.returns-in_default-clause-risen
returns-in_default-clause-risen c = none_risen c.args.lanes.now.items

pub returns-clause-takes : goal.returns-clause-takes
returns-clause-takes c =
    let items = c.args.lanes.now.items in
    let old = c.index_mut-lane.result.now in
    let e : position (is_channel c.args.channel) items ≡ Some c.in-Some.at = ap (position (is_channel c.args.channel)) (sym c.as_slice.ensures.value) ∙ sym c.place_of.ensures ∙ c.in-Some.is in
    takes_at c.args.channel items c.in-Some.at old c.take-first.new.self c.take-first.result e c.index_mut-lane.ensures.value c.take-first.ensures.quiet
    (took_without c.take-first.result old c.take-first.new.self c.take-first.ensures.quiet c.take-first.ensures.took)

pub returns-clause-risen : goal.returns-clause-risen
returns-clause-risen c =
    let old = c.index_mut-lane.result.now in
    one_risen c.args.lanes.now.items c.in-Some.at old c.take-first.new.self c.index_mut-lane.ensures.value (took_spec c.take-first.result old c.take-first.new.self c.take-first.ensures.took)
    (took_reaches c.take-first.result old c.take-first.new.self c.take-first.ensures.took)
