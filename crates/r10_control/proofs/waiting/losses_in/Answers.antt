use Rattle.std.proofs.Common.{Option, Some, sym, ap, ◌∙◌}
use Rattle.std.specs.Prelude.{option_map}
use Rattle.r10_lane.specs.Losing.{losses_of}
use Rattle.r10_lane.specs.declared.losses.Losses.{Losses}
use Rattle.r10_machine.specs.Machine.{Lane, is_channel}
use Rattle.r10_control.proofs.Offers.{is_at, is_nowhere}
use Rattle.r10_control.proofs.waiting.losses_in.Goals as goal

pub returns-in-None : goal.returns-in-None
returns-in-None c = ap (λ (o : Option Lane). option_map losses_of o) (sym (is_nowhere (is_channel c.args.channel) c.args.lanes.now (sym c.place_of.ensures ∙ c.in-None.is)))

pub returns-in-Some : goal.returns-in-Some
returns-in-Some c =
    let at = is_at (is_channel c.args.channel) c.args.lanes.now c.in-Some.at c.index-lanes-at.result (sym c.place_of.ensures ∙ c.in-Some.is) c.index-lanes-at.is in
    ap (λ (l : Losses). Some l) c.losses.ensures ∙ ap (λ (o : Option Lane). option_map losses_of o) (sym at.found)
