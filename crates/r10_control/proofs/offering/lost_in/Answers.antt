use Rattle.std.proofs.Common.{ℕ, Option, Some, sym, ap, ◌∙◌}
use Rattle.std.specs.Prelude.{option_map}
use Rattle.r10_machine.specs.Machine.{Lane, is_channel}
use Rattle.r10_control.proofs.Offers.{is_at, is_nowhere}
use Rattle.r10_control.proofs.offering.lost_in.Goals as goal

pub returns-in-None : goal.returns-in-None
returns-in-None c = ap (λ (o : Option Lane). option_map (λ (l : Lane). l.lost) o) (sym (is_nowhere (is_channel c.args.channel) c.args.lanes.now (sym c.place_of.ensures ∙ c.in-None.is)))

pub returns-in-Some : goal.returns-in-Some
returns-in-Some c =
    let at = is_at (is_channel c.args.channel) c.args.lanes.now c.in-Some.at c.index-lanes-at.result (sym c.place_of.ensures ∙ c.in-Some.is) c.index-lanes-at.is in
    ap (λ (n : ℕ). Some n) c.lost.ensures ∙ ap (λ (o : Option Lane). option_map (λ (l : Lane). l.lost) o) (sym at.found)
