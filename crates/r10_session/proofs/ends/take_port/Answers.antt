use Rattle.std.proofs.Common.{◌≡◌, ◌==◌, List, Some, sym, ap, ◌∙◌}
use Rattle.std.proofs.lemmas.List.{get_or_read}
use Rattle.std.proofs.lemmas.List.Quantifiers.{position-Some}
use Rattle.r10_session.specs.Ends.{sender_place}
use Rattle.r10_session.specs.declared.ends.Sender.{Sender}
use Rattle.r10_session.proofs.ends.take_port.Goals as goal

pub returns-in-Some : goal.returns-in-Some
returns-in-Some c =
    let old = c.args.senders.now.items in
    let one = c.remove-port.result in
    let found : sender_place c.args.channel old ≡ Some c.in-Some.place = ap (λ (l : List Sender). sender_place c.args.channel l) (sym c.deref.ensures.value) ∙ sym c.place_of.ensures ∙ c.in-Some.is in
    let first = position-Some (λ (s : Sender). s.channel == c.args.channel) old c.in-Some.place one found in
    record {
      place = c.in-Some.place;
      found = found;
      port_is = λ d. ap (λ (s : Sender). s.port) (sym (get_or_read old c.in-Some.place one first.0 c.remove-port.ensures.value d));
      left = c.remove-port.ensures.items;
    }
