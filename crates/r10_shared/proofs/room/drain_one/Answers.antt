use Rattle.std.proofs.Common.{◌≡◌, ◌==◌, None, Some, List, refl, ap, ◌∙◌}
use Rattle.std.specs.List.{position}
use Rattle.r10_port.specs.Ends.{Receiving}
use Rattle.r10_shared.proofs.Looking.{lanes_stay}
use Rattle.r10_shared.proofs.Moved.{known_there, nowhere, place_is, there_known}
use Rattle.r10_shared.proofs.room.drain_one.Goals as goal

pub returns-in_default-clause-drained : goal.returns-in_default-clause-drained
returns-in_default-clause-drained g c =
    nowhere c.args.line.now.channel c.args.outlets.now.items (λ outlet. outlet.ring ≡ c.args.line.now.port.ring)
    (place_is c.args.line.now.channel c.channel.result c.args.outlets.now.items c.deref.result.now c.place_of.result None c.place_of.ensures c.channel.ensures c.deref.ensures.value c.in_default.is) c.requires

pub drain-requires : goal.drain-requires
drain-requires g c =
    known_there c.args.line.now.channel c.args.outlets.now.items c.in-Some.at c.index_mut.result.now
    (place_is c.args.line.now.channel c.channel.result c.args.outlets.now.items c.deref.result.now c.place_of.result (Some c.in-Some.at) c.place_of.ensures c.channel.ensures c.deref.ensures.value c.in-Some.is) c.index_mut.ensures.value
    (λ outlet. outlet.ring ≡ c.args.line.now.port.ring) c.requires

pub returns-clause-drained : goal.returns-clause-drained
returns-clause-drained g c =
    there_known c.args.line.now.channel c.args.outlets.now.items c.in-Some.at c.index_mut.result.now
    (place_is c.args.line.now.channel c.channel.result c.args.outlets.now.items c.deref.result.now c.place_of.result (Some c.in-Some.at) c.place_of.ensures c.channel.ensures c.deref.ensures.value c.in-Some.is) c.index_mut.ensures.value
    _ (record { all = c.drain.ensures.all; same = refl; moved = c.drain.ensures.moved })

pub returns-clause-others : goal.returns-clause-others
returns-clause-others g c other apart =
    lanes_stay (λ (lane : Receiving). lane.spec.id) c.args.line.now.channel other c.args.outlets.now.items c.in-Some.at c.drain.new.outlet c.index_mut.result.now
    (place_is c.args.line.now.channel c.channel.result c.args.outlets.now.items c.deref.result.now c.place_of.result (Some c.in-Some.at) c.place_of.ensures c.channel.ensures c.deref.ensures.value c.in-Some.is)
    (ap (λ s. s.id) c.drain.ensures.spec ∙ ap (λ (lane : Receiving). lane.spec.id) c.index_mut.ensures.value) apart
