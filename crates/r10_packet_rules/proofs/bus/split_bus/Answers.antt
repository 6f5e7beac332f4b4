use Rattle.std.proofs.Common.{rules, ◌∙◌}
use Rattle.r10_packet_rules.proofs.Buses.{bus_found}
use Rattle.r10_packet_rules.proofs.bus.split_bus.Goals as goal

pub returns-clause-found : goal.returns-clause-found
returns-clause-found c =
    bus_found c.args.bytes.now c.in-Some.rest.now c.in-Some-split_u16.rest.now c.in-Some-split_u16-2.rest.now c.in-Some-split_u16-3.rest.now c.split_at.result.0.now c.split_at.result.1.now
    _ c.in-Some-split_u16.status c.in-Some-split_u16-2.gap c.in-Some-split_u16-3.size (λ i. let fits = c.type_inv.bytes i in search rules)
    (search rules) (search rules) (search rules) (search rules) c.split_at.ensures.by_index.0 (c.split_at.ensures.front_len ∙ c.from-2.ensures)
