use Rattle.r10_shared.proofs.Turns.{FedShown}
use Rattle.r10_shared.proofs.source.feed_all.Given as goal

abbrev pub invariant-loop : goal.invariant-loop
invariant-loop g l =
    FedShown ((goal.ChannelSource-dyn g (l.initial.source.vtable, l.initial.source.value)).rest l.initial.source.value) ((goal.ChannelSource-dyn g (l.source.vtable, l.source.value)).rest l.source.value) l.initial.port l.port
    (record { accepted = l.accepted; refused = l.refused }) l.initial.gauge l.gauge
