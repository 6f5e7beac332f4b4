use Rattle.std.proofs.Common.{◌≡◌, false}
use Rattle.r10_source.specs.Pumps.{PumpsSource}
use Rattle.r10_source.proofs.pump.pump_source.Given as goal

abbrev pub invariant-loop : goal.invariant-loop
invariant-loop g l =
    PumpsSource l.counter ((goal.ChannelSource-dyn g (l.initial.source.vtable, l.initial.source.value)).rest l.initial.source.value) ((goal.ChannelSource-dyn g (l.source.vtable, l.source.value)).rest l.source.value) l.initial.port l.port l.pumped
    × (l.pumped.ended ≡ false)
