use Rattle.std.proofs.Common.{◌≡◌, ◌+◌, length, vec_len, vec_capacity}
use Rattle.r10_port.proofs.Resting.{Moves}
use Rattle.r10_port.proofs.outlet.Outlet.rest_into.Given as goal

abbrev pub invariant-loop : goal.invariant-loop
invariant-loop l =
    Moves l.initial.self l.self l.initial.into.items l.into.items l.counter
    × (length l.self.ahead + l.counter ≡ length l.initial.self.ahead)
    × (vec_len l.into ≡ vec_len l.initial.into + l.counter) × (vec_capacity l.into ≡ vec_capacity l.initial.into)
