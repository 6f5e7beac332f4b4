use Rattle.std.proofs.Common.{rules, ◌+◌, ◌<◌, ◌^◌, IsTrue, length, take, arith}
use Rattle.std.proofs.lemmas.List.{length-append, length-take}
use Rattle.r10_windowcheck.proofs.walk.take_first.Goals as goal

pub returns-clause-taken : goal.returns-clause-taken
returns-clause-taken c =
    let found = c.in-Ok.ensures.found in
    let bytes = c.args.bytes.now in
    let n = c.in-Ok.packet.length in
    let roomy : IsTrue c.has_room.result = search rules in
    let room : c.args.walk.now.track.offset + length bytes < 2 ^ 63 = c.has_room.ensures roomy in (
      found.least,
      found.inside,
      λ before so_far. record {
        foreign = c.add.ensures before bytes so_far.foreign found;
        judged = c.in_ok-take.ensures.taken before so_far.judged found.foreign (omega (arith, room, so_far.foreign.offset, found.inside, length-append before (take n bytes), length-take n bytes));
      },
    )
