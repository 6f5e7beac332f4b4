use Rattle.std.proofs.Common.{rules, ◌≡◌, length, ◌<◌, get_or}
use Rattle.r10_a429.proofs.Bodies.{packet_from, packet_fits}
use Rattle.r10_a429.proofs.body.ArincBody.check.Goals as goal

pub returns-then-entries-lt65536 : goal.returns-then-entries-lt65536
returns-then-entries-lt65536 c =
    let each = rw (c.get-counter.ensures.value, c.as_slice-entries.ensures) at c.has_short_gaps.ensures in
    let some : 0 < length c.args.self.now.entries = search rules in
    let first : (get_or c.args.self.now.entries 0 c.in-Some.first.now).count ≡ c.args.counter = search rules in
    let reported : length c.args.self.now.entries < 65536 = search rules in
    (λ is. packet_from c.args.counter c.args.self.now.entries c.in-Some.first.now some first reported (each.0 is), λ packet. each.1 (packet_fits c.args.counter c.args.self.now.entries packet))
