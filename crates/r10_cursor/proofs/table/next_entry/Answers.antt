use Rattle.std.proofs.Common.{ap, sym}
use Rattle.r10_cursor.specs.Replays.{Reading}
use Rattle.r10_cursor.proofs.Slots.{given}
use Rattle.r10_cursor.proofs.table.next_entry.Goals as goal

pub returns-in-Some-clause-gives : goal.returns-in-Some-clause-gives
returns-in-Some-clause-gives c = λ image m stand.
    let was = c.in-Some.cursor.now in
    given image m c.args.cursors.now.slots c.args.id was (record was { reading = c.next.new.self }) c.next.result stand (sym c.in-Some.ensures.value) c.next.ensures.given
    (ap (λ (r : Reading). record was { reading = r }) c.next.ensures.left)
