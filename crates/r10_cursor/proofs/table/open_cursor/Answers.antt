use Rattle.std.proofs.Common.{List, ℕ, ap, ◌∙◌}
use Rattle.r10_cursor.specs.RepresentedCursors.{fresh_slot}
use Rattle.r10_cursor.proofs.Slots.{opened}
use Rattle.r10_cursor.proofs.table.open_cursor.Goals as goal

pub returns-clause-opens : goal.returns-clause-opens
returns-clause-opens c = λ s image m stand same less says.
    let a = c.args in
    let is = c.new-cursor.ensures ∙ ap (λ (channels : List ℕ). fresh_slot a.generation channels a.file a.from a.to) c.in_ok-channels.ensures in
    opened s image m a.cursors.now c.insert.new.self c.in-Ok.id a.file a.generation a.channels.now a.from a.to c.new-cursor.result is c.in-Ok.ensures.was_vacant c.in-Ok.ensures.updates stand same less says
