use Rattle.std.proofs.Common.{◌≡◌, Some, ap, take}
use Rattle.std.proofs.lemmas.List.{take_all}
use Rattle.r10_script.proofs.table.Fields.shorts.Goals as goal

pub returns : goal.returns
returns c =
    let items = c.in_ok-value-items.value-items.now in
    let whole : take c.loop-value.value-index items ≡ items = take_all c.loop-value.value-index items c.loop-value-test.false in
    rw c.in_ok-value-items.ensures (ap Some (rw whole at c.loop-value.invariant))
