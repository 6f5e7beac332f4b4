use Rattle.std.proofs.Common.{map, ap, Some}
use Rattle.toml.specs.View.{view}
use Rattle.r10_script.proofs.Items.{listed-items_of}
use Rattle.r10_script.proofs.table.Fields.elements.Goals as goal

pub returns-in-Some : goal.returns-in-Some
returns-in-Some c =
    rw (c.in_ok-value.ensures.found, ← c.in-Some.ensures, c.as_slice.ensures.value) (ap Some (listed-items_of (map view c.in-Some.values.now.items)))
