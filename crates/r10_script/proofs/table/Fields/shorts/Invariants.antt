use Rattle.std.proofs.Common.{◌≡◌, pos, Some, map, take}
use Rattle.toml.specs.Data.{as_integer}
use Rattle.toml.specs.View.{view}
use Rattle.r10_script.proofs.table.Fields.shorts.Given as goal

-- the numbers so far are those of the values so far
abbrev pub invariant-loop-value : goal.invariant-loop-value
invariant-loop-value l = map as_integer (map view (take l.value-index l.value-items)) ≡ map (λ n. Some (pos n)) l.numbers.items
