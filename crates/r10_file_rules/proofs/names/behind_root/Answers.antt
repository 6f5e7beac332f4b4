use Rattle.std.proofs.Common.{ℕ, List, ◌++◌, ◌∙◌}
use Rattle.r10_count.specs.Bytes.{le_bytes}
use Rattle.r10_count.specs.Count.{stamp}
use Rattle.r10_count.proofs.Fronts.{stamp_is}
use Rattle.r10_file_rules.proofs.Fronts.{Missing, missing_same, missing_first, missing_then, if_none, if_none_map}
use Rattle.r10_file_rules.proofs.names.behind_root.Goals as goal

pub returns-in_err-rest-clause-none : goal.returns-in_err-rest-clause-none
returns-in_err-rest-clause-none c =
    if_none c.from_residual.result _ (missing_first c.args.bytes.now c.to_le_bytes.result (stamp c.args.counter) (le_bytes 8 c.args.offset) (c.to_le_bytes.ensures ∙ stamp_is c.args.counter c.requires) c.in_err-rest.ensures.none)

pub returns-clause-none : goal.returns-clause-none
returns-clause-none c =
    let at : List ℕ = stamp c.args.counter in
    let place : List ℕ = le_bytes 8 c.args.offset in
    if_none_map c.behind-2.result (Missing c.in_ok-rest.rest.now c.to_le_bytes-2.result) (Missing c.args.bytes.now (at ++ place))
    (λ missing. missing_then c.args.bytes.now c.to_le_bytes.result c.in_ok-rest.rest.now at place (c.to_le_bytes.ensures ∙ stamp_is c.args.counter c.requires) c.in_ok-rest.ensures.found
    (missing_same c.in_ok-rest.rest.now c.to_le_bytes-2.result place c.to_le_bytes-2.ensures missing))
    c.behind-2.ensures.none
