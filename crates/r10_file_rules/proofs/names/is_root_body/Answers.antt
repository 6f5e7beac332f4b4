use Rattle.std.proofs.Common.{◌≡◌, ℕ, List, ◌+◌, ◌++◌, subst, sym}
use Rattle.std.specs.Prelude.{◌↔◌, IsTrue, false}
use Rattle.std.specs.List.{flat_map}
use Rattle.r10_count.specs.Bytes.{le_bytes}
use Rattle.r10_indexbody.specs.Index.{root_entry}
use Rattle.r10_index.specs.Written.{names}
use Rattle.r10_file_rules.specs.Names.{root_at}
use Rattle.r10_file_rules.proofs.Fronts.{framed, unframed}
use Rattle.r10_file_rules.proofs.Named.{root_spelled}
use Rattle.r10_file_rules.proofs.names.is_root_body.Goals as goal

pub returns-in-Some : goal.returns-in-Some
returns-in-Some c = λ small.
    let whole = flat_map root_entry (names c.args.at.counter c.args.at.end c.args.at.nodes) ++ root_entry (root_at c.args.counter c.args.offset) in
    subst (λ (b : List ℕ). IsTrue c.are_roots.result ↔ (c.args.body.now ≡ b)) (sym (root_spelled c.args.at.counter c.args.at.end c.args.at.nodes (root_at c.args.counter c.args.offset)))
    (framed c.args.body.now c.to_le_bytes.result (le_bytes 4 (c.args.at.nodes + 1)) c.in-Some.rest.now whole c.are_roots.result c.to_le_bytes.ensures c.in-Some.ensures.found (c.are_roots.ensures small))

pub returns-in-None : goal.returns-in-None
returns-in-None c = λ small.
    let whole = flat_map root_entry (names c.args.at.counter c.args.at.end c.args.at.nodes) ++ root_entry (root_at c.args.counter c.args.offset) in
    subst (λ (b : List ℕ). IsTrue false ↔ (c.args.body.now ≡ b)) (sym (root_spelled c.args.at.counter c.args.at.end c.args.at.nodes (root_at c.args.counter c.args.offset)))
    (unframed c.args.body.now c.to_le_bytes.result (le_bytes 4 (c.args.at.nodes + 1)) whole c.to_le_bytes.ensures c.in-None.ensures.none)
