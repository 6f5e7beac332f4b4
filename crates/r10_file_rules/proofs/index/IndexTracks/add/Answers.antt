use Rattle.r10_file_rules.proofs.OnIndex.{node_added, root_added, datum_added}
use Rattle.std.proofs.Common.{◌∙◌}
use Rattle.r10_file_rules.proofs.index.IndexTracks.add.Goals as goal

pub returns-in-Node : goal.returns-in-Node
returns-in-Node c = λ packets p ix tells may short.
    let n = c.add_node.ensures in
    node_added c.args.self.now c.add_node.new.self packets p c.args.facts.now ix tells may short c.in-Node.is (n.same.2 ∙ c.saturating_add-self.ensures) n.start n.group n.pending n.nodes n.closed (n.same.0, n.same.1, n.same.3)

pub returns-in-Root : goal.returns-in-Root
returns-in-Root c = λ packets p ix tells may short.
    root_added c.args.self.now c.add_root.new.self packets p c.args.facts.now c.saturating_add-self.result ix tells may short c.in-Root.is c.saturating_add-self.ensures c.add_root.ensures

pub returns-in_default : goal.returns-in_default
returns-in_default c = λ packets p ix tells may short.
    let n = c.name.ensures in
    datum_added c.args.self.now c.name.new.self packets p c.args.facts.now c.saturating_add-self.result ix tells may short c.in_default.not-Node c.in_default.not-Root n.named n.counted n.end c.saturating_add-self.ensures n.same
