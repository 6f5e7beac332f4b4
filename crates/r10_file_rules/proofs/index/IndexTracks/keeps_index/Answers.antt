use Rattle.std.proofs.Common.{sym, ◌∙◌}
use Rattle.r10_file_rules.proofs.OnIndex.{keeps_node, keeps_root, keeps_datum}
use Rattle.r10_file_rules.proofs.index.IndexTracks.keeps_index.Goals as goal

pub returns-in-Node : goal.returns-in-Node
returns-in-Node c = λ packets p ix each short time_is tells fits body_is.
    keeps_node c.args.self.now packets p c.args.body.now c.is_next_node.result ix each short (sym c.in-Node.is ∙ tells.kind) fits body_is c.is_next_node.ensures

pub returns-in-Root : goal.returns-in-Root
returns-in-Root c = λ packets p ix each short time_is tells fits body_is.
    keeps_root c.args.self.now packets p c.args.time c.args.facts.now.counter c.args.body.now c.is_next_root.result ix each short time_is c.requires tells.counter (sym c.in-Root.is ∙ tells.kind) fits body_is c.is_next_root.ensures

pub returns-in_default : goal.returns-in_default
returns-in_default c = λ packets p ix each short time_is tells fits body_is.
    keeps_datum c.args.self.now packets p c.args.facts.now c.is_none.result tells c.in_default.not-Node c.in_default.not-Root (c.is_none.ensures packets ix)
