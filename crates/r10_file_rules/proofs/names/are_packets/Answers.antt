use Rattle.std.proofs.Common.{suc, ◌∷◌, drop, sym, ap, ◌∙◌}
use Rattle.std.proofs.Math.Seq.{drop-cons}
use Rattle.r10_indexbody.specs.Index.{node_entry}
use Rattle.r10_file_rules.proofs.Fronts.{step_none}
use Rattle.r10_file_rules.proofs.names.are_packets.Goals as goal

pub returns-in-None : goal.returns-in-None
returns-in-None c =
    let i = c.loop-entry.entry-index in
    let es = c.args.entries.now in
    let x = c.entry-item.result in
    step_none _ node_entry c.loop-entry.left.now x (drop i es) (drop (suc i) es) c.in-None.ensures.none (drop-cons es i x c.loop-entry-test.true ∙ ap (λ y. y ∷ drop (suc i) es) (sym c.entry-item.is)) c.loop-entry.invariant
