use Rattle.std.proofs.Common.{◌≡◌, ◌+◌, ◌*◌, arith}
use Rattle.r10_file_rules.proofs.Fronts.{if_none}
use Rattle.r10_file_rules.proofs.Named.{named_more, named_none}
use Rattle.r10_file_rules.proofs.names.behind_nodes.Goals as goal

pub returns-in_err-left-clause-none : goal.returns-in_err-left-clause-none
returns-in_err-left-clause-none c = λ small.
    let at : c.saturating_add-offset.result ≡ c.args.end + 2028 * c.loop-node.node = omega (arith, c.saturating_add-offset.ensures, small, c.loop-node-test.true) in
    if_none c.from_residual.result _ (named_none c.args.counter c.args.end c.loop-node.node c.args.nodes c.saturating_add-offset.result c.args.bytes.now c.loop-node.left.now c.loop-node-test.true (c.loop-node.invariant small) at c.in_err-left.ensures.none)

pub loop-node-preserved : goal.loop-node-preserved
loop-node-preserved c = λ small.
    let at : c.saturating_add-offset.result ≡ c.args.end + 2028 * c.loop-node.node = omega (arith, c.saturating_add-offset.ensures, small, c.loop-node-test.true) in
    named_more c.args.counter c.args.end c.loop-node.node c.saturating_add-offset.result c.args.bytes.now c.loop-node.left.now c.in_ok-left.left.now (c.loop-node.invariant small) at c.in_ok-left.ensures.found
