use Rattle.std.proofs.Common.{arith}
use Rattle.std.proofs.lemmas.Bool.{eqb-true}
use Rattle.r10_file_rules.proofs.OnIndex.{none_is, is_none_then, no_root_says, no_root_then}
use Rattle.r10_file_rules.proofs.index.IndexTracks.is_none.Goals as goal

pub returns-then-self-eq0 : goal.returns-then-self-eq0
returns-then-self-eq0 c = λ packets ix.
    let t = c.args.self.now in (
      λ none. none_is t packets ix (omega (arith, c.if-self-eq0.true), no_root_then t.root c.is_none.result c.is_none.ensures none),
      λ none. no_root_says t.root c.is_none.result c.is_none.ensures (is_none_then t packets ix none).1,
    )

pub returns-else-self-eq0 : goal.returns-else-self-eq0
returns-else-self-eq0 c = λ packets ix.
    let t = c.args.self.now in
    ((λ none. absurd (omega (arith, eqb-true t.nodes 0 none, c.if-self-eq0.false))), (λ none. absurd (omega (arith, (is_none_then t packets ix none).0, c.if-self-eq0.false))))
