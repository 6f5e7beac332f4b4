use Rattle.std.proofs.Common.{List, get_or, ap, ◌∙◌}
use Rattle.std.proofs.lemmas.List.{get_or_default}
use Rattle.r10_dirchain.specs.declared.chain.ChainBlock.{ChainBlock}
use Rattle.r10_dirchain.specs.Chain.{blank_block}
use Rattle.r10_dirchain.proofs.Turning.{rewritten}
use Rattle.r10_dirchain.proofs.chain.Directory.rewrite.Goals as goal

pub returns-in-Err-clause-turns : goal.returns-in-Err-clause-turns
returns-in-Err-clause-turns g c =
    let number = ap (λ (b : ChainBlock). b.number) (c.index.ensures ∙ ap (λ (l : List ChainBlock). get_or l c.args.i c.index.result.now) c.self.view_is ∙ get_or_default c.args.self.now c.args.i c.index.result.now blank_block c.requires.within) in
    rewritten c.args.self.now c.args.i _ c.args.block _ _ _ c.requires.stands c.requires.within number c.requires.forward c.requires.back
    c.put_block.ensures.moments c.put_block.ensures.reads tt

pub returns-clause-turns : goal.returns-clause-turns
returns-clause-turns g c =
    let number = ap (λ (b : ChainBlock). b.number) (c.index.ensures ∙ ap (λ (l : List ChainBlock). get_or l c.args.i c.index.result.now) c.self.view_is ∙ get_or_default c.args.self.now c.args.i c.index.result.now blank_block c.requires.within) in
    rewritten c.args.self.now c.args.i _ c.args.block _ _ _ c.requires.stands c.requires.within number c.requires.forward c.requires.back
    c.put_block.ensures.moments c.put_block.ensures.reads c.in_default.ensures.settled
