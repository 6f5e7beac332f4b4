use Rattle.std.proofs.Common.{◌++◌, [], List, Bool, is_ok, vec_len, ap, ◌∙◌, if◌then◌else◌, arith, length}
use Rattle.r10_dirchain.specs.declared.chain.ChainBlock.{ChainBlock}
use Rattle.r10_dirchain.proofs.room.Room.take_in.Goals as goal

pub returns-clause-same : goal.returns-clause-same
returns-clause-same c =
    let mine = c.args.self.blocks in
    let old = c.args.chain.now in
    c.append.ensures.items
    ∙ ap (λ (b : Bool). if b then mine.items ++ old.items else mine.items)
    (c.append.ensures.succeeds (omega (arith, c.requires, mine.ok.0, old.ok.0, ap (λ (l : List ChainBlock). length l) c.args.self.empty)))
    ∙ ap (λ (l : List ChainBlock). l ++ old.items) c.args.self.empty
