use Rattle.std.proofs.Common.{[], ◌∷◌}
use Rattle.r10_dirchain.specs.Steps.{emptied}
use Rattle.r10_dirchain.proofs.Turning.{published}
use Rattle.r10_volume.proofs.Turning.{emptied_rules, usable_on, emptied_on, emptying, kept_then, leaves_then, on_err, says_then, settled_empty}
use Rattle.r10_volume.proofs.steps.erase.Goals as goal

pub returns-clause-directory : goal.returns-clause-directory
returns-clause-directory g c =
    let disk = g.M.BlockMedium.disk in
    let chain = c.args.directory.now in
    published chain (emptied chain) c.erase.new.self [] (1 ∷ []) (disk c.args.medium.now) (disk c.erase.new.medium) c.erase.result c.erase.ensures.turns c.erase.ensures.done c.erase.ensures.durable

pub returns-clause-usable : goal.returns-clause-usable
returns-clause-usable g c = λ reserved usable.
    let old = g.M.BlockMedium.disk c.args.medium.now in
    usable_on reserved c.args.directory.now (emptied c.args.directory.now) c.erase.new.self (1 ∷ []) old (g.M.BlockMedium.disk c.erase.new.medium) c.erase.result
    (emptied_rules reserved old.blocks c.args.directory.now usable) c.erase.ensures.turns c.erase.ensures.done

pub returns-clause-holds : goal.returns-clause-holds
returns-clause-holds g c = λ s files holds.
    let old = g.M.BlockMedium.disk c.args.medium.now in
    emptied_on s old (g.M.BlockMedium.disk c.erase.new.medium) c.args.directory.now (emptied c.args.directory.now) c.erase.new.self files c.erase.result
    (emptying s old.blocks c.args.directory.now files holds.says holds.directory) c.erase.ensures.turns c.erase.ensures.done

pub returns-clause-failed : goal.returns-clause-failed
returns-clause-failed g c = λ s files holds.
    let old = g.M.BlockMedium.disk c.args.medium.now in
    on_err c.erase.result _ (says_then s old (g.M.BlockMedium.disk c.erase.new.medium) c.args.directory.now (emptied c.args.directory.now) (1 ∷ []) files [] c.erase.result
    (emptying s old.blocks c.args.directory.now files holds.says holds.directory) c.erase.ensures.turns)

pub returns-clause-moments : goal.returns-clause-moments
returns-clause-moments g c = λ s files holds.
    let old = g.M.BlockMedium.disk c.args.medium.now in
    leaves_then s old (g.M.BlockMedium.disk c.erase.new.medium) c.args.directory.now (emptied c.args.directory.now) (1 ∷ []) files [] c.erase.result
    (emptying s old.blocks c.args.directory.now files holds.says holds.directory) c.erase.ensures.turns

pub returns-clause-settled : goal.returns-clause-settled
returns-clause-settled g c = λ s files holds.
    let old = g.M.BlockMedium.disk c.args.medium.now in
    settled_empty s old (g.M.BlockMedium.disk c.erase.new.medium) c.args.directory.now (emptied c.args.directory.now) (1 ∷ []) files c.erase.result
    (emptying s old.blocks c.args.directory.now files holds.says holds.directory) c.erase.ensures.turns

pub returns-clause-bytes : goal.returns-clause-bytes
returns-clause-bytes g c = λ s files holds.
    let old = g.M.BlockMedium.disk c.args.medium.now in
    kept_then s old (g.M.BlockMedium.disk c.erase.new.medium) c.args.directory.now (emptied c.args.directory.now) (1 ∷ []) files [] c.erase.result
    (emptying s old.blocks c.args.directory.now files holds.says holds.directory) c.erase.ensures.turns
