use Rattle.std.proofs.Common.{[], ◌∷◌}
use Rattle.r10_dirchain.specs.Chain.{at}
use Rattle.r10_dirchain.specs.Steps.{with_shutdown}
use Rattle.r10_dirchain.proofs.Turning.{published}
use Rattle.r10_volume.proofs.Turning.{marked_rules, usable_on, held_on, kept_then, leaves_still, marking, of_first, says_still, settled_still}
use Rattle.r10_volume.proofs.steps.dismount.Goals as goal

pub returns-clause-turns : goal.returns-clause-turns
returns-clause-turns g c = of_first c.args.directory.now (with_shutdown 0xFF c.args.directory.now) _ _ c.set_shutdown.result c.requires c.set_shutdown.ensures.turns

pub returns-clause-directory : goal.returns-clause-directory
returns-clause-directory g c =
    let disk = g.M.BlockMedium.disk in
    let chain = c.args.directory.now in
    published chain (with_shutdown 0xFF chain) c.set_shutdown.new.self [] ((at chain 0).number ∷ []) (disk c.args.medium.now) (disk c.set_shutdown.new.medium) c.set_shutdown.result
    c.set_shutdown.ensures.turns c.set_shutdown.ensures.done c.set_shutdown.ensures.durable

pub returns-clause-usable : goal.returns-clause-usable
returns-clause-usable g c = λ reserved usable.
    let old = g.M.BlockMedium.disk c.args.medium.now in
    usable_on reserved c.args.directory.now (with_shutdown 0xFF c.args.directory.now) c.set_shutdown.new.self ((at c.args.directory.now 0).number ∷ []) old (g.M.BlockMedium.disk c.set_shutdown.new.medium) c.set_shutdown.result
    (marked_rules reserved 0xFF old.blocks c.args.directory.now usable) c.set_shutdown.ensures.turns c.set_shutdown.ensures.done

pub returns-clause-holds : goal.returns-clause-holds
returns-clause-holds g c = λ s files holds.
    let old = g.M.BlockMedium.disk c.args.medium.now in
    let new = g.M.BlockMedium.disk c.set_shutdown.new.medium in
    held_on s old new c.args.directory.now (with_shutdown 0xFF c.args.directory.now) c.set_shutdown.new.self files c.set_shutdown.result (marking s old.blocks c.args.directory.now 0xFF files holds.says holds.directory) holds.found
    (of_first c.args.directory.now (with_shutdown 0xFF c.args.directory.now) old new c.set_shutdown.result c.requires c.set_shutdown.ensures.turns) c.set_shutdown.ensures.done

pub returns-clause-says : goal.returns-clause-says
returns-clause-says g c = λ s files holds.
    let old = g.M.BlockMedium.disk c.args.medium.now in
    let new = g.M.BlockMedium.disk c.set_shutdown.new.medium in
    says_still s old new c.args.directory.now (with_shutdown 0xFF c.args.directory.now) (1 ∷ []) files c.set_shutdown.result (marking s old.blocks c.args.directory.now 0xFF files holds.says holds.directory)
    (of_first c.args.directory.now (with_shutdown 0xFF c.args.directory.now) old new c.set_shutdown.result c.requires c.set_shutdown.ensures.turns)

pub returns-clause-moments : goal.returns-clause-moments
returns-clause-moments g c = λ s files holds.
    let old = g.M.BlockMedium.disk c.args.medium.now in
    let new = g.M.BlockMedium.disk c.set_shutdown.new.medium in
    leaves_still s old new c.args.directory.now (with_shutdown 0xFF c.args.directory.now) (1 ∷ []) files c.set_shutdown.result (marking s old.blocks c.args.directory.now 0xFF files holds.says holds.directory)
    (of_first c.args.directory.now (with_shutdown 0xFF c.args.directory.now) old new c.set_shutdown.result c.requires c.set_shutdown.ensures.turns)

pub returns-clause-settled : goal.returns-clause-settled
returns-clause-settled g c = λ s files holds.
    let old = g.M.BlockMedium.disk c.args.medium.now in
    let new = g.M.BlockMedium.disk c.set_shutdown.new.medium in
    settled_still s old new c.args.directory.now (with_shutdown 0xFF c.args.directory.now) (1 ∷ []) files c.set_shutdown.result (marking s old.blocks c.args.directory.now 0xFF files holds.says holds.directory)
    (of_first c.args.directory.now (with_shutdown 0xFF c.args.directory.now) old new c.set_shutdown.result c.requires c.set_shutdown.ensures.turns)

pub returns-clause-bytes : goal.returns-clause-bytes
returns-clause-bytes g c = λ s files holds.
    let old = g.M.BlockMedium.disk c.args.medium.now in
    let new = g.M.BlockMedium.disk c.set_shutdown.new.medium in
    kept_then s old new c.args.directory.now (with_shutdown 0xFF c.args.directory.now) (1 ∷ []) files files c.set_shutdown.result (marking s old.blocks c.args.directory.now 0xFF files holds.says holds.directory)
    (of_first c.args.directory.now (with_shutdown 0xFF c.args.directory.now) old new c.set_shutdown.result c.requires c.set_shutdown.ensures.turns)
