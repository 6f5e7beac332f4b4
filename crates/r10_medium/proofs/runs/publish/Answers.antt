use Rattle.std.proofs.Common.{◌≡◌, ◌⊎◌, ◌<◌, inl, inr, length, subst, sym, ap, slice_set}
use Rattle.r10_medium.specs.Disk.{Image, MayLeave}
use Rattle.r10_medium.specs.PowerLoss.{Leaves}
use Rattle.r10_medium.proofs.PowerLoss.{stayed, then_stays, then_writes_synced}
use Rattle.r10_medium.proofs.runs.publish.Goals as goal
use Rattle.r10_medium.proofs.runs.publish.Goals.{After-write}
use Rattle.r10_medium.proofs.runs.publish.Given.{Over}

-- up to the write, whatever it answers
written : (g : Over) (c : After-write g) →
    let disk = g.M.BlockMedium.disk in
    let old = disk c.args.medium.now in
    Leaves (λ image. MayLeave old image ⊎ (image ≡ slice_set old.blocks c.args.n c.args.block.now)) old (disk c.write.new.self)
written g c =
    let disk = g.M.BlockMedium.disk in
    let old = disk c.args.medium.now in
    let synced = disk c.sync.new.self in
    let reads = c.sync.ensures.same.reads in
    let P = λ (image : Image). MayLeave old image ⊎ (image ≡ slice_set old.blocks c.args.n c.args.block.now) in
    then_writes_synced P c.args.n c.args.block.now old synced (disk c.write.new.self)
    (stayed P old synced c.sync.ensures.same (λ image now. inl now))
    (subst (λ (l : Image). c.args.n < length l) (sym reads) c.requires) c.in_ok-sync.ensures.durable
    (inr (ap (λ (l : Image). slice_set l c.args.n c.args.block.now) reads)) c.write.ensures.wrote

pub returns-in_err-write-clause-moments : goal.returns-in_err-write-clause-moments
returns-in_err-write-clause-moments g c = written g (goal.at.returns-in_err-write-clause-moments g c).After-write

pub returns-clause-moments : goal.returns-clause-moments
returns-clause-moments g c =
    then_stays _ (g.M.BlockMedium.disk c.args.medium.now) (g.M.BlockMedium.disk c.write.new.self) _ (written g (goal.at.returns-clause-moments g c).After-write) c.sync-2.ensures.same
