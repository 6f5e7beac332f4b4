use Rattle.std.proofs.Common.{rules, ◌≡◌, ◌∷◌, [], ◌++◌, arith}
use Rattle.r10_medium.proofs.PowerLoss.{unchanged_twice}
use Rattle.r10_checker.proofs.Saying.{one_more}
use Rattle.r10_checker.proofs.media.check_files.Goals as goal

pub loop-file-preserved : goal.loop-file-preserved
loop-file-preserved g c =
    let disk = g.M.BlockMedium.disk in
    let now = c.loop-file.invariant in
    let image = (disk c.args.medium.now).blocks in
    let pushed : c.push.new.self.items ≡ c.loop-file.said.items ++ c.in-Ok.verdict ∷ [] = search rules in
    record {
      same = unchanged_twice (disk c.args.medium.now) (disk c.loop-file.medium) (disk c.check_listed.new.medium) now.same c.in-Ok.ensures.same;
      no_fewer = omega (arith, now.no_fewer, c.in-Ok.ensures.counts.no_fewer);
      verdicts = rw pushed (one_more image (disk c.loop-file.medium).blocks c.args.files.now c.loop-file.file-index _ c.loop-file.said.items c.in-Ok.verdict now.same.reads c.loop-file-test.true now.verdicts c.in-Ok.ensures.verdict);
    }
