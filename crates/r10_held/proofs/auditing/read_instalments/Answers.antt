use Rattle.std.proofs.Common.{◌≡◌, Bool, true≢false, [], drop, refl, sym, ap, ◌∙◌, subst, arith}
use Rattle.std.specs.Prelude.{IsTrue}
use Rattle.std.proofs.lemmas.List.{drop_all}
use Rattle.r10_refinement.specs.KeptState.{Kept}
use Rattle.r10_medium.proofs.PowerLoss.{unchanged_twice}
use Rattle.r10_held.proofs.Comparing.{all_came, came_further, came_to, came_within, next_of_all, still_shown}
use Rattle.r10_held.proofs.auditing.read_instalments.Goals as goal

pub returns-in-Ok-false-clause-same : goal.returns-in-Ok-false-clause-same
returns-in-Ok-false-clause-same g c = λ packets shows within.
    let now = c.loop-place.invariant in
    let disk = g.M.BlockMedium.disk in
    let old = c.args.cursor.now in
    let all = c.args.instalments.now in
    let i = c.index-instalments-place.result in
    let came = came_to packets old c.loop-place.cursor all c.loop-place.place i c.loop-place-test.true c.index-instalments-place.is (now.came packets shows within) in
    let there = still_shown c.args.recorder.now.kept.work c.loop-place.recorder.kept.work (disk c.args.recorder.now.medium).blocks (disk c.loop-place.recorder.medium).blocks old.file c.loop-place.cursor.file packets (ap (λ (k : Kept). k.work) now.kept) now.same.reads now.file shows in
    let tells = c.in-Ok-false.ensures.same packets there (came_within packets old c.loop-place.cursor all _ came) in
    (λ yes. absurd (true≢false (sym yes)), λ on. subst (λ (b : Bool). IsTrue b) c.in-Ok-false.field-0-test (tells.1 (next_of_all packets old c.loop-place.cursor all i _ came on)))

pub loop-place-preserved : goal.loop-place-preserved
loop-place-preserved g c =
    let now = c.loop-place.invariant in
    let disk = g.M.BlockMedium.disk in
    let old = c.args.cursor.now in
    let all = c.args.instalments.now in
    let i = c.index-instalments-place.result in
    let e = c.in-Ok-true.ensures in
    record {
      going = e.ready;
      kept = e.reads.kept ∙ now.kept;
      same = unchanged_twice _ _ _ now.same e.reads.same;
      no_fewer = omega (arith, now.no_fewer, e.reads.no_fewer);
      lanes = e.reads.lanes ∙ now.lanes;
      file = e.file ∙ now.file;
      came = λ packets shows within.
          let came = came_to packets old c.loop-place.cursor all c.loop-place.place i c.loop-place-test.true c.index-instalments-place.is (now.came packets shows within) in
          let there = still_shown c.args.recorder.now.kept.work c.loop-place.recorder.kept.work (disk c.args.recorder.now.medium).blocks (disk c.loop-place.recorder.medium).blocks old.file c.loop-place.cursor.file packets (ap (λ (k : Kept). k.work) now.kept) now.same.reads now.file shows in
          let near = came_within packets old c.loop-place.cursor all _ came in
          came_further packets old c.loop-place.cursor c.read_instalment.new.cursor all i _ came ((e.same packets there near).0 c.in-Ok-true.field-0-test) (e.covers packets there near c.in-Ok-true.field-0-test);
    }

pub returns-clause-same : goal.returns-clause-same
returns-clause-same g c = λ packets shows within.
    let now = c.loop-place.invariant in
    let all = c.args.instalments.now in
    let none : drop c.loop-place.place all ≡ [] = drop_all c.loop-place.place all (omega (arith, c.loop-place-test.false)) in
    (λ yes. all_came packets c.args.cursor.now c.loop-place.cursor all _ none (now.came packets shows within), λ on. refl)
