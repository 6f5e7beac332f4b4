use Rattle.std.proofs.Common.{◌++◌, refl, arith}
use Rattle.r10_survey.proofs.Taking.{next_on, slice_length}
use Rattle.r10_survey.proofs.track.Track.walk.Goals as goal

pub returns-then-taken-eq0-clause-taken : goal.returns-then-taken-eq0-clause-taken
returns-then-taken-eq0-clause-taken c = λ before rest window start is.
    next_on c.loop-done.self c.take_first.new.self c.args.bytes.now (before ++ window) c.loop-done.done c.in_ok-taken.taken c.loop-done.done c.args.last (omega (arith, c.if-taken-eq0.true))
    (c.loop-done.invariant.taken before rest window start is) c.in_ok-taken.ensures.taken

pub loop-done-preserved : goal.loop-done-preserved
loop-done-preserved c =
    let bytes = c.args.bytes.now in
    let done = c.loop-done.done in
    record {
      inside = omega (arith, c.in_ok-taken.ensures.inside, slice_length bytes done, c.loop-done-test.true);
      offset = omega (arith, c.in_ok-taken.ensures.offset, c.loop-done.invariant.offset);
      taken = λ before rest window start is.
          next_on c.loop-done.self c.take_first.new.self bytes (before ++ window) done c.in_ok-taken.taken _ c.args.last refl (c.loop-done.invariant.taken before rest window start is) c.in_ok-taken.ensures.taken;
    }
