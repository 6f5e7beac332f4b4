use Rattle.std.proofs.Common.{◌≡◌, ◌≤◌, ◌+◌, arith, drop, None}
use Rattle.std.proofs.lemmas.List.{get_or_default}
use Rattle.r10_session.proofs.Filling.{all_filled, one_filled}
use Rattle.r10_session.proofs.readers.reader_ends.Goals as goal

pub loop-place-preserved : goal.loop-place-preserved
loop-place-preserved c =
    let refused = c.args.refused.now in
    let at = c.loop-place.place in
    let end = c.reader_end-end in
    record {
      done = rw c.in_ok-push.ensures.items (one_filled refused c.args.numbers.now at c.loop-place.next end.result.1 c.loop-place.ends.items _ end.result.0 c.loop-place.invariant.done c.loop-place-test.true (get_or_default refused at None _ c.loop-place-test.true) (end.ensures.end (drop (at + 1) refused)));
      few = omega (arith, c.loop-place.invariant.few, end.ensures.step);
    }

pub returns : goal.returns
returns c = all_filled _ _ _ _ _ c.loop-place.invariant.done c.loop-place-test.false
