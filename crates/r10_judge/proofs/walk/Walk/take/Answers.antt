use Rattle.std.proofs.Common.{◌≡◌, ◌+◌, ◌-◌, ◌<◌, ◌≤◌, ◌^◌, ◌++◌, ◌∙◌, ℕ, List, length, take, drop, sym, ap, subst, arith}
use Rattle.std.proofs.lemmas.List.{length-append, length-drop, length-take}
use Rattle.r10_blockout.proofs.Parting.{rest_is}
use Rattle.r10_body.specs.Faults.{HasFault}
use Rattle.r10_packet_rules.specs.Tracks.{TracksForeign}
use Rattle.r10_judge.specs.Judged.{TellsAnswer, TracksJudged}
use Rattle.r10_judge.proofs.PartsOfBytes.{short_on, taken_on}
use Rattle.r10_judge.proofs.walk.Walk.take.Goals as goal

pub returns-in-Err-clause-ends : goal.returns-in-Err-clause-ends
returns-in-Err-clause-ends c =
    let bytes = c.args.bytes.now in
    let done = c.loop-done.done in (
      omega (arith, c.loop-done-test.true, length-drop done bytes),
      subst (λ (l : List ℕ). HasFault l c.in-Err.fault) (rest_is bytes done) (rw c.in-Err.is at c.in_ok-packet.ensures.fault),
    )

pub returns-in-Err-clause-answered : goal.returns-in-Err-clause-answered
returns-in-Err-clause-answered c = subst (λ (l : List ℕ). TellsAnswer c.is_answered-answered.result c.take_first.new.self.tracks l) (rest_is c.args.bytes.now c.loop-done.done) c.is_answered-answered.ensures

pub add-requires-clause-short : goal.add-requires-clause-short
add-requires-clause-short c =
    let bytes = c.args.bytes.now in
    let done = c.loop-done.done in
    let so_far = c.loop-done.invariant.stands c.requires.0 c.requires.1 in
    let found = rw c.in-Ok.is at c.in_ok-packet.ensures.found in
    omega (arith, so_far.foreign.offset, length-append c.requires.0 (take done bytes), length-take done bytes, found.inside, ap length (rest_is bytes done), length-drop done bytes, c.loop-done-test.true, c.requires.2)

pub loop-done-preserved : goal.loop-done-preserved
loop-done-preserved c =
    let now = c.loop-done.invariant in
    let bytes = c.args.bytes.now in
    let done = c.loop-done.done in
    let n = c.in-Ok.packet.length in
    let found = rw c.in-Ok.is at c.in_ok-packet.ensures.found in
    let taken = rw c.in-Ok.is at c.in_ok-packet.ensures.taken in
    let inside : done + n ≤ length bytes = omega (arith, found.inside, c.loop-done-test.true, ap length (rest_is bytes done), length-drop done bytes) in
    record {
      inside = inside;
      stands = λ before start.
          let so_far = now.stands before start in
          let further : (before ++ take done bytes) ++ take n (take (length bytes - done) (drop done bytes)) ≡ before ++ take (done + n) bytes = taken_on before bytes _ done n (rest_is bytes done) in
          let size : length before ≡ length c.requires.0 = sym start.foreign.offset ∙ c.requires.1.foreign.offset in
          let short : length ((before ++ take done bytes) ++ take n (take (length bytes - done) (drop done bytes))) < 2 ^ 63 = short_on before bytes (done + n) _ c.requires.0 further inside size c.requires.2 in
          record {
            foreign = subst (λ (l : List ℕ). TracksForeign c.add.new.self l) further (c.add.ensures (before ++ take done bytes) _ so_far.foreign found);
            judged = subst (λ (l : List ℕ). TracksJudged c.take_first.new.self l) further (taken (before ++ take done bytes) so_far.judged short);
          };
      closed = c.take_first.ensures.closed ∙ now.closed;
    }
