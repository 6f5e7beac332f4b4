use Rattle.std.proofs.Common.{ℕ, ◌-◌, ◌++◌, ◌∙◌, List, length, take, drop, ap, subst, arith}
use Rattle.std.proofs.lemmas.List.{length-drop}
use Rattle.r10_blockout.proofs.Parting.{rest_is}
use Rattle.r10_judge.specs.Walks.{TracksWalked}
use Rattle.r10_judge.proofs.PartsOfBytes.{taken_on}
use Rattle.r10_windowcheck.specs.Given.{TakesWindow}
use Rattle.r10_windowcheck.specs.declared.walk.FirstTaken.TheVariants.{Packet}
use Rattle.r10_windowcheck.proofs.walk.take_packets.Goals as goal

pub loop-done-preserved : goal.loop-done-preserved
loop-done-preserved c =
    let now = c.loop-done.invariant in
    let bytes = c.args.bytes.now in
    let done = c.loop-done.done in
    let n = c.in-Packet.length in
    let taken : TakesWindow c.loop-done.walk c.take_first.new.walk (take (length bytes - done) (drop done bytes)) (Packet n) = rw c.in-Packet.is at c.in_ok-length.ensures.taken in
    record {
      inside = omega (arith, taken.1, c.loop-done-test.true, ap length (rest_is bytes done), length-drop done bytes);
      walked = λ before start.
          subst (λ (l : List ℕ). TracksWalked c.take_first.new.walk l) (taken_on before bytes _ done n (rest_is bytes done))
          (taken.2 (before ++ take done bytes) (now.walked before start));
      closed = c.take_first.ensures.closed ∙ now.closed;
    }
