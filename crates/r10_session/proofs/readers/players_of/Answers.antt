use Rattle.std.proofs.Common.{◌≡◌, ap, ◌∙◌}
use Rattle.std.proofs.lemmas.List.Elements.{All-push}
use Rattle.r10_gauge.specs.Published.{LookingEnd}
use Rattle.r10_shared.specs.Recorder.{Player}
use Rattle.r10_session.proofs.Playing.{one_more}
use Rattle.r10_session.proofs.readers.players_of.Goals as goal

pub loop-cursor-preserved : goal.loop-cursor-preserved
loop-cursor-preserved g c =
    let split = c.split-own.ensures in
    let at = c.loop-cursor.invariant in
    record {
      here = ap (λ (p : LookingEnd). p.cell) split.stays ∙ at.here;
      passes = rw c.in_ok-push.ensures.items (All-push (λ (player : Player). player.pass.cell ≡ c.args.cabinet.now.gauge) c.loop-cursor.players.items c.new.result at.passes (ap (λ (p : LookingEnd). p.cell) (c.new.ensures.1 ∙ split.other) ∙ at.here));
      done = rw c.in_ok-push.ensures.items (one_more c.loop-cursor.players.items _ _ _ _ _ at.done c.in-Some.ensures.steps.0 c.new.ensures.0);
    }
