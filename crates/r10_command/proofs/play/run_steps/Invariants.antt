use Rattle.std.proofs.Common.{◌≡◌, ◌≤◌, ◌-◌, length}
use Rattle.r10_command.proofs.Running.{Done}
use Rattle.r10_command.proofs.play.run_steps.Given as goal

-- the steps so far were run, and their lines are written
abbrev pub invariant-loop-done : goal.invariant-loop-done
invariant-loop-done g l = record {
  within : l.done ≤ length l.events;
  config : l.world.recorder.kept.config ≡ l.fn.world.recorder.kept.config;
  ran : Done g.M.BlockMedium.disk l.fn.world l.events l.done l.world (g.W.Write.contents l.fn.writer) (g.W.Write.contents l.writer);
}

abbrev pub decreases-loop-done : goal.decreases-loop-done
decreases-loop-done g l = length l.events - l.done
