use Rattle.std.proofs.Common.{◌≡◌, ◌+◌, take, drop, vec_len}
use Rattle.r10_world.specs.Answering.{AnswersEach}
use Rattle.r10_world.specs.PowerLoss.{RunsSafely}
use Rattle.r10_world.specs.WorldSteps.{WorldRuns}
use Rattle.r10_world.proofs.running.run.Given as goal

abbrev pub invariant-loop-i : goal.invariant-loop-i
invariant-loop-i g l = record {
  run : WorldRuns g.M.BlockMedium.disk l.fn.world (take l.i l.events) (drop (vec_len l.fn.replies) l.replies.items) l.world;
  answers : AnswersEach g.M.BlockMedium.disk l.fn.world (take l.i l.events) (drop (vec_len l.fn.replies) l.replies.items) l.world;
  power_loss : RunsSafely g.M.BlockMedium.disk l.fn.world (take l.i l.events) (drop (vec_len l.fn.replies) l.replies.items) l.world;
  config : l.world.recorder.kept.config ≡ l.fn.world.recorder.kept.config;
  earlier : take (vec_len l.fn.replies) l.replies.items ≡ l.fn.replies.items;
  count : vec_len l.replies ≡ vec_len l.fn.replies + l.i;
  world_first : l.i ≡ 0 → l.world ≡ l.fn.world;
  replies_first : l.i ≡ 0 → l.replies.items ≡ l.fn.replies.items;
}
