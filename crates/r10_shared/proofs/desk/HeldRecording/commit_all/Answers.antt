use Rattle.std.proofs.Common.{refl}
use Rattle.r10_shared.proofs.desk.HeldRecording.commit_all.Goals as goal

pub returns : goal.returns
returns g c = (
  c.commit.new.self,
  record {
    passed = c.commit.ensures.does.passed;
    steps = c.commit.ensures.does.steps;
    effect = c.commit.ensures.does.effect;
    publishes = c.commit.ensures.publishes;
    lanes = c.commit.ensures.does.lanes;
    config = c.commit.ensures.does.config;
  },
  refl,
)
