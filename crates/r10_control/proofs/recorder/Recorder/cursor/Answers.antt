use Rattle.std.proofs.Common.{rules}
use Rattle.r10_control.proofs.recorder.Recorder.cursor.Goals as goal

pub returns-in-Err : goal.returns-in-Err
returns-in-Err g c =
    record {
      does = record {
        passed = search rules;
        opened = search rules;
        refused = c.in-Err.ensures.refused;
        steps = λ m means. c.in-Err.ensures.steps _ m means;
        there = search rules;
        reads = search rules;
      };
    }

pub returns : goal.returns
returns g c =
    record {
      does = record {
        passed = c.in-Ok.ensures.passed;
        opened = search rules;
        refused = search rules;
        steps = λ m means. c.in-Ok.ensures.steps _ m means;
        there = c.in-Ok.ensures.there;
        reads = search rules;
      };
    }
