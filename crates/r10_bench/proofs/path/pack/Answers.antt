use Rattle.r10_bench.proofs.Following.{joined}
use Rattle.r10_bench.proofs.path.pack.Goals as goal

pub returns-in-Ok-None : goal.returns-in-Ok-None
returns-in-Ok-None c =
    let pushed = c.in-Ok-None.ensures in
    joined c.args.builder.now c.push_lent.new.self c.args.sample c.in-Ok-None.field-0 c.in-Ok-None.field-0-is pushed.spec pushed.pushed (pushed.again c.requires.behind.ready)
