use Rattle.std.proofs.Common.{sym, ◌∙◌, take}
use Rattle.r10_judge.proofs.Judging.{still_broken}
use Rattle.r10_judge.proofs.PartsOfBytes.{ok_on}
use Rattle.r10_judge.proofs.judge.Judge.take_first.Goals as goal

pub returns-then-is_broken-clause-taken : goal.returns-then-is_broken-clause-taken
returns-then-is_broken-clause-taken c =
    let old = c.args.self.now in
    let broken = sym c.is_broken.ensures ∙ c.if-is_broken.true in
    ok_on c.read_foreign.result (λ packet first before stands short. still_broken old.broken old.closed old.tracks before (take packet.length c.args.bytes.now) broken stands) c.read_foreign.ensures.found
