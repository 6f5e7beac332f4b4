use Rattle.std.proofs.Common.{rules, map, string_bytes}
use Rattle.r10_arguments.specs.Words.{AsksRun}
use Rattle.r10_session.proofs.Words.{not_both}
use Rattle.r10_session.proofs.command.perform.Goals as goal

pub returns-then-asks_run-clause-image : goal.returns-then-asks_run-clause-image
returns-then-asks_run-clause-image g c =
    let asks : AsksRun (map string_bytes c.args.words.now) = search rules in
    λ image. absurd (not_both (map string_bytes c.args.words.now) asks image)
