use Rattle.std.proofs.Common.{rules}
use Rattle.std.proofs.lemmas.Option.{IfSome_then}
use Rattle.std.specs.Io.KnownBytes.{Keeps}
use Rattle.std.specs.Io.Buffered.{writer_contents}
use Rattle.r10_playback.proofs.WrittenStays.{checked_kept}
use Rattle.r10_playback.proofs.check.check_input.Goals as goal

pub returns-clause-checks : goal.returns-clause-checks
returns-clause-checks g c =
    let contents = writer_contents g.W.Write.contents in
    let kept : Keeps (contents c.write_verdict.new.writer) (contents c.flush.new.self) = search rules in
    IfSome_then (g.R.Read.remaining c.args.reader.now) c.in_ok-verdict.ensures.verdict
    (λ bytes is. checked_kept bytes c.in_ok-verdict.verdict c.in_ok-outcome.outcome _ _ _ is c.in_ok-outcome.ensures.checks kept)
