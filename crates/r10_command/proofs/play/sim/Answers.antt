use Rattle.std.specs.Io.Buffered.{writer_contents}
use Rattle.std.specs.Io.KnownBytes.{Keeps}
use Rattle.r10_command.proofs.Running.{played_is_written}
use Rattle.r10_command.proofs.play.sim.Goals as goal

pub returns-in-Ok-clause-simulates : goal.returns-in-Ok-clause-simulates
returns-in-Ok-clause-simulates g c =
    let contents = writer_contents g.W.Write.contents in
    let kept : Keeps (contents c.run_script.new.writer) (contents c.flush.new.self) = c.flush.ensures.bytes in
    played_is_written _ _ _ _ _ _ _ _ _ c.in_ok-text.ensures.whole c.as_slice.ensures.value c.in_ok-settings.ensures c.in_ok-run_script.ensures.plays kept
