use Rattle.std.proofs.Common.{rules}
use Rattle.std.specs.List.{concat}
use Rattle.std.specs.Io.Buffered.{writer_contents}
use Rattle.std.specs.Io.KnownBytes.{Appends}
use Rattle.r10_medium.specs.MemoryDisk.{memory_disk}
use Rattle.r10_command.proofs.Running.{left_is_written}
use Rattle.r10_command.proofs.image.sim_image.Goals as goal

pub returns-clause-image : goal.returns-clause-image
returns-clause-image g c =
    let contents = writer_contents g.W.Write.contents in
    let image = (memory_disk c.in_ok-world.world.recorder.medium).blocks in
    let written : Appends (contents c.args.writer.now) (contents c.write_image.new.writer) (concat image) = search rules in
    left_is_written _ _ _ _ _ image _ _ _ _ c.in_ok-text.ensures.whole c.as_slice.ensures.value c.in_ok-settings.ensures c.in_ok-world.ensures.plays written
