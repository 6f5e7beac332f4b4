use Rattle.std.proofs.Common.{◌∙◌, refl}
use Rattle.r10_command.proofs.Running.{plays}
use Rattle.r10_command.proofs.play.run_on_fresh.Goals as goal
use Rattle.r10_medium.specs.MemoryDisk.{memory_disk}

pub returns-clause-plays : goal.returns-clause-plays
returns-clause-plays g c =
    let contents = g.W.Write.contents in
    let world = c.in_ok-world.world in
    plays memory_disk c.args.settings world.recorder.kept.config c.args.events.items c.as_slice.result.now c.run_steps.new.world (contents c.args.writer.now) (contents c.run_steps.new.writer)
    c.in_ok-world.ensures.config c.as_slice.ensures.value (c.in_ok-run_steps.ensures.config ∙ c.in_ok-world.ensures.config) refl (c.in_ok-run_steps.ensures.runs _ c.in_ok-world.ensures.stands)
