use Rattle.std.proofs.Common.{◌≡◌, string_bytes}
use Rattle.r10_command.proofs.command.write_medium.Goals as goal

pub returns-clause-image : goal.returns-clause-image
returns-clause-image g c =
    let volume : c.as_bytes-volume.result.now ≡ string_bytes c.args.format.now.volume = c.as_bytes-volume.ensures.value in
    (rw volume at c.in_default.ensures.within, rw volume at c.in_ok-write_formatted.ensures.image)
