use Rattle.std.proofs.Common.{◌∙◌}
use Rattle.std.proofs.lemmas.Nat.{le_bytes_8}
use Rattle.r10_packetout.proofs.ending.at_once.Goals as goal

pub returns : goal.returns
returns c = c.to_le_bytes.ensures ∙ le_bytes_8 c.args.bytes.now c.from_le_bytes.result c.told-bytes c.fits-bytes c.from_le_bytes.ensures
