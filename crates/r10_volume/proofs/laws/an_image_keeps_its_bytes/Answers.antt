use Rattle.r10_volume.proofs.Turning.{own_bytes}
use Rattle.r10_volume.proofs.laws.an_image_keeps_its_bytes.Goals as goal

pub returns : goal.returns
returns c = own_bytes
