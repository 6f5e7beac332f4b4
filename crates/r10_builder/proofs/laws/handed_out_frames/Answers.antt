use Rattle.r10_builder.proofs.Frames.{handed_out}
use Rattle.r10_builder.proofs.laws.handed_out_frames.Goals as goal

pub returns : goal.returns
returns c = handed_out
