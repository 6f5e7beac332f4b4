use Rattle.r10_dirchain.proofs.Turning.{formatted_moments, formatted_settled, formatted_bytes}
use Rattle.r10_dirchain.proofs.formatting.format.Goals as goal

pub returns-in-Ok-clause-settled : goal.returns-in-Ok-clause-settled
returns-in-Ok-clause-settled g c =
    formatted_settled c.args.volume.now c.empty_directory.result (g.M.BlockMedium.disk c.args.medium.now).blocks (g.M.BlockMedium.disk c.put_block.new.medium) c.empty_directory.ensures c.in-Ok.ensures.settled

pub returns-in-Ok-clause-bytes : goal.returns-in-Ok-clause-bytes
returns-in-Ok-clause-bytes g c =
    formatted_bytes c.args.volume.now c.empty_directory.result (g.M.BlockMedium.disk c.args.medium.now).blocks (g.M.BlockMedium.disk c.put_block.new.medium) c.empty_directory.ensures c.in-Ok.ensures.settled

pub returns-in-Ok-clause-moments : goal.returns-in-Ok-clause-moments
returns-in-Ok-clause-moments g c = formatted_moments c.args.volume.now c.empty_directory.result _ _ c.empty_directory.ensures c.put_block.ensures.moments

pub returns-in-Err-clause-moments : goal.returns-in-Err-clause-moments
returns-in-Err-clause-moments g c = formatted_moments c.args.volume.now c.empty_directory.result _ _ c.empty_directory.ensures c.put_block.ensures.moments
