use Rattle.r10_volume.proofs.EmptyMedium.{is_named, made_moments}
use Rattle.r10_volume.proofs.formatting.format.Goals as goal

pub returns-in-Ok-clause-moments : goal.returns-in-Ok-clause-moments
returns-in-Ok-clause-moments g c =
    made_moments c.args.settings.now c.directory-directory.result c.volume-volume.result.now (g.M.BlockMedium.disk c.args.medium.now) (g.M.BlockMedium.disk c.format.new.medium)
    c.directory-directory.ensures.value c.volume-volume.ensures.value c.requires c.format.ensures.usable c.format.ensures.moments

pub returns-in-Err-BadName-clause-refused : goal.returns-in-Err-BadName-clause-refused
returns-in-Err-BadName-clause-refused g c =
    absurd (is_named c.args.settings.now c.volume-volume.result.now c.in-Err-BadName.field-0 c.channels-channels.ensures.limits c.volume-volume.ensures.value c.in-Err-BadName.ensures.named c.in-Err-BadName.field-0-is)

pub returns-in-Err-BadName-clause-counts : goal.returns-in-Err-BadName-clause-counts
returns-in-Err-BadName-clause-counts g c =
    absurd (is_named c.args.settings.now c.volume-volume.result.now c.in-Err-BadName.field-0 c.channels-channels.ensures.limits c.volume-volume.ensures.value c.in-Err-BadName.ensures.named c.in-Err-BadName.field-0-is)
