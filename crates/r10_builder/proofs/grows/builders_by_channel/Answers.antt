use Rattle.r10_builder.proofs.Growing.{none_held, one_held, still_apart}
use Rattle.r10_builder.proofs.grows.builders_by_channel.Goals as goal

pub returns : goal.returns
returns c = record { own = one_held; none = none_held; apart = still_apart }
