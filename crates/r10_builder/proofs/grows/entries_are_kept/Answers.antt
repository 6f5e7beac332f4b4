use Rattle.r10_builder.proofs.Growing.{joins as entries_join, closes as entries_close, between as between_growths, goes_on as go, cost_more, same_cost}
use Rattle.r10_builder.proofs.grows.entries_are_kept.Goals as goal

pub returns : goal.returns
returns c = record { joins = entries_join; closes = entries_close; between = between_growths; goes_on = go; cost = cost_more; same = same_cost }
