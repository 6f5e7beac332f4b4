-- What a feed's items are to its source.
use Rattle.std.specs.Prelude.{List, map}
use Rattle.r10_script.specs.declared.session.FeedItem.{FeedItem}
use Rattle.r10_script.specs.declared.session.FeedItem.TheVariants as items
use Rattle.r10_source.specs.declared.source.SourceItem.{SourceItem}
use Rattle.r10_source.specs.declared.source.SourceItem.TheVariants as brings

abbrev pub turn_in : FeedItem → SourceItem
turn_in (items.Message timed) = brings.Message timed
turn_in (items.Lost lost) = brings.Lost lost

abbrev pub turns_in : List FeedItem → List SourceItem
turns_in items = map turn_in items
