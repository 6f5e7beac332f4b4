-- Which feeds of a session have losses among their items.
use Rattle.std.specs.Prelude.{Bool, true, false}
use Rattle.std.specs.List.{list_any}
use Rattle.r10_script.specs.declared.session.FeedItem.{FeedItem}
use Rattle.r10_script.specs.declared.session.FeedItem.TheVariants.{Message, Lost}
use Rattle.r10_script.specs.declared.session.FeedTable.{FeedTable}

abbrev pub is_loss : FeedItem → Bool
is_loss (Message m) = false
is_loss (Lost n) = true

abbrev pub has_losses : FeedTable → Bool
has_losses table = list_any is_loss table.items
