-- What a command does that did not fail.
use Rattle.std.specs.Prelude.{◌≡◌, Bool, List, ℕ, Option, Some, IfSome, Result, Ok, Err, codes, map}
use Rattle.std.specs.List.{concat}
use Rattle.std.specs.Io.KnownBytes.{Appends}
use Rattle.toml.specs.Data.{Members}
use Rattle.toml.specs.Parse.{parse_document}
use Rattle.r10_body.specs.declared.refusal.Refusal.{Refusal}
use Rattle.r10_command.specs.Command.{DoesCommand}
use Rattle.r10_session.specs.Text.{session_text}
use Rattle.r10_session.specs.declared.ended.Ended.{Ended}
use Rattle.r10_images.specs.declared.listing.Outcome.{Outcome}
use Rattle.r10_images.specs.declared.listing.Outcome.TheVariants as outcomes
use Rattle.r10_medium.specs.Disk.{Image}
use Rattle.r10_script.specs.Keys.{items_or_none_at, HasOnly}
use Rattle.r10_script.specs.Script.{AreScriptSettings, ItemsAsk}
use Rattle.r10_script.specs.Session.{AreOrders, IsFeed, IsReader, session_keys}
use Rattle.r10_script.specs.declared.session.SessionScript.{SessionScript}
use Rattle.r10_session.specs.Came.{CameOf}
use Rattle.r10_session.specs.Losses.{has_losses}
use Rattle.r10_shared.specs.Orders.{order_of}
use Rattle.r10_shared.specs.declared.order.Order.{Order}
use Rattle.r10_arguments.specs.Words.{AsksRun, AsksRunImage}

-- a text spells a session script
pub record IsSession (text : List ℕ) (script : SessionScript) : Type 0 where
  pub table : Members
  pub parsed : parse_document text ≡ Some table
  pub only : HasOnly session_keys table
  pub settings : AreScriptSettings table script.settings
  pub steps : AreOrders script.settings.channels table (codes "step") script.steps.items
  pub feeds : ItemsAsk (IsFeed script.settings.channels) (items_or_none_at table (codes "feed")) script.feeds.items
  pub orders : AreOrders script.settings.channels table (codes "order") script.orders.items
  pub readers : ItemsAsk IsReader (items_or_none_at table (codes "reader")) script.readers.items

-- a session is done where the audit says yes
abbrev pub outcome_of : Result Bool Refusal → Outcome
outcome_of (Ok Bool.true) = outcomes.Done
outcome_of (Ok Bool.false) = outcomes.Refused
outcome_of (Err r) = outcomes.Refused

-- the text is a session script, of whose feeds these have losses among their items, and which came to this over a medium that
-- it left with this image
pub record TextCame (text : List ℕ) (asked : List Bool) (image : Image) (ended : Ended) : Type 0 where
  pub script : SessionScript
  pub spelled : IsSession text script
  pub steps : List Order
  pub steps_are : map order_of script.steps.items ≡ map (λ order. Some order) steps
  pub came : CameOf script.settings.channels steps script.feeds.items script.readers.items image ended
  pub asked_are : asked ≡ map has_losses script.feeds.items

-- and its lines were written
pub record Sessions (text : List ℕ) (outcome : Outcome) (old new : Option (List ℕ)) : Type 0 where
  pub image : Image
  pub ended : Ended
  pub asked : List Bool
  pub came : TextCame text asked image ended
  pub written : Appends old new (session_text asked ended)
  pub outcome_is : outcome ≡ outcome_of ended.audit

-- and in place of its lines that image was written, block by block
pub record SessionLeaves (text : List ℕ) (outcome : Outcome) (old new : Option (List ℕ)) : Type 0 where
  pub image : Image
  pub ended : Ended
  pub asked : List Bool
  pub came : TextCame text asked image ended
  pub written : Appends old new (concat image)
  pub outcome_is : outcome ≡ outcome_of ended.audit

-- The words are those of a call, the input is what the reader had left, and a writer that held `old` then held `new`.
pub record DoesAny (words : List (List ℕ)) (input old new : Option (List ℕ)) (outcome : Outcome) : Type 0 where
  pub run : AsksRun words → IfSome input (λ text. Sessions text outcome old new)
  pub image : AsksRunImage words → IfSome input (λ text. SessionLeaves text outcome old new)
  pub other : (AsksRun words → ⊥) → (AsksRunImage words → ⊥) → DoesCommand words input old new outcome
