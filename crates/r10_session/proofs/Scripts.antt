-- What a session script's tables say of its orders and feeds.
use Rattle.std.proofs.Common.{◌≡◌, ◌==◌, ℕ, true, false, List, [], ◌∷◌, Some, None, refl, subst, sym}
use Rattle.std.specs.Prelude.{IsSome, IsSomeAnd, Option}
use Rattle.std.specs.List.{All, AllByRecursion, find}
use Rattle.std.proofs.lemmas.List.Elements.{All-from_recursion}
use Rattle.toml.specs.Data.{Data, Members, as_table}
use Rattle.r10_body.specs.declared.spec.ChannelSpec.{ChannelSpec}
use Rattle.r10_machine.specs.declared.event.Event.{Event}
use Rattle.r10_machine.specs.declared.event.Event.TheVariants as events
use Rattle.r10_session.specs.Lanes.{HaveChannels}
use Rattle.r10_script.specs.Script.{EachAsks, ItemsAsk}
use Rattle.r10_script.specs.Session.{IsFeed, IsOrder, is_order}
use Rattle.r10_script.specs.declared.session.FeedTable.{FeedTable}
use Rattle.r10_shared.specs.Orders.{order_of}

is_one : (event : Event) → is_order event ≡ true → IsSome (order_of event)
is_one events.Mount fits = refl
is_one events.Dismount fits = refl
is_one (events.Tick count parts) fits = refl
is_one (events.Start name setup) fits = refl
is_one events.Stop fits = refl
is_one (events.Event number count) fits = refl
is_one events.Commit fits = refl
is_one events.Seal fits = refl
is_one events.Erase fits = refl
is_one event fits = absurd (cc)

-- what a table that is there asks for
asked_for : {A : Type 0} (P : Members → A → Type 0) (Q : A → Type 0) (x : A) (o : Option Members) → ((table : Members) → P table x → Q x) → IsSomeAnd o (λ table. P table x) → Q x
asked_for P Q x (Some table) so asks = so table asks
asked_for P Q x None so asks = absurd asks

module _ (channels : List ChannelSpec) where
  by_table : (items : List Data) (events' : List Event) → EachAsks (IsOrder channels) items events' → AllByRecursion (λ (event : Event). IsSome (order_of event)) events'
  by_table [] [] each = tt
  by_table (d ∷ items) (e ∷ events') each = (asked_for (IsOrder channels) (λ (event : Event). IsSome (order_of event)) e (as_table d) (λ table asks. is_one e asks.1) each.0, by_table items events' each.1)
  by_table [] (e ∷ events') each = absurd each
  by_table (d ∷ items) [] each = absurd each

  pub all_orders : (items : Option (List Data)) (events' : List Event) → ItemsAsk (IsOrder channels) items events' → All (λ (event : Event). IsSome (order_of event)) events'
  all_orders (Some items) events' each = All-from_recursion (λ (event : Event). IsSome (order_of event)) events' (by_table items events' each)
  all_orders None events' none = absurd none

  found : (channel : ℕ) (spec : ChannelSpec) → find (λ (c : ChannelSpec). c.id == channel) channels ≡ Some spec → IsSome (find (λ (c : ChannelSpec). c.id == channel) channels)
  found channel spec there = subst (λ (o : Option ChannelSpec). IsSome o) (sym there) refl

  by_feed : (items : List Data) (tables : List FeedTable) → EachAsks (IsFeed channels) items tables → HaveChannels channels tables
  by_feed [] [] each = tt
  by_feed (d ∷ items) (t ∷ tables) each =
      (asked_for (IsFeed channels) (λ (table : FeedTable). IsSome (find (λ (c : ChannelSpec). c.id == table.channel) channels)) t (as_table d) (λ table asks. found t.channel asks.2.0 asks.2.1) each.0, by_feed items tables each.1)
  by_feed [] (t ∷ tables) each = absurd each
  by_feed (d ∷ items) [] each = absurd each

  pub all_channels : (items : Option (List Data)) (tables : List FeedTable) → ItemsAsk (IsFeed channels) items tables → HaveChannels channels tables
  all_channels (Some items) tables each = by_feed items tables each
  all_channels None tables none = absurd none
