-- Channels that differ: of the lanes, and of times and events.
use Rattle.std.proofs.Common.{◌≡◌, ℕ, true, false, ◌==◌, List, [], ◌∷◌, map, sym, ◌∙◌}
use Rattle.std.specs.List.{AllByRecursion, IsDistinct}
use Rattle.std.proofs.lemmas.Bool.{eq-eqb}
use Rattle.r10_body.specs.declared.spec.ChannelSpec.{ChannelSpec}
use Rattle.r10_machine.specs.Config.{Config}
use Rattle.r10_machine.specs.Limits.{IsConfig, channel_ids}
use Rattle.r10_machine.proofs.Ranges.{ids_distinct, parts_of}
use Rattle.r10_openfile.specs.Stopping.{ChannelsAreApart}

others : (n : ℕ) (specs : List ChannelSpec) → AllByRecursion (λ (id : ℕ). (n == id) ≡ false) (channel_ids specs) → AllByRecursion (λ (other : ChannelSpec). other.id ≡ n → ⊥) specs
others n [] all = tt
others n (spec ∷ specs) all = (λ same. differs (sym (eq-eqb n spec.id (sym same)) ∙ all.0), others n specs all.1)
  where
    differs : true ≡ false → ⊥
    differs e = cc

distinct : (specs : List ChannelSpec) → IsDistinct (λ a b. a == b) (channel_ids specs) → ChannelsAreApart specs
unfolding IsDistinct
distinct [] all = tt
distinct (spec ∷ specs) all = (others spec.id specs all.0, distinct specs all.1)

-- the channels of settings
pub record Apart (s : Config) : Type 0 where
  pub lanes : ChannelsAreApart s.channels
  pub times : AllByRecursion (λ (spec : ChannelSpec). spec.id ≡ s.time → ⊥) s.channels
  pub events : AllByRecursion (λ (spec : ChannelSpec). spec.id ≡ s.event → ⊥) s.channels

pub apart_of : (s : Config) → IsConfig s → Apart s
unfolding IsDistinct
apart_of s limits =
    let all = ids_distinct [] (s.time ∷ s.event ∷ channel_ids s.channels) (parts_of s limits).ids in
    record { lanes = distinct s.channels all.1.1; times = others s.time s.channels all.0.1; events = others s.event s.channels all.1.0 }
