-- What was done first and then, was done in this order.
use Rattle.std.proofs.Common.{◌≡◌, ◌∙◌, ℕ, List, [], ◌∷◌, ◌++◌, length, refl, subst, ap}
use Rattle.std.specs.List.{AllByRecursion}
use Rattle.r10_body.specs.declared.spec.ChannelSpec.{ChannelSpec}
use Rattle.r10_held.specs.State.{HeldState}
use Rattle.r10_medium.specs.Disk.{Disk}
use Rattle.r10_shared.specs.Desk.{DoesAll, DoesAsked, channel_count}
use Rattle.r10_shared.specs.Rounds.{Asked}
use Rattle.r10_shared.specs.Rounds.Asked.{Commits, Pumps}

pub all_join : {X : Type 0} (P : X → Type 0) (xs ys : List X) → AllByRecursion P xs → AllByRecursion P ys
    → AllByRecursion P (xs ++ ys)
all_join P [] ys first second = second
all_join P (x ∷ xs) ys (here, first) second = (here, all_join P xs ys first second)

module _ {M : Type 0} (disk : M → Disk) where
  pub does_none : (a : HeldState M) → DoesAll disk a [] a
  does_none a = refl

  pub does_join : (a b c : HeldState M) (xs ys : List Asked) → DoesAll disk a xs b → DoesAll disk b ys c
      → DoesAll disk a (xs ++ ys) c
  does_join a b c [] ys first second = subst (λ (s : HeldState M). DoesAll disk s ys c) first second
  does_join a b c (x ∷ xs) ys (mid, now, rest) second = (mid, now, does_join mid b c xs ys rest second)

  config_stays : (ask : Asked) (a b : HeldState M) → DoesAsked disk ask a b
      → b.recorder.kept.config.channels ≡ a.recorder.kept.config.channels
  config_stays (Pumps place most answer) a b does = ap (λ c. c.channels) does.config
  config_stays (Commits answer) a b does = ap (λ c. c.channels) does.config

  pub does_keep : (a b : HeldState M) (xs : List Asked) → DoesAll disk a xs b → channel_count b ≡ channel_count a
  does_keep a b [] first = ap (λ (s : HeldState M). channel_count s) first
  does_keep a b (x ∷ xs) (mid, now, rest) = does_keep mid b xs rest
      ∙ ap (λ (l : List ChannelSpec). length l) (config_stays x a mid now)
