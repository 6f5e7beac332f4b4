-- The builder of a channel among the others.
use Rattle.std.proofs.Common.{◌≡◌, ℕ, zero, suc, ◌<◌, ◌≤◌, List, [], ◌∷◌, length, get_or, set, refl, sym, ap, subst, ◌∙◌, arith}
use Rattle.std.specs.List.{AllByRecursion}
use Rattle.r10_body.specs.Packets.{Packet}
use Rattle.r10_body.specs.declared.spec.ChannelSpec.{ChannelSpec}
use Rattle.r10_builder.specs.Packing.{IsLimited}
use Rattle.r10_builder.specs.State.{BuilderState}
use Rattle.r10_builder.specs.Grows.{BuildersAreApart, HasNoneOf}
use Rattle.r10_builder.specs.Settings.{AreChannelSettings, KeepsSettings, KeepsSpec, specs_of}

-- ---- settings

all_above : (least : ℕ) (b : BuilderState) (builders : List BuilderState) → b.spec.id ≤ least → AreChannelSettings least (specs_of builders) → HasNoneOf b.spec.id builders
all_above least b [] le are = tt
all_above least b (c ∷ builders) le are = (λ e. absurd (omega (arith, le, are.0, e)), all_above c.spec.id b builders (omega (arith, le, are.0)) are.2)

pub are_apart : (least : ℕ) (builders : List BuilderState) → AreChannelSettings least (specs_of builders) → BuildersAreApart builders
are_apart least [] are = tt
are_apart least (b ∷ builders) are = (all_above b.spec.id b builders (omega arith) are.2, are_apart b.spec.id builders are.2)

-- what is known of the settings at a place
pub record IsSet (spec : ChannelSpec) : Type 0 where
  pub above : 0 < spec.id
  pub limited : IsLimited spec

pub is_set : (least : ℕ) (builders : List BuilderState) (i : ℕ) (d : BuilderState) → i < length builders → AreChannelSettings least (specs_of builders) → IsSet (get_or builders i d).spec
is_set least [] i d lt are = absurd (omega arith)
is_set least (b ∷ builders) zero d lt are = record { above = omega (arith, are.0); limited = are.1 }
is_set least (b ∷ builders) (suc i) d lt are = is_set b.spec.id builders i d (omega arith) are.2

pub same_specs : (builders : List BuilderState) (i : ℕ) (d new : BuilderState) → new.spec ≡ (get_or builders i d).spec → specs_of (set builders i new) ≡ specs_of builders
same_specs [] i d new same = refl
same_specs (b ∷ builders) zero d new same = ap (λ (s : ChannelSpec). s ∷ specs_of builders) same
same_specs (b ∷ builders) (suc i) d new same = ap (λ (ss : List ChannelSpec). b.spec ∷ ss) (same_specs builders i d new same)

-- ---- packets that keep to settings

pub kept_at : (p : Packet) (builders : List BuilderState) (i : ℕ) (d : BuilderState) → i < length builders → KeepsSettings (specs_of builders) p → p.channel ≡ (get_or builders i d).spec.id → KeepsSpec (get_or builders i d).spec p
kept_at p [] i d lt kept on = absurd (omega arith)
kept_at p (b ∷ builders) zero d lt kept on = kept.0 on
kept_at p (b ∷ builders) (suc i) d lt kept on = kept_at p builders i d (omega arith) kept.1 on

-- a packet of channel 0 is on none of the channels
pub keeps_nowhere : (least : ℕ) (specs : List ChannelSpec) (p : Packet) → p.channel ≡ 0 → AreChannelSettings least specs → KeepsSettings specs p
keeps_nowhere least [] p zero_is are = tt
keeps_nowhere least (spec ∷ specs) p zero_is are = (λ e. absurd (omega (arith, zero_is, e, are.0)), keeps_nowhere spec.id specs p zero_is are.2)

-- where a packet is on one of the channels and keeps to its settings, it keeps to all
pub none_other : (p : Packet) (builders : List BuilderState) → HasNoneOf p.channel builders → KeepsSettings (specs_of builders) p
none_other p [] none = tt
none_other p (b ∷ builders) none = (λ e. absurd (none.0 (sym e)), none_other p builders none.1)

pub not_first : (b d : BuilderState) (builders : List BuilderState) (i : ℕ) → i < length builders → AllByRecursion (λ (c : BuilderState). c.spec.id ≡ b.spec.id → ⊥) builders → (get_or builders i d).spec.id ≡ b.spec.id → ⊥
not_first b d [] i lt apart same = absurd (omega arith)
not_first b d (c ∷ builders) zero lt apart same = apart.0 same
not_first b d (c ∷ builders) (suc i) lt apart same = not_first b d builders i (omega arith) apart.1 same

pub keeps_all : (p : Packet) (builders : List BuilderState) (i : ℕ) (d : BuilderState) → i < length builders → BuildersAreApart builders → p.channel ≡ (get_or builders i d).spec.id → KeepsSpec (get_or builders i d).spec p
    → KeepsSettings (specs_of builders) p
keeps_all p [] i d lt apart on keeps = absurd (omega arith)
keeps_all p (b ∷ builders) zero d lt apart on keeps = (λ e. keeps, none_other p builders (subst (λ (n : ℕ). HasNoneOf n builders) (sym on) apart.0))
keeps_all p (b ∷ builders) (suc i) d lt apart on keeps = (λ e. absurd (not_first b d builders i (omega arith) apart.0 (sym on ∙ e)), keeps_all p builders i d (omega arith) apart.1 on keeps)

pub one_there : (builders : List BuilderState) (i : ℕ) (d : BuilderState) → i < length builders → HasNoneOf (get_or builders i d).spec.id builders → ⊥
one_there [] i d lt none = absurd (omega arith)
one_there (b ∷ builders) zero d lt none = none.0 refl
one_there (b ∷ builders) (suc i) d lt none = one_there builders i d (omega arith) none.1
