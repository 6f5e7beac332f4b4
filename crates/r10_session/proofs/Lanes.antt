-- New lanes, and the rings that are named for them.
use Rattle.std.proofs.Common.{◌≡◌, ◌==◌, ◌||◌, ℕ, cond, Bool, true, false, true≢false, List, [], ◌∷◌, map, Option, Some, None, refl, sym, ap, subst, ◌∙◌}
use Rattle.std.specs.Prelude.{IsSome}
use Rattle.std.specs.List.{All, AllByRecursion, IsDistinct, find, list_any}
use Rattle.std.proofs.lemmas.Bool.{eq-eqb}
use Rattle.std.proofs.lemmas.List.Elements.{All-from_recursion}
use Rattle.std.proofs.lemmas.Map.Keys.{IsDistinct-head, IsDistinct-tail}
use Rattle.r10_body.specs.declared.spec.ChannelSpec.{ChannelSpec}
use Rattle.r10_session.specs.Ends.{ArePaired}
use Rattle.r10_session.specs.declared.ends.Sender.{Sender}
use Rattle.r10_shared.specs.Recorder.{AreNamed, ChannelRing, outlet_received, outlet_spec, ring_for}
use Rattle.r10_machine.specs.Limits.{channel_ids}
use Rattle.r10_port.specs.Ends.{Receiving, Ring}
use Rattle.r10_session.specs.Lanes.{HasSender, HaveChannels, IsFresh, IsRingNamed, rings_of}
use Rattle.r10_script.specs.declared.session.FeedTable.{FeedTable}

-- the receiving ends are of the channels, and received nothing
pub specs_are : (specs : List ChannelSpec) (senders : List Sender) (outlets : List Receiving) → ArePaired specs senders outlets → map outlet_spec outlets ≡ specs
specs_are [] [] [] paired = refl
specs_are (a ∷ specs) (b ∷ senders) (c ∷ outlets) paired = ap (λ (s : ChannelSpec). s ∷ map outlet_spec outlets) paired.0.spec_is ∙ ap (λ (ss : List ChannelSpec). a ∷ ss) (specs_are specs senders outlets paired.1)
specs_are [] [] (c ∷ outlets) paired = absurd paired
specs_are [] (b ∷ senders) [] paired = absurd paired
specs_are [] (b ∷ senders) (c ∷ outlets) paired = absurd paired
specs_are (a ∷ specs) [] [] paired = absurd paired
specs_are (a ∷ specs) [] (c ∷ outlets) paired = absurd paired
specs_are (a ∷ specs) (b ∷ senders) [] paired = absurd paired

pub nothing_received : (specs : List ChannelSpec) (senders : List Sender) (outlets : List Receiving) → ArePaired specs senders outlets → AllByRecursion (λ (o : Receiving). outlet_received o ≡ []) outlets
nothing_received [] [] [] paired = tt
nothing_received (a ∷ specs) (b ∷ senders) (c ∷ outlets) paired = (paired.0.received_is, nothing_received specs senders outlets paired.1)
nothing_received [] [] (c ∷ outlets) paired = absurd paired
nothing_received [] (b ∷ senders) [] paired = absurd paired
nothing_received [] (b ∷ senders) (c ∷ outlets) paired = absurd paired
nothing_received (a ∷ specs) [] [] paired = absurd paired
nothing_received (a ∷ specs) [] (c ∷ outlets) paired = absurd paired
nothing_received (a ∷ specs) (b ∷ senders) [] paired = absurd paired

-- ---- names

ids_are : (outlets : List Receiving) → channel_ids (map outlet_spec outlets) ≡ map (λ (o : Receiving). o.spec.id) outlets
ids_are [] = refl
ids_are (o ∷ outlets) = ap (λ (ids : List ℕ). o.spec.id ∷ ids) (ids_are outlets)

-- a ring before the others, of another channel
behind : (r : ChannelRing) (rings : List ChannelRing) (outlets : List Receiving) → AllByRecursion (λ (id : ℕ). (r.channel == id) ≡ false) (map (λ (o : Receiving). o.spec.id) outlets) → AreNamed rings outlets → AreNamed (r ∷ rings) outlets
behind r rings [] apart named = tt
behind r rings (o ∷ outlets) apart named =
    (subst (λ b. cond b (Some r.ring) (ring_for o.spec.id rings) ≡ Some o.ring) (sym apart.0) named.0, behind r rings outlets apart.1 named.1)

all_named : (outlets : List Receiving) → IsDistinct (λ a b. a == b) (map (λ (o : Receiving). o.spec.id) outlets) → AreNamed (rings_of outlets) outlets
all_named [] distinct = tt
all_named (o ∷ outlets) distinct = (
  subst (λ b. cond b (Some o.ring) (ring_for o.spec.id (rings_of outlets)) ≡ Some o.ring) (sym (eq-eqb o.spec.id o.spec.id refl)) refl,
  behind (record { channel = o.spec.id; ring = o.ring }) (rings_of outlets) outlets (IsDistinct-head _ o.spec.id _ distinct) (all_named outlets (IsDistinct-tail _ o.spec.id _ distinct)),
)

-- each lane's ring is named for its channel, where no two channels have one ID
pub lanes_named : (specs : List ChannelSpec) (senders : List Sender) (outlets : List Receiving) (time event : ℕ) → ArePaired specs senders outlets → IsDistinct (λ a b. a == b) (time ∷ event ∷ channel_ids specs) → AreNamed (rings_of outlets) outlets
lanes_named specs senders outlets time event paired distinct =
    let apart : IsDistinct (λ a b. a == b) (channel_ids specs) = IsDistinct-tail _ event _ (IsDistinct-tail _ time _ distinct) in
    all_named outlets (subst (λ ids. IsDistinct (λ a b. a == b) ids) (ap (λ ss. channel_ids ss) (sym (specs_are specs senders outlets paired)) ∙ ids_are outlets) apart)

-- and that of each sending end
by_senders : (rings : List ChannelRing) (specs : List ChannelSpec) (senders : List Sender) (outlets : List Receiving) → ArePaired specs senders outlets → AreNamed rings outlets → AllByRecursion (IsRingNamed rings) senders
by_senders rings [] [] [] paired named = tt
by_senders rings (a ∷ specs) (s ∷ senders) (o ∷ outlets) paired named = (
  ap (λ (id : ℕ). ring_for id rings) (paired.0.channel_is ∙ ap (λ (c : ChannelSpec). c.id) (sym paired.0.spec_is)) ∙ named.0 ∙ ap (λ (r : Ring). Some r) paired.0.ring_is,
  by_senders rings specs senders outlets paired.1 named.1,
)
by_senders rings [] [] (c ∷ outlets) paired named = absurd paired
by_senders rings [] (b ∷ senders) [] paired named = absurd paired
by_senders rings [] (b ∷ senders) (c ∷ outlets) paired named = absurd paired
by_senders rings (a ∷ specs) [] [] paired named = absurd paired
by_senders rings (a ∷ specs) [] (c ∷ outlets) paired named = absurd paired
by_senders rings (a ∷ specs) (b ∷ senders) [] paired named = absurd paired

pub senders_named : (specs : List ChannelSpec) (senders : List Sender) (outlets : List Receiving) (time event : ℕ) → ArePaired specs senders outlets → IsDistinct (λ a b. a == b) (time ∷ event ∷ channel_ids specs) → All (IsRingNamed (rings_of outlets)) senders
senders_named specs senders outlets time event paired distinct =
    All-from_recursion (IsRingNamed (rings_of outlets)) senders (by_senders (rings_of outlets) specs senders outlets paired (lanes_named specs senders outlets time event paired distinct))

-- ---- what the channels are set to

-- a channel before the others, of another ID
fresh_behind : (spec : ChannelSpec) (specs : List ChannelSpec) (senders : List Sender) → AllByRecursion (λ (s : Sender). (spec.id == s.channel) ≡ false) senders → AllByRecursion (IsFresh specs) senders → AllByRecursion (IsFresh (spec ∷ specs)) senders
fresh_behind spec specs [] apart fresh = tt
fresh_behind spec specs (s ∷ senders) apart fresh = (
  record {
    spec = fresh.0.spec;
    there = subst (λ b. cond b (Some spec) (find (λ (c : ChannelSpec). c.id == s.channel) specs) ≡ Some fresh.0.spec) (sym apart.0) fresh.0.there;
    lane_is = fresh.0.lane_is;
  },
  fresh_behind spec specs senders apart.1 fresh.1,
)

-- the sending ends are of these channels
apart_too : (id : ℕ) (specs : List ChannelSpec) (senders : List Sender) (outlets : List Receiving) → ArePaired specs senders outlets → AllByRecursion (λ (other : ℕ). (id == other) ≡ false) (channel_ids specs) → AllByRecursion (λ (s : Sender). (id == s.channel) ≡ false) senders
apart_too id [] [] [] paired apart = tt
apart_too id (a ∷ specs) (s ∷ senders) (o ∷ outlets) paired apart = (ap (λ (n : ℕ). id == n) paired.0.channel_is ∙ apart.0, apart_too id specs senders outlets paired.1 apart.1)
apart_too id [] [] (c ∷ outlets) paired apart = absurd paired
apart_too id [] (b ∷ senders) [] paired apart = absurd paired
apart_too id [] (b ∷ senders) (c ∷ outlets) paired apart = absurd paired
apart_too id (a ∷ specs) [] [] paired apart = absurd paired
apart_too id (a ∷ specs) [] (c ∷ outlets) paired apart = absurd paired
apart_too id (a ∷ specs) (b ∷ senders) [] paired apart = absurd paired

by_fresh : (specs : List ChannelSpec) (senders : List Sender) (outlets : List Receiving) → ArePaired specs senders outlets → IsDistinct (λ a b. a == b) (channel_ids specs) → AllByRecursion (IsFresh specs) senders
by_fresh [] [] [] paired distinct = tt
by_fresh (a ∷ specs) (s ∷ senders) (o ∷ outlets) paired distinct = (
  record {
    spec = a;
    there = subst (λ b. cond b (Some a) (find (λ (c : ChannelSpec). c.id == s.channel) specs) ≡ Some a) (sym (eq-eqb a.id s.channel (sym paired.0.channel_is))) refl;
    lane_is = paired.0.lane_is;
  },
  fresh_behind a specs senders (apart_too a.id specs senders outlets paired.1 (IsDistinct-head _ a.id _ distinct)) (by_fresh specs senders outlets paired.1 (IsDistinct-tail _ a.id _ distinct)),
)
by_fresh [] [] (c ∷ outlets) paired distinct = absurd paired
by_fresh [] (b ∷ senders) [] paired distinct = absurd paired
by_fresh [] (b ∷ senders) (c ∷ outlets) paired distinct = absurd paired
by_fresh (a ∷ specs) [] [] paired distinct = absurd paired
by_fresh (a ∷ specs) [] (c ∷ outlets) paired distinct = absurd paired
by_fresh (a ∷ specs) (b ∷ senders) [] paired distinct = absurd paired

pub senders_fresh : (specs : List ChannelSpec) (senders : List Sender) (outlets : List Receiving) (time event : ℕ) → ArePaired specs senders outlets → IsDistinct (λ a b. a == b) (time ∷ event ∷ channel_ids specs) → All (IsFresh specs) senders
senders_fresh specs senders outlets time event paired distinct =
    All-from_recursion (IsFresh specs) senders (by_fresh specs senders outlets paired (IsDistinct-tail _ event _ (IsDistinct-tail _ time _ distinct)))

-- ---- the channels of feeds

has_sender : (channel : ℕ) (specs : List ChannelSpec) (senders : List Sender) (outlets : List Receiving) → ArePaired specs senders outlets → IsSome (find (λ (c : ChannelSpec). c.id == channel) specs) → HasSender senders channel
has_sender channel [] [] [] paired some = absurd (true≢false (sym some))
has_sender channel (a ∷ specs) (s ∷ senders) (o ∷ outlets) paired some = by (a.id == channel) refl some (λ later. has_sender channel specs senders outlets paired.1 later)
  where
    same : (s.channel == channel) ≡ (a.id == channel)
    same = ap (λ (n : ℕ). n == channel) paired.0.channel_is

    by : (b : Bool) → (a.id == channel) ≡ b → IsSome (find (λ (c : ChannelSpec). c.id == channel) (a ∷ specs)) → (IsSome (find (λ (c : ChannelSpec). c.id == channel) specs) → HasSender senders channel) → HasSender (s ∷ senders) channel
    by true is some rest = rw (same, is) refl
    by false is some rest = rw (same, is) (rest (rw is at some))
has_sender channel [] [] (c ∷ outlets) paired some = absurd paired
has_sender channel [] (b ∷ senders) [] paired some = absurd paired
has_sender channel [] (b ∷ senders) (c ∷ outlets) paired some = absurd paired
has_sender channel (a ∷ specs) [] [] paired some = absurd paired
has_sender channel (a ∷ specs) [] (c ∷ outlets) paired some = absurd paired
has_sender channel (a ∷ specs) (b ∷ senders) [] paired some = absurd paired

pub feeds_have : (specs : List ChannelSpec) (senders : List Sender) (outlets : List Receiving) (tables : List FeedTable) → ArePaired specs senders outlets → HaveChannels specs tables → AllByRecursion (λ (table : FeedTable). HasSender senders table.channel) tables
feeds_have specs senders outlets [] paired have = tt
feeds_have specs senders outlets (t ∷ tables) paired have = (has_sender t.channel specs senders outlets paired have.0, feeds_have specs senders outlets tables paired have.1)
