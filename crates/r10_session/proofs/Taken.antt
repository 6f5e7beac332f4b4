-- A sending end that was taken from among others.
use Rattle.std.proofs.Common.{◌≡◌, ◌==◌, ◌<◌, ℕ, suc, false, List, [], ◌∷◌, length, take, drop, get_or, Some, refl, sym, ap, subst, ◌∙◌}
use Rattle.std.specs.List.{All, remove}
use Rattle.std.proofs.lemmas.Bool.{eqb-true}
use Rattle.std.proofs.lemmas.List.Elements.{All-append, All-drop, All-get_or, All-take}
use Rattle.std.proofs.lemmas.List.Quantifiers.{position-Some}
use Rattle.r10_body.specs.declared.spec.ChannelSpec.{ChannelSpec}
use Rattle.r10_session.specs.Ends.{TakesSender, sender_place}
use Rattle.r10_session.specs.declared.ends.Sender.{Sender}
use Rattle.r10_session.proofs.Taking.{still_there}
use Rattle.r10_shared.specs.Recorder.{ChannelRing, ring_for}
use Rattle.r10_port.specs.Ends.{Sending}
use Rattle.r10_session.specs.Lanes.{HasSender, IsFresh, IsRingNamed, IsUnused}

-- all but one
all_but : (P : Sender → Type 0) (xs : List Sender) (i : ℕ) → All P xs → All P (remove xs i)
all_but P xs i all = All-append P (take i xs) (drop (suc i) xs) (All-take P i xs all) (All-drop P (suc i) xs all)

-- where it was
record IsThere (channel : ℕ) (old : List Sender) (place : ℕ) : Type 0 where
  one : Sender
  inside : place < length old
  channel_is : (get_or old place one).channel ≡ channel

there : (channel : ℕ) (old : List Sender) (place : ℕ) → sender_place channel old ≡ Some place → IsThere channel old place
there channel [] place found = absurd (cc)
there channel (x ∷ old) place found =
    let first = position-Some (λ (s : Sender). s.channel == channel) (x ∷ old) place x found in
    record { one = x; inside = first.0; channel_is = eqb-true (get_or (x ∷ old) place x).channel channel first.1 }

module _ (channel : ℕ) (port : Sending) (old new : List Sender) (taken : TakesSender old channel port new) where
  placed : IsThere channel old taken.place
  placed = there channel old taken.place taken.found

  pub named : (rings : List ChannelRing) → All (IsRingNamed rings) old → ring_for channel rings ≡ Some port.ring
  named rings all =
      ap (λ (id : ℕ). ring_for id rings) (sym placed.channel_is) ∙ All-get_or (IsRingNamed rings) old taken.place placed.one placed.inside all ∙ ap (λ (p : Sending). Some p.ring) (taken.port_is placed.one)

  pub unused : (specs : List ChannelSpec) → All (IsFresh specs) old → IsUnused specs channel port
  unused specs all =
      subst (λ (p : Sending). IsUnused specs channel p) (taken.port_is placed.one)
      (subst (λ (id : ℕ). IsUnused specs id (get_or old taken.place placed.one).port) placed.channel_is (All-get_or (IsFresh specs) old taken.place placed.one placed.inside all))

  pub names_left : (rings : List ChannelRing) → All (IsRingNamed rings) old → All (IsRingNamed rings) new
  names_left rings all = subst (λ (l : List Sender). All (IsRingNamed rings) l) (sym taken.left) (all_but (IsRingNamed rings) old taken.place all)

  pub fresh_left : (specs : List ChannelSpec) → All (IsFresh specs) old → All (IsFresh specs) new
  fresh_left specs all = subst (λ (l : List Sender). All (IsFresh specs) l) (sym taken.left) (all_but (IsFresh specs) old taken.place all)

  pub others_left : (other : ℕ) → (channel == other) ≡ false → HasSender old other → HasSender new other
  others_left other apart has =
      subst (λ (l : List Sender). HasSender l other) (sym taken.left)
      (still_there (λ (s : Sender). s.channel == other) old taken.place placed.one placed.inside (ap (λ (id : ℕ). id == other) placed.channel_is ∙ apart) has)
