-- New lanes, one after the other.
use Rattle.std.proofs.Common.{◌≡◌, ℕ, ◌+◌, ◌<◌, List, [], ◌∷◌, ◌++◌, length, drop, get_or, append_assoc, sym, ap, subst, ◌∙◌}
use Rattle.std.proofs.lemmas.List.{drop_more, drop_all, append-nil}
use Rattle.std.proofs.Common.{◌≤◌}
use Rattle.r10_body.specs.declared.spec.ChannelSpec.{ChannelSpec}
use Rattle.r10_session.specs.Ends.{ArePaired, IsLane}
use Rattle.r10_session.specs.declared.ends.Sender.{Sender}
use Rattle.r10_port.specs.Ends.{Receiving}

-- whatever lanes the channels from a place on have, after these they are those of all
abbrev pub PairedTo : List ChannelSpec → ℕ → List Sender → List Receiving → Type 0
PairedTo specs place senders outlets = (ss : List Sender) (os : List Receiving) → ArePaired (drop place specs) ss os → ArePaired specs (senders ++ ss) (outlets ++ os)

-- one lane more
pub one_paired : (specs : List ChannelSpec) (place : ℕ) (senders : List Sender) (outlets : List Receiving) (spec : ChannelSpec) (sender : Sender) (outlet : Receiving) → PairedTo specs place senders outlets
    → place < length specs → spec ≡ get_or specs place spec → IsLane spec sender outlet → PairedTo specs (place + 1) (senders ++ sender ∷ []) (outlets ++ outlet ∷ [])
one_paired specs place senders outlets spec sender outlet so within here lane ss os rest =
    let split : drop place specs ≡ spec ∷ drop (place + 1) specs = drop_more specs place spec within ∙ ap (λ (s : ChannelSpec). s ∷ drop (place + 1) specs) (sym here) in
    let all : ArePaired specs (senders ++ (sender ∷ ss)) (outlets ++ (outlet ∷ os)) = so (sender ∷ ss) (outlet ∷ os) (subst (λ (l : List ChannelSpec). ArePaired l (sender ∷ ss) (outlet ∷ os)) (sym split) (lane, rest)) in
    subst (λ (l : List Sender). ArePaired specs l ((outlets ++ outlet ∷ []) ++ os)) (sym (append_assoc senders (sender ∷ []) ss))
    (subst (λ (l : List Receiving). ArePaired specs (senders ++ (sender ∷ ss)) l) (sym (append_assoc outlets (outlet ∷ []) os)) all)

-- and after the last
pub all_paired : (specs : List ChannelSpec) (place : ℕ) (senders : List Sender) (outlets : List Receiving) → PairedTo specs place senders outlets → length specs ≤ place → ArePaired specs senders outlets
all_paired specs place senders outlets so done =
    let all : ArePaired specs (senders ++ []) (outlets ++ []) = so [] [] (subst (λ (l : List ChannelSpec). ArePaired l [] []) (sym (drop_all place specs done)) tt) in
    subst (λ (l : List Sender). ArePaired specs l outlets) (append-nil senders) (subst (λ (l : List Receiving). ArePaired specs (senders ++ []) l) (append-nil outlets) all)

pub none_paired : (specs : List ChannelSpec) (senders : List Sender) (outlets : List Receiving) → senders ≡ [] → outlets ≡ [] → PairedTo specs 0 senders outlets
none_paired specs senders outlets no_sender no_outlet ss os rest =
    subst (λ (l : List Sender). ArePaired specs (l ++ ss) (outlets ++ os)) (sym no_sender) (subst (λ (l : List Receiving). ArePaired specs ss (l ++ os)) (sym no_outlet) rest)
