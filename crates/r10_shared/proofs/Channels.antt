-- The channel at a place.
use Rattle.std.proofs.Common.{◌≡◌, ◌<◌, ◌∙◌, ℕ, List, length, get_or, sym, ap}
use Rattle.std.proofs.lemmas.List.{get_or_default}
use Rattle.r10_body.specs.declared.spec.ChannelSpec.{ChannelSpec}

pub same_channel : (xs ys : List ChannelSpec) (n : ℕ) (d e : ChannelSpec) → n < length xs → ys ≡ xs → (get_or xs n d).id ≡ (get_or ys n e).id
same_channel xs ys n d e inside same = ap (λ (c : ChannelSpec). c.id) (get_or_default xs n d e inside) ∙ ap (λ (l : List ChannelSpec). (get_or l n e).id) (sym same)
