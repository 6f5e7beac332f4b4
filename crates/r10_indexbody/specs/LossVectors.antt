-- Loss reports written out.
use Rattle.std.specs.Prelude.{◌≡◌, true, false, [], ◌∷◌, ◌++◌, replicate, refl}
use Rattle.r10_indexbody.specs.Loss.{loss_body, is_loss_body}

-- one message lost on channel 5
pub one-lost : loss_body (record { channel = 5; reserved = 0; lost = 1 }) ≡ 0 ∷ 0 ∷ 0 ∷ 0 ∷ 0x4C ∷ 0x4F ∷ 0x53 ∷ 0x53 ∷ 5 ∷ 0 ∷ 0
    ∷ 0 ∷ 1 ∷ 0 ∷ 0 ∷ 0 ∷ 0 ∷ 0 ∷ 0 ∷ 0 ∷ []
one-lost = refl

pub any-fields : is_loss_body ((0 ∷ 0 ∷ 0 ∷ 0 ∷ 0x4C ∷ 0x4F ∷ 0x53 ∷ 0x53 ∷ []) ++ replicate 12 0xFF) ≡ true
any-fields = refl

pub too-short : is_loss_body ((0 ∷ 0 ∷ 0 ∷ 0 ∷ 0x4C ∷ 0x4F ∷ 0x53 ∷ 0x53 ∷ []) ++ replicate 11 0) ≡ false
too-short = refl

pub another-word : is_loss_body ((0 ∷ 0 ∷ 0 ∷ 1 ∷ 0x4C ∷ 0x4F ∷ 0x53 ∷ 0x53 ∷ []) ++ replicate 12 0) ≡ false
another-word = refl

pub other-letters : is_loss_body ((0 ∷ 0 ∷ 0 ∷ 0 ∷ 0x4C ∷ 0x4F ∷ 0x53 ∷ 0x54 ∷ []) ++ replicate 12 0) ≡ false
other-letters = refl

pub a-word-alone : is_loss_body (0 ∷ 0 ∷ 0 ∷ 0 ∷ []) ≡ false
a-word-alone = refl
