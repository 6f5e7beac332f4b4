-- A body written out.
use Rattle.std.specs.Prelude.{◌≡◌, [], ◌∷◌, refl}
use Rattle.std.proofs.Common.{lit<}
use Rattle.r10_count.specs.Form.{body_bytes, IsForeign}
use Rattle.r10_count.specs.Gaps.{gap_form}
use Rattle.r10_count.specs.Padding.{padded}

-- three counts below 6000 in a packet of counter 5000, with gaps 0, 100 and 27
pub three_gaps-body : body_bytes gap_form 6000 5000 (5000 ∷ 5100 ∷ 5127 ∷ []) ≡ 0x03 ∷ 0x70 ∷ 0x17 ∷ 0x00 ∷ 0 ∷ 100 ∷ 27 ∷ []
three_gaps-body = refl

-- a body of another setting, and one of a word of another writer without an entry
pub another_setting-foreign : IsForeign gap_form (0x01 ∷ 0x71 ∷ 0x17 ∷ 0x00 ∷ 0 ∷ [])
another_setting-foreign = (0x0017_7101, (0 ∷ []) ∷ [], lit< tt, refl, ((lit< tt, refl), tt), refl)

pub no_entry-foreign : IsForeign gap_form (0x00 ∷ 0x70 ∷ 0x17 ∷ 0x01 ∷ [])
no_entry-foreign = (0x0117_7000, [], lit< tt, refl, tt, refl)

pub odd-padded : padded (1 ∷ 2 ∷ 3 ∷ []) ≡ 1 ∷ 2 ∷ 3 ∷ 0 ∷ []
odd-padded = refl

pub even-padded : padded (1 ∷ 2 ∷ []) ≡ 1 ∷ 2 ∷ []
even-padded = refl
