-- Setup texts written out.
use Rattle.std.specs.Prelude.{◌≡◌, ℕ, true, false, List, [], ◌∷◌, length, map, refl}
use Rattle.std.proofs.Common.{arith, lit≤}
use Rattle.r10_setup.specs.Setup.{FitsSetup, IsForeignSetup, setup_body, is_opaque_setup}

-- the text `ABCD`
pub four_letters : setup_body (0x41 ∷ 0x42 ∷ 0x43 ∷ 0x44 ∷ []) ≡ 0x0C ∷ 0x00 ∷ 0x00 ∷ 0x00 ∷ 0x41 ∷ 0x42 ∷ 0x43 ∷ 0x44 ∷ []
four_letters = refl

pub no_text : setup_body [] ≡ 0x0C ∷ 0x00 ∷ 0x00 ∷ 0x00 ∷ []
no_text = refl

-- bit 9 is set in the first alone; the last has no whole word
pub opaque_words : map is_opaque_setup ((0x0C ∷ 0x02 ∷ 0x00 ∷ 0x00 ∷ []) ∷ (0x0C ∷ 0x00 ∷ 0x00 ∷ 0x00 ∷ [])
    ∷ (0x0C ∷ 0x01 ∷ 0x02 ∷ 0x00 ∷ 0x09 ∷ []) ∷ (0x0C ∷ 0x02 ∷ 0x00 ∷ []) ∷ []) ≡ true ∷ false ∷ false ∷ false ∷ []
opaque_words = refl

-- the longest text, and a longer one
pub longest-text : (text : List ℕ) → length text ≡ 524260 → FitsSetup text
longest-text text is = omega (arith, is)

pub longer-text : (text : List ℕ) → length text ≡ 524261 → FitsSetup text → ⊥
longer-text text is fits = omega (arith, is, fits)

-- any word may be another recorder's, and three bytes may not
pub any-word : IsForeignSetup (0x0B ∷ 0xFF ∷ 0xFF ∷ 0xFF ∷ [])
any-word = lit≤ tt

pub three-bytes : IsForeignSetup (0x0C ∷ 0 ∷ 0 ∷ []) → ⊥
three-bytes is = omega (arith, is)
