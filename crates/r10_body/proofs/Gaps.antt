-- What the flag alone tells of a gap.
use Rattle.std.proofs.Common.{◌≡◌, Bool, true, false, refl, arith}
use Rattle.r10_body.specs.Gaps.{gap_of_flag, is_gap, told_lost, IsSoundGap}
use Rattle.r10_body.specs.declared.gap.Gap.{Gap}
use Rattle.r10_body.specs.declared.gap.Gap.TheVariants.{Whole, Lost, Unknown}

pub flag_told : (b : Bool) → is_gap (gap_of_flag b) ≡ b
flag_told true = refl
flag_told false = refl

pub none_told : (b : Bool) → told_lost (gap_of_flag b) ≡ 0
none_told true = refl
none_told false = refl

pub flag_sound : (b : Bool) → IsSoundGap (gap_of_flag b)
flag_sound true = tt
flag_sound false = tt

-- where no number is reported, the flag says all
pub plain_gap : (g h : Gap) → is_gap g ≡ is_gap h → told_lost g ≡ 0 → told_lost h ≡ 0 → IsSoundGap g → IsSoundGap h → g ≡ h
plain_gap Whole Whole e a b f k = refl
plain_gap Unknown Unknown e a b f k = refl
plain_gap Whole Unknown e a b f k = absurd (let no : false ≡ true = e in cc)
plain_gap Unknown Whole e a b f k = absurd (let no : true ≡ false = e in cc)
plain_gap (Lost n) h e a b f k = absurd (omega (arith, a, f.0))
plain_gap g (Lost n) e a b f k = absurd (omega (arith, b, k.0))

-- what isn't flagged is whole
pub whole_gap : (g : Gap) → is_gap g ≡ false → g ≡ Whole
whole_gap Whole e = refl
whole_gap (Lost n) e = absurd (let no : true ≡ false = e in cc)
whole_gap Unknown e = absurd (let no : true ≡ false = e in cc)
