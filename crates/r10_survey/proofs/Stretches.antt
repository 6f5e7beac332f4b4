-- Stretches with one more, and with a part more.
use Rattle.std.proofs.Common.{◌≡◌, ℕ, ◌+◌, ◌-◌, ◌^◌, ◌<◌, ◌≤◌, Bool, true, false, ◌==◌, List, [], ◌∷◌, ◌++◌, length, take, refl, sym, ap, ◌∙◌, arith, append_assoc, length-append}
use Rattle.std.specs.Prelude.{min}
use Rattle.std.proofs.lemmas.Bool.{eqb-true}
use Rattle.std.proofs.lemmas.List.{length-take, take_all, take-append-le}
use Rattle.r10_survey.specs.Parts.{Part, packet, stray}
use Rattle.r10_survey.specs.Damage.{ended, stretches_after, stretches_of, IsDamage, KeepsStretches}
use Rattle.r10_survey.specs.declared.damage.Damage.{Damage}
use Rattle.r10_survey.specs.declared.damage.Stretch.{Stretch}

-- what is kept has room for one more
pub keeps_more : (most : ℕ) (kept all : List Stretch) (s : Stretch) → kept ≡ take most all → length kept < most → kept ++ s ∷ [] ≡ take most (all ++ s ∷ [])
keeps_more most kept all s e room =
    let size : length kept ≡ min most (length all) = ap length e ∙ length-take most all in
    let whole : take most all ≡ all = take_all most all (omega (arith, size, room)) in
    let more : take most (all ++ s ∷ []) ≡ all ++ s ∷ [] = take_all most (all ++ s ∷ []) (omega (arith, size, room, length-append all (s ∷ []))) in
    ap (λ t. t ++ s ∷ []) (e ∙ whole) ∙ sym more

-- and where it has none, it stays
pub keeps_same : (most : ℕ) (kept all : List Stretch) (s : Stretch) → kept ≡ take most all → most ≤ length kept → kept ≡ take most (all ++ s ∷ [])
keeps_same most kept all s e full =
    let size : length kept ≡ min most (length all) = ap length e ∙ length-take most all in
    e ∙ sym (take-append-le most all (s ∷ []) (omega (arith, size, full)))

pub made : ℕ → ℕ → Stretch
made offset length = record { offset = offset; length = length }

one_by : (at lost : ℕ) (s : Stretch) (b : Bool) → lost == 0 ≡ b → (lost ≡ 0 → ⊥) → s.offset ≡ at - lost → s.length ≡ lost → ended at lost ≡ s ∷ []
unfolding made
one_by at lost s true is some offset size = absurd (some (eqb-true lost 0 is))
one_by at lost s false is some offset size =
    let same : made (at - lost) lost ≡ s = ap (λ n. made n lost) (sym offset) ∙ ap (made s.offset) (sym size) in
    rw is (ap (λ (t : Stretch). t ∷ []) same)

pub one_ended : (at lost : ℕ) (s : Stretch) → (lost ≡ 0 → ⊥) → s.offset ≡ at - lost → s.length ≡ lost → ended at lost ≡ s ∷ []
one_ended at lost s some offset size = one_by at lost s (lost == 0) refl some offset size

pub stray_more : (d new : Damage) (at : ℕ) (parts : List Part) (b : ℕ) → at < 2 ^ 64 - 1 → new.kept.items ≡ d.kept.items → new.number ≡ d.number → new.lost ≡ min (d.lost + 1) (2 ^ 64 - 1)
    → IsDamage d at parts → IsDamage new (at + 1) (parts ++ stray b ∷ [])
stray_more d new at parts b small kept number lost is =
    let one : d.lost + 1 ≡ new.lost = omega (arith, lost, small, is.within) in
    record {
      all = is.all;
      keeps = record { kept = kept ∙ is.keeps.kept; number = number ∙ is.keeps.number };
      within = omega (arith, one, is.within);
      goes_on = λ more.
          ap stretches_of (append_assoc parts (stray b ∷ []) more) ∙ is.goes_on (stray b ∷ more) ∙ ap (λ n. is.all ++ stretches_after (at + 1) n more) one;
    }

pub packet_more : (d new : Damage) (at : ℕ) (parts : List Part) (p : List ℕ) → ((all : List Stretch) → KeepsStretches d all → KeepsStretches new (all ++ ended at d.lost)) → new.lost ≡ 0
    → IsDamage d at parts → IsDamage new (at + length p) (parts ++ packet p ∷ [])
packet_more d new at parts p keeps none is = record {
  all = is.all ++ ended at d.lost;
  keeps = keeps is.all is.keeps;
  within = omega (arith, none);
  goes_on = λ more.
      ap stretches_of (append_assoc parts (packet p ∷ []) more) ∙ is.goes_on (packet p ∷ more)
      ∙ sym (append_assoc is.all (ended at d.lost) (stretches_after (at + length p) 0 more))
      ∙ ap (λ n. (is.all ++ ended at d.lost) ++ stretches_after (at + length p) n more) (sym none);
}
