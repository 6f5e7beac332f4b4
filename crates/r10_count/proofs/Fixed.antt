-- Entries that all have one length.
use Rattle.std.proofs.Common.{◌≡◌, ℕ, zero, suc, ◌*◌, Some, List, [], ◌∷◌, ◌++◌, length, take, drop, refl, sym, ap, ◌∙◌, arith, length-append}
use Rattle.std.proofs.lemmas.List.{length-drop, length-take-le, take-append-drop}
use Rattle.std.proofs.Math.Nat.{suc-mul, zero-mul}
use Rattle.std.specs.List.{concat, AllByRecursion}
use Rattle.r10_count.specs.Form.{IsEntryBytes}

pub fixed_length : (size : ℕ) (parts : List (List ℕ)) → AllByRecursion (IsEntryBytes size (λ front. Some size)) parts → length (concat parts) ≡ length parts * size
fixed_length size [] h = sym (zero-mul size)
fixed_length size (part ∷ parts) h =
    let is : Some size ≡ Some (length part) = h.0.1 in
    let n : size ≡ length part = cc in
    length-append part (concat parts) ∙ omega (arith, n, fixed_length size parts h.1, suc-mul (length parts) size)

-- bytes of the length of so many entries are so many
pub fixed_parts : (size n : ℕ) (bytes : List ℕ) → length bytes ≡ n * size → (parts : List (List ℕ)) × AllByRecursion (IsEntryBytes size (λ front. Some size)) parts × (length parts ≡ n) × (bytes ≡ concat parts)
fixed_parts size zero [] e = ([], tt, refl, refl)
fixed_parts size zero (b ∷ bytes) e = absurd (omega (arith, e, zero-mul size))
fixed_parts size (suc n) bytes e =
    let first : length (take size bytes) ≡ size = length-take-le size bytes (omega (arith, e, suc-mul n size)) in
    let left = fixed_parts size n (drop size bytes) (length-drop size bytes ∙ omega (arith, e, suc-mul n size)) in (
      take size bytes ∷ left.0,
      ((omega (arith, first), ap (λ k. Some k) (sym first)), left.1),
      ap suc left.2,
      sym (take-append-drop size bytes) ∙ ap (λ t. take size bytes ++ t) left.3,
    )
