-- What stands first in bytes.
use Rattle.std.proofs.Common.{◌≡◌, ℕ, ◌+◌, Bool, true, false, List, ◌∷◌, ◌++◌, length, take, drop, refl, sym, ap, ◌∙◌, append_assoc, Bor}
use Rattle.std.specs.Prelude.{Option, Some, None, IfSome, IfNone, MatchOption, nat_eq}
use Rattle.std.specs.Cmp.Lexicographic.{pointwise, same_text, other_text}
use Rattle.std.proofs.lemmas.List.{take-append-drop, take_at, append_cancel_left}
use Rattle.std.specs.Prelude.{◌↔◌, IsTrue}
use Rattle.std.specs.List.{flat_map}
use Rattle.std.proofs.lemmas.Bool.{false≢true}

abbrev pub Strips : List ℕ → List ℕ → Option (Bor (List ℕ)) → Type 0
Strips bytes front r = MatchOption r (pointwise nat_eq (take (length front) bytes) front ≡ false) (λ x. (pointwise nat_eq (take (length front) bytes) front ≡ true) × (x.now ≡ drop (length front) bytes) × (length x.now + length front ≡ length bytes))

pub found_behind : (bytes front : List ℕ) (r : Option (Bor (List ℕ))) → Strips bytes front r → IfSome r (λ rest. bytes ≡ front ++ rest.now)
found_behind bytes front None strips = tt
found_behind bytes front (Some x) strips =
    let same : take (length front) bytes ≡ front = same_text (take (length front) bytes) front (sym strips.0) in
    sym (take-append-drop (length front) bytes) ∙ ap (λ (b : List ℕ). b ++ drop (length front) bytes) same ∙ ap (λ (b : List ℕ). front ++ b) (sym strips.1)

pub none_behind : (bytes front : List ℕ) (r : Option (Bor (List ℕ))) → Strips bytes front r → IfNone r ((rest : List ℕ) → bytes ≡ front ++ rest → ⊥)
none_behind bytes front None strips = λ rest e. other_text (take (length front) bytes) front (sym strips) (ap (take (length front)) e ∙ take_at front rest (length front) refl)
none_behind bytes front (Some x) strips = tt

-- these bytes don't stand first
abbrev pub Missing : List ℕ → List ℕ → Type 0
Missing bytes front = (rest : List ℕ) → bytes ≡ front ++ rest → ⊥

pub missing_first : (bytes front a b : List ℕ) → front ≡ a → Missing bytes front → Missing bytes (a ++ b)
missing_first bytes front a b same missing = λ rest e. missing (b ++ rest) (e ∙ append_assoc a b rest ∙ ap (λ (t : List ℕ). t ++ (b ++ rest)) (sym same))

pub missing_then : (bytes front left a b : List ℕ) → front ≡ a → bytes ≡ front ++ left → Missing left b → Missing bytes (a ++ b)
missing_then bytes front left a b same found missing =
    λ rest e. missing rest (append_cancel_left a left (b ++ rest) (sym (found ∙ ap (λ (t : List ℕ). t ++ left) same) ∙ e ∙ append_assoc a b rest))

pub found_then : (bytes front left a b rest : List ℕ) → front ≡ a → bytes ≡ front ++ left → left ≡ b ++ rest → bytes ≡ (a ++ b) ++ rest
found_then bytes front left a b rest same found more = found ∙ ap (λ (t : List ℕ). t ++ left) same ∙ ap (λ (t : List ℕ). a ++ t) more ∙ sym (append_assoc a b rest)

pub missing_same : (bytes front a : List ℕ) → front ≡ a → Missing bytes front → Missing bytes a
missing_same bytes front a same missing = λ rest e. missing rest (e ∙ ap (λ (t : List ℕ). t ++ rest) (sym same))

pub if_none : {T : Type 0} (o : Option T) (P : Type 0) → P → IfNone o P
if_none None P p = p
if_none (Some x) P p = tt

pub if_none_map : {T : Type 0} (o : Option T) (P Q : Type 0) → (P → Q) → IfNone o P → IfNone o Q
if_none_map None P Q f p = f p
if_none_map (Some x) P Q f p = tt

-- a test of what stands after a front
pub framed : (body front word rest whole : List ℕ) (b : Bool) → front ≡ word → body ≡ front ++ rest → IsTrue b ↔ (rest ≡ whole) → IsTrue b ↔ (body ≡ word ++ whole)
framed body front word rest whole b same found test =
    let at : body ≡ word ++ rest = found ∙ ap (λ (t : List ℕ). t ++ rest) same in
    (λ e. at ∙ ap (λ (t : List ℕ). word ++ t) (test.0 e), λ e. test.1 (append_cancel_left word rest whole (sym at ∙ e)))

pub unframed : (body front word whole : List ℕ) → front ≡ word → Missing body front → IsTrue false ↔ (body ≡ word ++ whole)
unframed body front word whole same missing = (λ e. absurd (false≢true e), λ e. absurd (missing whole (e ∙ ap (λ (t : List ℕ). t ++ whole) (sym same))))

pub step_none : {A : Type 0} (P : Type 0) (code : A → List ℕ) (left : List ℕ) (x : A) (xs more : List A) → Missing left (code x) → xs ≡ x ∷ more → P ↔ (left ≡ flat_map code xs) → IsTrue false ↔ P
step_none P code left x xs more missing is test = (λ e. absurd (false≢true e), λ p. absurd (missing (flat_map code more) (test.0 p ∙ ap (λ ys. flat_map code ys) is)))
