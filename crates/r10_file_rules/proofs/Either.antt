-- Tests that are joined.
use Rattle.std.proofs.Common.{◌≡◌, Bool, true, false, IsTrue, sym, ◌∙◌}
use Rattle.std.specs.Prelude.{◌↔◌}
use Rattle.std.proofs.lemmas.Bool.{false≢true}

pub not_first : (A B : Type 0) (a : Bool) → a ≡ false → IsTrue a ↔ A → IsTrue a ↔ (A × B)
not_first A B a is first = (λ e. absurd (false≢true (sym is ∙ e)), λ both. first.1 both.0)

pub not_any : (A B C : Type 0) (a : Bool) → a ≡ false → IsTrue a ↔ A → IsTrue a ↔ (A × B × C)
not_any A B C a is first = (λ e. absurd (false≢true (sym is ∙ e)), λ all. first.1 all.0)

pub with_first : (A B C : Type 0) (a b : Bool) → a ≡ true → IsTrue a ↔ A → IsTrue b ↔ (B × C) → IsTrue b ↔ (A × B × C)
with_first A B C a b is first rest = (λ e. (first.0 is, (rest.0 e).0, (rest.0 e).1), λ all. rest.1 (all.1, all.2))
