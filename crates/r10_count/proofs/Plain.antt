-- Entries whose spelling does not look at the entry before.
use Rattle.std.proofs.Common.{◌≡◌, ℕ, List, [], ◌∷◌, refl}
use Rattle.std.specs.List.{flat_map, AllByRecursion}
use Rattle.r10_count.specs.Form.{Form, FitsAll, spelled_all}

pub plain_spelled : {E : Type 0} (form : Form E) (spelled : E → List ℕ) → ((before : ℕ) (e : E) → form.spelled before e ≡ spelled e) → (before : ℕ) (es : List E) → spelled_all form before es ≡ flat_map spelled es
plain_spelled form spelled same before [] = refl
plain_spelled form spelled same before (e ∷ es) = rw (same before e, plain_spelled form spelled same (form.count e) es) refl

pub plain_fits : {E : Type 0} (form : Form E) (P : E → Type 0) → ((before : ℕ) (e : E) → P e → form.Fits before e) → (before : ℕ) (es : List E) → AllByRecursion P es → FitsAll form before es
plain_fits form P same before [] h = tt
plain_fits form P same before (e ∷ es) h = (same before e h.0, plain_fits form P same (form.count e) es h.1)

pub plain_all : {E : Type 0} (form : Form E) (P : E → Type 0) → ((before : ℕ) (e : E) → form.Fits before e → P e) → (before : ℕ) (es : List E) → FitsAll form before es → AllByRecursion P es
plain_all form P same before [] h = tt
plain_all form P same before (e ∷ es) h = (same before e h.0, plain_all form P same (form.count e) es h.1)
