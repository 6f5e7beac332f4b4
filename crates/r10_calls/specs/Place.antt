-- What is in a place.
use Rattle.std.specs.Prelude.{◌≡◌, Option, None, Some, is_some, true}
use Rattle.std.proofs.Common.{sym}
use Rattle.std.proofs.lemmas.Bool.{true≢false}

abbrev pub inside : {X : Type 0} (o : Option X) → is_some o ≡ true → X
inside None e = absurd (true≢false (sym e))
inside (Some x) e = x
