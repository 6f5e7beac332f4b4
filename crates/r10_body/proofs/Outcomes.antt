-- What is known of a call's outcome.
use Rattle.std.specs.Prelude.{Result, Ok, Err, IsOk, OnOk, MatchResult}
use Rattle.std.proofs.lemmas.Bool.{false≢true}

-- what is ensured where a call succeeds, of one that does
pub of_ok : {T E : Type 0} (P : Type 0) (result : Result T E) → IsOk result → OnOk result P → P
of_ok P (Ok x) is says = says
of_ok P (Err e) is says = absurd (false≢true is)

-- of a call that says something in both cases, what it says where it succeeds
pub on_ok : {T E : Type 0} (P Q : Type 0) (result : Result T E) → MatchResult result (λ _. P) (λ _. Q) → OnOk result P
on_ok P Q (Ok x) says = says
on_ok P Q (Err e) says = tt
