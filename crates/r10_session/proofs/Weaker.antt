-- What follows of a result that is Ok.
use Rattle.std.proofs.Common.{IfOk, Result}
use Rattle.std.proofs.lemmas.Result.{IfOk-weaker}

pub ok_so : {X Y : Type 0} {P Q : X → Type 0} (r : Result X Y) → IfOk r P → ((x : X) → P x → Q x) → IfOk r Q
ok_so {X} {Y} {P} {Q} r known so = IfOk-weaker r P Q so known
