use Rattle.std.specs.Prelude.{Result, Ok, Err, OnOk}
use Rattle.r10_survey.proofs.Stretches.{packet_more}
use Rattle.r10_survey.proofs.damage.Damage.add_packet.Goals as goal

both : {T E : Type 0} (P Q R : Type 0) (result : Result T E) → OnOk result P → OnOk result Q → (P → Q → R) → OnOk result R
both P Q R (Ok x) p q r = r p q
both P Q R (Err e) p q r = tt

pub returns : goal.returns
returns c = λ parts p is.
    both _ _ _ c.end.result c.end.ensures.kept c.end.ensures.lost (λ keeps none. packet_more c.args.self.now c.end.new.self c.args.at parts p keeps none is)
