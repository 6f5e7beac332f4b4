-- An end is refused by what the recorder was of which the cabinet was made.
use Rattle.std.proofs.Common.{◌≡◌, Bool, refl, subst, sym, true≢false}
use Rattle.std.specs.Prelude.{◌↔◌, IsTrue, false, true}
use Rattle.r10_body.specs.declared.refusal.Refusal.{Refusal}
use Rattle.r10_held.specs.Recorder.{Work, failed, idle, recording, unmounted}
use Rattle.r10_shared.specs.Failing.{IsNotEnded, why_not_ended}
use Rattle.r10_shared.specs.Settling.{IsEndRefusal, end_refusal}
use Rattle.r10_shared.specs.declared.failing.NotEnded.{NotEnded}

-- what says whether it failed
pub refused_so : (w : Work) (had_failed : Bool) (r : Refusal) → (IsTrue had_failed ↔ (w ≡ failed)) → IsEndRefusal w r → r ≡ end_refusal had_failed
refused_so w true r is p = subst (λ (v : Work). IsEndRefusal v r) (is.0 refl) p
refused_so failed false r is p = absurd (true≢false (sym (is.1 refl)))
refused_so unmounted false r is p = p
refused_so (idle chain) false r is p = p
refused_so (recording chain file) false r is p = p

pub not_ended_so : (w : Work) (had_failed : Bool) (n : NotEnded) → (IsTrue had_failed ↔ (w ≡ failed)) → IsNotEnded w n → n ≡ why_not_ended had_failed
not_ended_so w true n is p = subst (λ (v : Work). IsNotEnded v n) (is.0 refl) p
not_ended_so failed false n is p = absurd (true≢false (sym (is.1 refl)))
not_ended_so unmounted false n is p = p
not_ended_so (idle chain) false n is p = p
not_ended_so (recording chain file) false n is p = p
