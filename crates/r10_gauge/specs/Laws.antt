-- What the first triple of a gauge is.
use Rattle.std.proofs.Common.{◌≡◌, zero, suc, Some, sym, ap}
use Rattle.r10_body.specs.declared.refusal.Glance.{Glance}
use Rattle.r10_gauge.specs.Published.{triple, nothing_published, AreNumbered}

some_is : (x y : Glance) → Some x ≡ Some y → x ≡ y
some_is x y e = cc

-- the three zeros are numbered
pub zeros_are_numbered : AreNumbered nothing_published
zeros_are_numbered zero y e = ap (λ (g : Glance). g.commits) (sym (some_is (triple 0 0 0) y e))
zeros_are_numbered (suc i) y e = absurd (cc)
