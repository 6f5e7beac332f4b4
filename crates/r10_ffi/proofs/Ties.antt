-- The region and its queue stay tied.
use Rattle.std.proofs.Common.{◌≡◌, sym, ap, ◌∙◌}
use Rattle.r10_region.specs.Identity.{Identity}
use Rattle.r10_region.specs.Links.{name_of}
use Rattle.r10_region.specs.Orders.{IsSameQueueEnd, IsTiedTo}
use Rattle.r10_region.specs.RegionDisk.{identity_of}
use Rattle.r10_region.specs.declared.orders.Orders.{Orders as OrdersValue}
use Rattle.r10_region.specs.declared.region.Region.{Region}

-- the region is the one that it was
pub still_tied : (r s : Region) (o : OrdersValue) → IsTiedTo r o → identity_of s ≡ identity_of r → IsTiedTo s o
still_tied r s o t e = record {
  line = record { links = ap (λ (i : Identity). i.links) e ∙ t.line.links; first = ap (λ (i : Identity). i.first) e ∙ t.line.first };
  lent = ap (λ (i : Identity). i.lent) e ∙ t.lent;
}

-- both are
pub both_tied : (r s : Region) (o p : OrdersValue) → IsTiedTo r o → identity_of s ≡ identity_of r → IsSameQueueEnd o p → IsTiedTo s p
both_tied r s o p t e q = let u = still_tied r s o t e in record {
  line = record { links = u.line.links ∙ sym q.links; first = u.line.first ∙ ap (λ (x : _). name_of x.value.end) (sym q.first) };
  lent = u.lent ∙ ap (λ (x : _). x.value.held) (sym q.was);
}
