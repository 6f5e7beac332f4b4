-- How a run is put together, operation by operation.
use Rattle.std.specs.Prelude.{◌≡◌, ℕ, true, List, Option, MatchOption}
use Rattle.rtrb.specs.Ring.{known_items}
use Rattle.r10_region.specs.Orders.{IsSameEnd, taken, TakesAll, TakesFirst}
use Rattle.r10_region.specs.Runs.{joins, run_length_with, put_in_run, AllJoin, grown_by_all, put_all_in_run}
use Rattle.r10_region.specs.declared.operation.Operation.{Operation as OperationValue}
use Rattle.r10_region.specs.declared.orders.Orders.{Orders as OrdersValue}

-- one more was taken, and joined
pub record TakesOneWrite (first count most : ℕ) (old new : OrdersValue) (before after : List ℕ) (blocks : ℕ) : Type 0 where
  pub op : OperationValue
  pub takes : TakesFirst op old new
  pub joins : joins first count most op ≡ true
  pub blocks_are : blocks ≡ run_length_with first op count
  pub lent : after ≡ put_in_run first op before

-- none was taken
pub record TakesNone (old new : OrdersValue) (before after : List ℕ) : Type 0 where
  pub no_more : taken new ≡ taken old
  pub known : known_items new.ring ≡ known_items old.ring
  pub lent : after ≡ before

pub record JoinsOne (first count most : ℕ) (old new : OrdersValue) (before after : List ℕ) (result : Option ℕ) : Type 0 where
  pub queue : IsSameEnd old new
  pub takes : MatchOption result (TakesNone old new before after)
      (λ blocks. TakesOneWrite first count most old new before after blocks)

-- so many were taken, and joined in turn
pub record JoinsMore (first most : ℕ) (old new : OrdersValue) (before after : List ℕ) (blocks : ℕ) : Type 0 where
  pub queue : IsSameEnd old new
  pub ops : List OperationValue
  pub takes : TakesAll ops old new
  pub all_join : AllJoin first 1 most ops
  pub blocks_are : blocks ≡ grown_by_all first ops 1
  pub lent : after ≡ put_all_in_run first ops before
