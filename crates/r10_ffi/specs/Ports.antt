-- What a call makes of a recorder and of the receiving end of a lane.
use Rattle.std.specs.Prelude.{◌≡◌, ℕ, Bool, true, cond}
use Rattle.r10_medium.specs.Disk.{Disk}
use Rattle.r10_carrier.specs.Carrying.{Carries}
use Rattle.r10_carrier.specs.declared.carry.Carry.{Carry}
use Rattle.r10_calls.specs.Accounts.{counted_offer}
use Rattle.r10_ends.specs.Ends.{OutletGoes}
use Rattle.r10_ends.specs.declared.outlet_end.OutletEnd.{OutletEnd}
use Rattle.r10_region.specs.declared.region.Region.{Region}
use Rattle.r10_ffi.specs.Calls.{IsOpen}
use Rattle.r10_ends.specs.Owning.{Between}
use Rattle.r10_ffi.specs.declared.recorder.Recorder.{Recorder}

-- Both are open then. A sample was carried from what the one held into what the other held, or why not was answered. Where one
-- was carried, one more message of its channel was accepted.
pub record CarriesInto (disk : Region → Disk) (before : Recorder) (outlet : OutletEnd) (carried : Bool) (answer : ℕ)
    (after : Recorder) (outlet' : OutletEnd) : Type 0 where
  pub is : Carry
  pub answer_is : answer ≡ is.number
  pub carried_is : carried ≡ is.carried
  pub is_open : IsOpen after
  pub does : Between before.handle.held after.handle.held (λ old new.
      OutletGoes outlet outlet' (λ from to. Carries disk old.desk from is new.desk to)
      × (new.orders ≡ old.orders) × (new.accepted.items ≡ counted_offer (cond is.carried 0 1) is.channel old.accepted.items))
