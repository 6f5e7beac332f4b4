-- What contracts see of what the lock keeps.
use Rattle.std.specs.Prelude.{Bool, List}
use Rattle.atomic_table.specs.Seated.{TableId}
use Rattle.r10_body.specs.declared.refusal.Glance.{Glance}
use Rattle.r10_body.specs.declared.refusal.Refusal.{Refusal}
use Rattle.r10_body.specs.declared.refusal.Refusal.TheVariants.{Failed}
use Rattle.r10_control.specs.State.{RecorderState}
use Rattle.r10_port.specs.Ends.{Receiving}

-- the recorder, which gauge its publishing end is of, and all that was published there, the three zeros of its making first
pub record HeldState (M : Type 0) : Type 0 where
  pub recorder : RecorderState M Receiving
  pub cell : TableId
  pub published : List Glance

-- a recorder with a gauge of its own, at which nothing was published
pub record GaugedState (M : Type 0) : Type 0 where
  pub recorder : RecorderState M Receiving
  pub cell : TableId

-- which gauge a cabinet has, and whether its recorder had failed when the cabinet was made
pub record CabinetState : Type 0 where
  pub gauge : TableId
  pub had_failed : Bool

-- whether a refusal is that the recorder failed
abbrev pub is_failed : Refusal → Bool
is_failed r = elim r [ Failed ↦ Bool.true | _ ↦ Bool.false ]
