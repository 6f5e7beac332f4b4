-- What whoever gets the lock knows.
use Rattle.std.specs.Prelude.{◌≡◌, List, Option, None, Some}
use Rattle.atomic_table.specs.Seated.{TableId}
use Rattle.r10_body.specs.declared.entry.Sample.{Sample}
use Rattle.r10_body.specs.declared.refusal.Glance.{Glance}
use Rattle.r10_body.specs.declared.spec.ChannelSpec.{ChannelSpec}
use Rattle.r10_control.specs.State.{RecorderState}
use Rattle.r10_medium.specs.Disk.{Disk}
use Rattle.r10_port.specs.Ends.{Receiving, next_known}
use Rattle.r10_held.specs.Account.{Accounted}
use Rattle.r10_held.specs.Naming.{ChannelRing, AreNamed}
use Rattle.r10_held.specs.Publishing.{LastIsShown}
use Rattle.r10_held.specs.State.{GaugedState}

abbrev pub outlet_spec : Receiving → ChannelSpec
outlet_spec outlet = outlet.spec

abbrev pub outlet_received : Receiving → List Sample
outlet_received outlet = outlet.received

-- an outlet is never known to be quiet
abbrev pub outlet_quiet : Receiving → Option (List Sample)
outlet_quiet outlet = None

-- the sample that an outlet gives next, where that is known
abbrev pub outlet_shows : Receiving → Sample → Type 0
outlet_shows outlet first = next_known outlet.ahead ≡ Some first

-- the lanes are those of the rings that are named for their channels, and the recorder alone took from them
pub record LanesAccounted {M : Type 0} (disk : M → Disk) (rings : List ChannelRing) (r : RecorderState M Receiving) : Type 0 where
  pub named : AreNamed rings r.lanes
  pub accounted : Accounted disk outlet_spec outlet_received r

-- and of the file that is recorded the last triple tells, once something was published
pub record LockFact {M : Type 0} (disk : M → Disk) (rings : List ChannelRing) (r : RecorderState M Receiving)
    (published : List Glance) : Type 0 where
  pub lanes : LanesAccounted disk rings r
  pub last : LastIsShown r.kept.work published

-- the lanes and the gauge are those that are named, and the recorder alone took from the lanes
pub record HasNamedLanes {M : Type 0} (disk : M → Disk) (rings : List ChannelRing) (gauge : TableId)
    (g : GaugedState M) : Type 0 where
  pub lanes : LanesAccounted disk rings g.recorder
  pub gauge_is : g.cell ≡ gauge
