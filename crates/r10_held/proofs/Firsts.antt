-- A recorder as it is made.
use Rattle.std.proofs.Common.{List, [], sym, inr}
use Rattle.r10_body.specs.declared.entry.Sample.{Sample}
use Rattle.r10_body.specs.declared.spec.ChannelSpec.{ChannelSpec}
use Rattle.r10_control.specs.State.{RecorderState}
use Rattle.r10_medium.specs.Disk.{Disk}
use Rattle.r10_port.specs.Ends.{Receiving}
use Rattle.r10_held.specs.Account.{Accounted, ChannelAccounts, IsNew}
use Rattle.r10_held.specs.LockFact.{LanesAccounted, outlet_received, outlet_spec}
use Rattle.r10_held.specs.Naming.{AreNamed, ChannelRing}
use Rattle.r10_held.proofs.Accounts.{all_new}

pub new_accounted : {M L : Type 0} (disk : M → Disk) (spec_of : L → ChannelSpec) (received_of : L → List Sample) (r : RecorderState M L) → IsNew disk spec_of received_of r → Accounted disk spec_of received_of r
new_accounted disk spec_of received_of r is = inr (record { own = []; is_own = is.owned; each = each })
  where
    each : ChannelAccounts spec_of received_of [] r.kept.config.channels r.kept.taken r.kept.erased r.lanes
    each = rw (is.taken, is.erased, sym is.specs) (all_new spec_of received_of r.lanes is.received)

pub new_lanes_accounted : {M : Type 0} (disk : M → Disk) (rings : List ChannelRing) (r : RecorderState M Receiving) → IsNew disk outlet_spec outlet_received r → AreNamed rings r.lanes → LanesAccounted disk rings r
new_lanes_accounted disk rings r is named = record { named = named; accounted = new_accounted disk outlet_spec outlet_received r is }
