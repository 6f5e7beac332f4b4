-- The calls that look at lanes, of a recorder over outlets.
use Rattle.std.specs.Prelude.{ℕ, Result}
use Rattle.r10_body.specs.declared.refusal.Refusal.{Refusal}
use Rattle.r10_control.specs.Calls.{DoesPump, DoesStop, TellsStatus}
use Rattle.r10_control.specs.State.{RecorderState}
use Rattle.r10_control.specs.declared.status.RecorderStatus.{RecorderStatus}
use Rattle.r10_held.specs.LockFact.{outlet_quiet, outlet_shows, outlet_spec}
use Rattle.r10_machine.specs.declared.mode.Stopped.{Stopped}
use Rattle.r10_medium.specs.Disk.{Disk}
use Rattle.r10_port.specs.Ends.{Receiving, TookReceived, reached_by_outlet}

abbrev pub PumpsOutlets : {M : Type 0} → (M → Disk) → ℕ → ℕ → RecorderState M Receiving → RecorderState M Receiving
    → Result ℕ Refusal → Type 0
PumpsOutlets disk channel most before after answer = DoesPump TookReceived outlet_shows outlet_quiet reached_by_outlet outlet_spec
    disk channel most before after answer

abbrev pub StopsOutlets : {M : Type 0} → (M → Disk) → RecorderState M Receiving → RecorderState M Receiving → Result Stopped Refusal
    → Type 0
StopsOutlets disk before after answer = DoesStop TookReceived outlet_quiet reached_by_outlet outlet_spec disk before after answer

abbrev pub TellsOutlets : {M : Type 0} → (M → Disk) → RecorderState M Receiving → RecorderState M Receiving
    → Result RecorderStatus Refusal → Type 0
TellsOutlets disk before after answer = TellsStatus TookReceived outlet_quiet outlet_spec disk before after answer
