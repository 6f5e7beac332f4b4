-- What is done to a recorder and its readers' cursors at events.
use Rattle.std.specs.Prelude.{List, Option}
use Rattle.r10_machine.specs.Machine.{Lane, Machine}
use Rattle.r10_medium.specs.Disk.{Disk}
use Rattle.r10_cursor.specs.declared.cursor.Cursor.{Cursor}
use Rattle.r10_control.specs.State.{RecorderState}
use Rattle.r10_world.specs.RepresentedParts.{PartsStepTo, PartsRunTo, PartsStandFor}
use Rattle.r10_world.specs.State.{WorldState}
use Rattle.r10_machine.specs.declared.event.Event.{Event as EventValue}
use Rattle.r10_machine.specs.declared.reply.Reply.{Reply as ReplyValue}

-- ---- a recorder, and cursors

abbrev pub RecorderStandsFor : {M : Type 0} → (M → Disk) → RecorderState M Lane → List (Option Cursor) → Machine → Type 0
RecorderStandsFor disk r slots m = PartsStandFor r.kept (disk r.medium).blocks (disk r.medium).failures r.lanes slots m

-- from each machine for which they stand, this reply leads to one for which they stand then
abbrev pub RecorderStepsTo : {M : Type 0} → (M → Disk) → RecorderState M Lane → List (Option Cursor) → EventValue → ReplyValue
    → RecorderState M Lane → List (Option Cursor) → Type 0
RecorderStepsTo disk old slots event reply new later =
    (m : Machine) → RecorderStandsFor disk old slots m → PartsStepTo old.kept m event reply new.kept (disk new.medium).blocks
    (disk new.medium).failures new.lanes later

-- whatever cursors there are, they stay
abbrev pub RecorderStepsAlone : {M : Type 0} → (M → Disk) → RecorderState M Lane → EventValue → ReplyValue → RecorderState M Lane
    → Type 0
RecorderStepsAlone disk old event reply new = (slots : List (Option Cursor)) → RecorderStepsTo disk old slots event reply new slots

-- ---- a world

abbrev pub WorldStandsFor : {M : Type 0} → (M → Disk) → WorldState M → Machine → Type 0
WorldStandsFor disk w m = RecorderStandsFor disk w.recorder w.slots m

-- from each machine for which a world stands, these replies to these events are a run to one for which it stands then
abbrev pub WorldRuns : {M : Type 0} → (M → Disk) → WorldState M → List EventValue → List ReplyValue → WorldState M → Type 0
WorldRuns disk old events replies new =
    (m : Machine) → WorldStandsFor disk old m
    → PartsRunTo old.recorder.kept m events replies new.recorder.kept (disk new.recorder.medium).blocks
    (disk new.recorder.medium).failures new.recorder.lanes new.slots
