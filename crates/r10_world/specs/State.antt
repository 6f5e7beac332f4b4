-- What a contract sees of a world: its recorder, and the slots of its readers' cursors.
use Rattle.std.specs.Prelude.{List, Option}
use Rattle.r10_machine.specs.Machine.{Lane}
use Rattle.r10_cursor.specs.declared.cursor.Cursor.{Cursor}
use Rattle.r10_control.specs.State.{RecorderState}
pub use Rattle.r10_control.specs.RecorderStatus.{number_on}

pub record WorldState (M : Type 0) : Type 0 where
  pub recorder : RecorderState M Lane
  pub slots : List (Option Cursor)

-- the same over a medium
abbrev pub with_medium : {M N : Type 0} → N → WorldState M → WorldState N
with_medium medium w = record {
  recorder = record { kept = w.recorder.kept; lanes = w.recorder.lanes; medium = medium };
  slots = w.slots;
}

-- the same with these lanes
abbrev pub with_lanes : {M : Type 0} → List Lane → WorldState M → WorldState M
with_lanes lanes w = record {
  recorder = record { kept = w.recorder.kept; lanes = lanes; medium = w.recorder.medium };
  slots = w.slots;
}
