-- What becomes of the cursors' table at a step of the machine.
use Rattle.std.specs.Prelude.{List, Option}
use Rattle.r10_medium.specs.Disk.{Image}
use Rattle.r10_machine.specs.Machine.{Machine}
use Rattle.r10_cursor.specs.declared.cursor.Cursor.{Cursor}
use Rattle.r10_cursor.specs.Read.{HaveRead}
use Rattle.r10_cursor.specs.RepresentedCursors.{SlotsStandFor}

-- the machine takes such a step, and the table represents its cursors then; those that were as far over the image as the
-- machine's are so again
pub record StepsTo (Step : Machine → Type 0) (old : Machine) (image : Image) (slots later : List (Option Cursor)) : Type 0 where
  pub machine : Machine
  pub step : Step machine
  pub stand : SlotsStandFor later machine.cursors
  pub read : HaveRead image old.files old.generation slots old.cursors
      → HaveRead image machine.files machine.generation later machine.cursors
