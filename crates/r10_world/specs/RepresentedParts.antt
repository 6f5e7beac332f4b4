-- Which machines a recorder with lanes of one thread, and its readers' cursors, represent, and how they go on.
use Rattle.std.specs.Prelude.{◌≡◌, ℕ, List, Option}
use Rattle.r10_world.specs.Joined.{KeptAndSlotsStandFor, KeptAndSlotsStepTo}
use Rattle.r10_machine.specs.Limits.{IsConfig}
use Rattle.r10_machine.specs.Machine.{Lane, Machine}
use Rattle.r10_refinement.specs.KeptState.{Kept}
use Rattle.r10_medium.specs.Disk.{Image}
use Rattle.r10_cursor.specs.declared.cursor.Cursor.{Cursor}
use Rattle.r10_control.specs.Lanes.{AreLanes}
use Rattle.r10_machine.specs.Says.{MediumSays}
use Rattle.r10_machine.specs.Step.{Run}
use Rattle.r10_machine.specs.declared.event.Event.{Event as EventValue}
use Rattle.r10_machine.specs.declared.reply.Reply.{Reply as ReplyValue}

-- What a recorder keeps, over a medium that reads as an image and has failed so often, with these lanes and these readers'
-- cursors, represents the machine: the medium says the machine's files, and what waits, was lost and was missed is the machine's.
pub record PartsStandFor (k : Kept) (image : Image) (failures : ℕ) (lanes : List Lane) (slots : List (Option Cursor))
    (m : Machine) : Type 0 where
  pub limits : IsConfig k.config
  pub joined : KeptAndSlotsStandFor k image failures slots m
  pub lanes_are : AreLanes lanes m
  pub says : MediumSays k.config image m.files

-- the step leads to a machine for which all stands then, and whose files the medium says
pub record PartsStepTo (k : Kept) (m : Machine) (event : EventValue) (reply : ReplyValue) (later : Kept) (image : Image)
    (failures : ℕ) (lanes : List Lane) (slots : List (Option Cursor)) : Type 0 where
  pub machine : Machine
  pub on : KeptAndSlotsStepTo k m event reply machine later image failures slots
  pub lanes_are : AreLanes lanes machine

-- these replies to these events are a run to such a machine
pub record PartsRunTo (k : Kept) (m : Machine) (events : List EventValue) (replies : List ReplyValue) (later : Kept) (image : Image)
    (failures : ℕ) (lanes : List Lane) (slots : List (Option Cursor)) : Type 0 where
  pub images : List Image
  pub machine : Machine
  pub run : Run k.config m events replies images machine
  pub stands : PartsStandFor later image failures lanes slots machine
  pub config : later.config ≡ k.config
