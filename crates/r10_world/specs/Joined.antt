-- Which machines a recorder and the cursors of its readers represent together.
use Rattle.std.specs.Prelude.{◌≡◌, ℕ, List, [], Option, None, length, map, replicate}
use Rattle.r10_medium.specs.Disk.{Image}
use Rattle.r10_machine.specs.Config.{Config}
use Rattle.r10_machine.specs.Machine.{Machine, fresh_lane}
use Rattle.r10_machine.specs.Says.{MediumSays}
use Rattle.r10_machine.specs.Step.{Step}
use Rattle.r10_machine.specs.declared.event.Event.{Event as EventValue}
use Rattle.r10_machine.specs.declared.reply.Reply.{Reply as ReplyValue}
use Rattle.r10_cursor.specs.declared.cursor.Cursor.{Cursor}
use Rattle.r10_cursor.specs.Read.{HaveRead}
use Rattle.r10_cursor.specs.RepresentedCursors.{SlotsStandFor}
use Rattle.r10_refinement.specs.KeptState.{Kept, unmounted}
use Rattle.r10_refinement.specs.Means.{KeptStandsFor}
use Rattle.r10_world.specs.State.{WorldState}

-- what a new recorder of these settings keeps
abbrev pub new_kept : Config → Kept
new_kept s = record {
  config = s;
  work = unmounted;
  tick = None;
  last_event = None;
  generation = 0;
  taken = replicate (length s.channels) 0;
  erased = replicate (length s.channels) 0;
  found = None;
}

-- a new world over a medium: fresh lanes, and no readers
abbrev pub begun_world : {M : Type 0} → Config → M → WorldState M
begun_world s medium = record {
  recorder = record { kept = new_kept s; lanes = map fresh_lane s.channels; medium = medium };
  slots = [];
}

-- what a recorder keeps, over a medium that reads as an image and has failed so often, represents the machine, and so does the
-- table for its cursors, which are as far in their files as the machine's
pub record KeptAndSlotsStandFor (k : Kept) (image : Image) (failures : ℕ) (slots : List (Option Cursor))
    (m : Machine) : Type 0 where
  pub means : KeptStandsFor k image failures m
  pub stand : SlotsStandFor slots m.cursors
  pub read : HaveRead image m.files m.generation slots m.cursors

-- the step leads to this machine, for which both stand then, and whose files the medium says
pub record KeptAndSlotsStepTo (k : Kept) (m : Machine) (event : EventValue) (reply : ReplyValue) (machine : Machine) (later : Kept)
    (image : Image) (failures : ℕ) (slots : List (Option Cursor)) : Type 0 where
  pub step : Step k.config m event reply machine
  pub says : MediumSays k.config image machine.files
  pub joined : KeptAndSlotsStandFor later image failures slots machine
  pub config : later.config ≡ k.config

-- the step, which leaves what is kept, leads to a machine with the same lanes
pub record SlotsStepTo (k : Kept) (m : Machine) (event : EventValue) (reply : ReplyValue) (image : Image) (failures : ℕ)
    (slots : List (Option Cursor)) : Type 0 where
  pub machine : Machine
  pub on : KeptAndSlotsStepTo k m event reply machine k image failures slots
  pub lanes : machine.lanes ≡ m.lanes
