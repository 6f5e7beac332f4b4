-- Where the accepted messages of a channel are.
use Rattle.std.specs.Prelude.{◌≡◌, ◌≤◌, ℕ, ◌+◌, ◌-◌, ◌^◌, true, List, [], ◌++◌, length, Option, Some, None}
use Rattle.std.specs.List.{flat_map}
use Rattle.r10_body.specs.Files.{on_channel}
use Rattle.r10_body.specs.declared.entry.Entry.{Entry}
use Rattle.r10_machine.specs.Machine.{Machine, Lane, File, lane_in, saturated, shown_entries, waiting_entries}
use Rattle.r10_machine.specs.Checks.{is_working}
use Rattle.r10_machine.specs.ControlCalls.{own_entries}
use Rattle.r10_machine.specs.SoundParts.{own_files}

-- ---- a channel in a machine

-- what waits on it
abbrev pub waiting_in : Option Lane → List Entry
waiting_in None = []
waiting_in (Some lane) = waiting_entries lane

abbrev pub waiting_of : ℕ → List Lane → List Entry
waiting_of channel lanes = waiting_in (lane_in channel lanes)

-- how many messages were lost since the last that was accepted
abbrev pub missed_in : Option Lane → ℕ
missed_in None = 0
missed_in (Some lane) = lane.missed

abbrev pub missed_of : ℕ → List Lane → ℕ
missed_of channel lanes = missed_in (lane_in channel lanes)

-- how many of its entries erases took
abbrev pub erased_in : Option Lane → ℕ
erased_in None = 0
erased_in (Some lane) = lane.erased

abbrev pub erased_of : ℕ → List Lane → ℕ
erased_of channel lanes = erased_in (lane_in channel lanes)

-- of its entries in the files that this recorder began, those that the medium shows
abbrev pub shown_own : ℕ → List File → List Entry
shown_own channel files = on_channel channel (flat_map shown_entries (own_files files))

-- ---- accounts

abbrev pub StandsInFront : List Entry → List Entry → Type 0
StandsInFront front entries = (rest : List Entry) × (front ++ rest ≡ entries)

abbrev pub StandsLast : List Entry → List Entry → Type 0
StandsLast back entries = (front : List Entry) × (front ++ back ≡ entries)

-- While the recorder works, the accepted entries, in their order, are those that erases took, those in the files that it began, in
-- the files' order, and those that wait. Each stands once, and no other. After a failure those erased and those shown stand first,
-- and those that wait last. Those that no file shows may be gone, and one may be both shown and waiting.
pub record IsAccount (channel : ℕ) (m : Machine) (entries : List Entry) : Type 0 where
  pub gone : List Entry
  pub each : is_working m.mode ≡ true → gone ++ own_entries channel m.files ++ waiting_of channel m.lanes ≡ entries
  pub shown : StandsInFront (gone ++ shown_own channel m.files) entries
  pub waits : StandsLast (waiting_of channel m.lanes) entries
  pub erased : erased_of channel m.lanes ≡ saturated (length gone)

-- What a channel had, and after it what was accepted since: erases took the first, so many as the lane's number of them rose
-- by, up to 2^64 - 1; those after them are in own files' lists, and the last wait.
pub record GoesOver (channel : ℕ) (old new : Machine) (accepted : List Entry) : Type 0 where
  pub gone : List Entry
  pub each : gone ++ own_entries channel new.files ++ waiting_of channel new.lanes ≡ own_entries channel old.files
      ++ waiting_of channel old.lanes ++ accepted
  pub erased : erased_of channel old.lanes ≤ 2 ^ 64 - 1 → erased_of channel new.lanes ≡ saturated
      (erased_of channel old.lanes + length gone)
