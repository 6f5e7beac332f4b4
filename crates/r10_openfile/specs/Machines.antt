-- What a pump moved, as the machine sees it.
use Rattle.std.specs.Prelude.{◌≡◌, ℕ, ◌+◌, ◌<◌, ◌≤◌, List, ◌++◌, length, map, Option}
use Rattle.std.specs.List.{AllByRecursion, sum_by}
use Rattle.r10_body.specs.Cost.{entry_cost}
use Rattle.r10_body.specs.declared.entry.Sample.{Sample}
use Rattle.r10_body.specs.declared.refusal.Refusal.{Refusal}
use Rattle.r10_body.specs.declared.refusal.Refusal.TheVariants.{MediumFull}
use Rattle.r10_packetout.specs.Carries.{Recording}
use Rattle.r10_machine.specs.Config.{Config}
use Rattle.r10_machine.specs.Machine.{File, Lane, rising}
use Rattle.r10_machine.specs.Room.{area, cost_of}
use Rattle.r10_mux.specs.declared.fault.Full.{Full}
use Rattle.r10_mux.specs.declared.fault.Full.TheVariants as lacking
use Rattle.r10_openfile.specs.Pumping.{PumpEnds, entries_on}
use Rattle.r10_openfile.specs.Stopping.{GoesThrough, Part, entries_of, most_of}

-- Of all that waits in a lane, a pump moved the first samples, so many, into a file. After them the file costs what the
-- machine's file with them costs.
pub record IsPumpedInto (s : Config) (f : File) (lane : Lane) (most n : ℕ) (samples rest : List Sample) (full : Option Full)
    (r : Recording) : Type 0 where
  pub waits : lane.waiting ≡ samples ++ rest
  pub number : n ≡ length samples
  pub within : n ≤ most
  pub fits : 0 < n → r.cost ≤ area s f
  pub cost : r.cost ≡ cost_of f + sum_by entry_cost (entries_on lane.spec.id samples)
  pub ends : PumpEnds r lane.spec.id (area s f) most n rest full

-- the refusal for want of room
abbrev pub refusal_of_full : Full → Refusal
refusal_of_full lacking.Medium = MediumFull

-- what waits in the lane of a part's channel are its samples and its rest
abbrev pub HasWaiting : List Lane → Part → Type 0
HasWaiting lanes p = AllByRecursion (λ (lane : Lane). lane.spec.id ≡ p.channel → lane.waiting ≡ p.samples ++ p.rest) lanes

-- Of all that waits in lanes, a stop moved the first samples of each channel, by the rising order of channels, into a file.
-- After them the file costs what the machine's file with them costs.
pub record StopMovesAll (s : Config) (f : File) (lanes : List Lane) (parts : List Part) (n : ℕ) (r : Recording) : Type 0 where
  pub order_is : map (λ p. p.channel) parts ≡ rising (map (λ (lane : Lane). lane.spec.id) lanes)
  pub waits : AllByRecursion (HasWaiting lanes) parts
  pub within : AllByRecursion (λ p. length p.samples ≤ most_of (map (λ (lane : Lane). lane.spec) lanes) p.channel) parts
  pub number : n ≡ length (entries_of parts)
  pub fits : 0 < n → r.cost ≤ area s f
  pub cost : r.cost ≡ cost_of f + sum_by entry_cost (entries_of parts)
  pub through : GoesThrough (most_of (map (λ (lane : Lane). lane.spec) lanes)) r (area s f) parts
