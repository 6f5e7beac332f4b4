-- What the steps of a script print.
use Rattle.std.specs.Prelude.{ℕ, ◌+◌, List, [], ◌∷◌, ◌++◌, Option}
use Rattle.std.specs.Io.KnownBytes.{Appends}
use Rattle.r10_text.specs.Replies.{reply_lines}
use Rattle.r10_machine.specs.Config.{Config}
use Rattle.r10_machine.specs.Machine.{Machine}
use Rattle.r10_medium.specs.Disk.{Disk, Image}
use Rattle.r10_world.specs.State.{WorldState}
use Rattle.r10_world.specs.WorldSteps.{WorldStandsFor}
use Rattle.r10_machine.specs.Step.{Run}
use Rattle.r10_machine.specs.declared.event.Event.{Event}
use Rattle.r10_machine.specs.declared.reply.Reply.{Reply}

-- the lines of the replies to the steps after the first `done` ones, end to end
abbrev pub all_lines : ℕ → List Reply → List ℕ
all_lines done [] = []
all_lines done (reply ∷ replies) = reply_lines (done + 1) reply ++ all_lines (done + 1) replies

-- a writer that holds these bytes before and those after was given these lines
abbrev pub WritesLines : Option (List ℕ) → Option (List ℕ) → ℕ → List Reply → Type 0
WritesLines old new done replies = Appends old new (all_lines done replies)

-- these events are a run from the machine to one for which the world stands, and the lines of the replies were written,
-- numbered from 1
pub record RunsAndWrites {M : Type 0} (disk : M → Disk) (s : Config) (start : Machine) (events : List Event) (world : WorldState M)
    (old new : Option (List ℕ)) : Type 0 where
  pub replies : List Reply
  pub images : List Image
  pub machine : Machine
  pub run : Run s start events replies images machine
  pub stands : WorldStandsFor disk world machine
  pub lines : WritesLines old new 0 replies
