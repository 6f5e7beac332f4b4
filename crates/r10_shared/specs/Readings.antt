-- What a player wrote down.
use Rattle.std.specs.Prelude.{◌≡◌, ℕ, List, [], ◌∷◌, ◌++◌, length, drop}
use Rattle.std.specs.List.{AllByRecursion}
use Rattle.r10_body.specs.Packets.{Packet, file_entries}
use Rattle.r10_machine.specs.Replay.{Ordered, wanted}
use Rattle.r10_held.specs.Recorder.{Cursor}
use Rattle.r10_held.specs.declared.player.Player.{Player}
use Rattle.r10_shared.specs.declared.reading.Transcribing.{Transcribing}
use Rattle.r10_held.specs.declared.transcript.Instalment.{Instalment}

-- a cursor on the same file, with the same wishes
pub record IsAlike (old new : Cursor) : Type 0 where
  pub file : new.file ≡ old.file
  pub generation : new.generation ≡ old.generation
  pub channels : new.reading.channels ≡ old.reading.channels
  pub first : new.reading.from ≡ old.reading.from
  pub last : new.reading.to ≡ old.reading.to

-- an instalment has, in order, what was wanted of some packets from its beginning on, up to the last of them
pub record IsTakenFrom (channels : List ℕ) (first last : ℕ) (i : Instalment) : Type 0 where
  pub packets : List Packet
  pub to_is : i.to ≡ length packets
  pub entries : Ordered (wanted channels first last (file_entries (drop i.from packets))) i.entries

-- each goes on where the one before it ended, from a place up to another
abbrev pub EachGoesOn : ℕ → List Instalment → ℕ → Type 0
EachGoesOn at [] end = end ≡ at
EachGoesOn at (i ∷ instalments) end = (i.from ≡ at) × EachGoesOn i.to instalments end

-- a player has read on, at the same gauge, and what it took stands after these
pub record HasReadOn (player : Player) (before : List Instalment) (later : Player) (all : List Instalment) : Type 0 where
  pub gauge : later.pass.cell ≡ player.pass.cell
  pub alike : IsAlike player.cursor later.cursor
  pub more : List Instalment
  pub written : all ≡ before ++ more
  pub goes_on : EachGoesOn player.cursor.reading.covered more later.cursor.reading.covered
  pub taken : AllByRecursion (IsTakenFrom player.cursor.reading.channels player.cursor.reading.from player.cursor.reading.to) more

-- and is written down there
abbrev pub ReadsFrom : Player → List Instalment → Transcribing → Type 0
ReadsFrom player before new = HasReadOn player before new.player new.instalments.items

abbrev pub ReadsOn : Transcribing → Transcribing → Type 0
ReadsOn old new = ReadsFrom old.player old.instalments.items new

-- from nothing written
abbrev pub HasReadAll : Player → Transcribing → Type 0
HasReadAll player new = ReadsFrom player [] new
