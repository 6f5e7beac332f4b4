-- Which numbered cursors of the small machine a table of cursors represents.
use Rattle.std.specs.Prelude.{◌≡◌, ◌≢◌, ℕ, List, [], ◌∷◌, length, false, Option, None, Some, slice_index_or, ◌==◌}
use Rattle.r10_body.specs.declared.entry.Entry.{Entry}
use Rattle.r10_body.specs.declared.refusal.Refusal.TheVariants.{NoCursor, Stale, Unread}
use Rattle.r10_machine.specs.Checks.{Check}
use Rattle.r10_machine.specs.Machine.{Cursor as MachineCursor, cursor_at}
use Rattle.r10_cursor.specs.Replays.{begun_reading}
use Rattle.r10_cursor.specs.declared.cursor.Cursor.{Cursor}

-- a cursor represents one of the machine; how far each has come is stated by itself, since one counts packets and the other entries
pub record CursorStandsFor (c : Cursor) (m : MachineCursor) : Type 0 where
  pub file : m.file ≡ c.file
  pub generation : m.generation ≡ c.generation
  pub channels : m.channels ≡ c.reading.channels
  pub first : m.from ≡ c.reading.from
  pub last : m.to ≡ c.reading.to
  pub queue : m.queue ≡ c.reading.queue

-- both are open, or neither is
abbrev pub SlotStandsFor : Option Cursor → Option MachineCursor → Type 0
SlotStandsFor None None = Unit {0}
SlotStandsFor (Some c) (Some m) = CursorStandsFor c m
SlotStandsFor slot cursor = ⊥

-- what a number has
abbrev pub slot_at : List (Option Cursor) → ℕ → Option Cursor
slot_at slots id = slice_index_or slots id None

-- number by number
pub record SlotsStandFor (slots : List (Option Cursor)) (cursors : List (Option MachineCursor)) : Type 0 where
  pub each : (id : ℕ) → SlotStandsFor (slot_at slots id) (cursor_at cursors id)

-- a number has this cursor or none from now on, and every other number what it had
pub record PutsSlot (old new : List (Option Cursor)) (id : ℕ) (slot : Option Cursor) : Type 0 where
  pub changed : slot_at new id ≡ slot
  pub others : (other : ℕ) → other ≢ id → slot_at new other ≡ slot_at old other

-- a cursor that has covered nothing
abbrev pub fresh_slot : ℕ → List ℕ → ℕ → ℕ → ℕ → Cursor
fresh_slot generation channels file from to = record {
  file = file;
  generation = generation;
  reading = begun_reading channels from to;
}

-- a cursor that gave the first of its queue
abbrev pub with_queue : List Entry → Cursor → Cursor
with_queue queue c = record c { reading = record c.reading { queue = queue } }

-- what is checked before a cursor goes on: it is open, of this generation, and read to the end
abbrev pub read_checks : ℕ → Option Cursor → List Check
read_checks generation None = (false, NoCursor) ∷ []
read_checks generation (Some c) = (c.generation == generation, Stale) ∷ (length c.reading.queue == 0, Unread) ∷ []
