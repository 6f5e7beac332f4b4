-- How far cursors have come in the files that a medium shows, and when that stays.
use Rattle.std.specs.Prelude.{◌≡◌, ℕ, ◌≤◌, List, [], ◌∷◌, take, Option, Some, IsSomeAnd, slice_get}
use Rattle.std.specs.List.{AllByRecursion}
use Rattle.r10_medium.specs.Disk.{Image}
use Rattle.r10_blockout.specs.Blocks.{bytes_from}
use Rattle.r10_body.specs.Packets.{Packet}
use Rattle.r10_machine.specs.Machine.{File, Cursor as MachineCursor, cursor_at, shown_entries}
use Rattle.r10_cursor.specs.Files.{HasDataPackets}
use Rattle.r10_cursor.specs.Held.{ReadingGoesOn, IsCovered}
use Rattle.r10_cursor.specs.declared.cursor.Cursor.{Cursor}
use Rattle.r10_cursor.specs.RepresentedCursors.{slot_at}

-- the bytes that the medium shows of a file
abbrev pub bytes_shown : Image → File → List ℕ
bytes_shown image f = bytes_from image f.first_block f.size

-- of the packets that the medium shows of the file, without those of its index, the first, so many, say on each channel the first
-- n of its entries
pub record IsReadTo (image : Image) (f : File) (count n : ℕ) : Type 0 where
  pub packets : List Packet
  pub has : HasDataPackets (bytes_shown image f) packets
  pub covered : IsCovered packets f count n

-- a cursor of this generation has come as far in its file's packets as the machine's in its entries; one of an earlier generation
-- is not read again
abbrev pub HasRead : Image → List File → ℕ → Option Cursor → Option MachineCursor → Type 0
HasRead image files generation (Some c) (Some m) = c.generation ≡ generation
    → IsSomeAnd (slice_get files c.file) (λ f. IsReadTo image f c.reading.covered m.covered)
HasRead image files generation slot cursor = Unit {0}

pub record HaveRead (image : Image) (files : List File) (generation : ℕ) (slots : List (Option Cursor))
    (cursors : List (Option MachineCursor)) : Type 0 where
  pub each : (id : ℕ) → HasRead image files generation (slot_at slots id) (cursor_at cursors id)

-- of a file whose first n entries it had covered, a cursor took its next instalment
pub record TakesNext (image : Image) (f : File) (n : ℕ) (old new : Cursor) : Type 0 where
  pub packets : List Packet
  pub has : HasDataPackets (bytes_shown image f) packets
  pub goes_on : ReadingGoesOn packets f n old.reading new.reading
  pub file : new.file ≡ old.file
  pub generation : new.generation ≡ old.generation

-- ---- what goes on

-- a file stays where it is, and shows the entries that it showed, and perhaps more
pub record ShowsMore (f g : File) : Type 0 where
  pub first : g.first_block ≡ f.first_block
  pub shown : f.shown ≤ g.shown
  pub entries : take f.shown g.entries ≡ shown_entries f

-- and it has no fewer bytes, of which the new image shows those that the old one showed
pub record KeepsShown (old new : Image) (f g : File) : Type 0 where
  pub more : ShowsMore f g
  pub size : f.size ≤ g.size
  pub bytes : bytes_shown new f ≡ bytes_shown old f

-- so does each file, and others may have come after
abbrev pub ShowMore : List File → List File → Type 0
ShowMore [] later = Unit {0}
ShowMore (f ∷ files) [] = ⊥
ShowMore (f ∷ files) (g ∷ later) = ShowsMore f g × ShowMore files later

abbrev pub GrowsShown : Image → Image → List File → List File → Type 0
GrowsShown old new [] later = Unit {0}
GrowsShown old new (f ∷ files) [] = ⊥
GrowsShown old new (f ∷ files) (g ∷ later) = KeepsShown old new f g × GrowsShown old new files later

-- of each file the new image shows the bytes that the old one showed
abbrev pub KeepsBytes : Image → Image → List File → Type 0
KeepsBytes old new files = AllByRecursion (λ f. bytes_shown new f ≡ bytes_shown old f) files
