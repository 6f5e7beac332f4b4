-- Readers: their cursors, and what they come to.
use Rattle.std.specs.Prelude.{◌≡◌, ℕ, List, [], ◌∷◌, ◌++◌, drop, slice_index_or, Option, None, Some, Result, Ok, Err}
use Rattle.r10_body.specs.declared.refusal.Refusal.{Refusal}
use Rattle.r10_session.specs.declared.ended.ReaderEnd.{ReaderEnd}
use Rattle.r10_session.specs.declared.ended.ReaderEnd.TheVariants as ends
use Rattle.r10_machine.specs.declared.event.Event.TheVariants as events
use Rattle.r10_machine.specs.declared.reply.Reply.{Reply}
use Rattle.r10_medium.specs.Disk.{Disk}
use Rattle.r10_session.specs.Answered.{Answered}
use Rattle.r10_session.specs.Counting.{entries_in}
use Rattle.r10_script.specs.declared.session.ReaderTable.{ReaderTable}
use Rattle.r10_shared.specs.Readings.{EachGoesOn}
use Rattle.r10_shared.specs.Recorder.{Cursor, HeldState, IsReadFileRefusal, RefusesCall, Transcript, fresh_slot, recorder_refusal}
use Rattle.r10_shared.specs.declared.order.Order.{Order}

-- ---- cursors

-- a cursor that has covered nothing and wants what the table says; or the recorder refused it
abbrev pub OpensReader : {M : Type 0} → (M → Disk) → HeldState M → ReaderTable → Result Cursor Refusal → HeldState M → Type 0
OpensReader disk old table (Ok cursor) new =
    (cursor ≡ fresh_slot old.recorder.kept.generation table.channels table.file table.from table.to)
    × (new.recorder.kept ≡ old.recorder.kept)
OpensReader disk old table (Err r) new =
    RefusesCall disk (recorder_refusal old.recorder.kept (events.Cursor table.file table.channels table.from table.to))
    (IsReadFileRefusal old.recorder.kept.work (disk old.recorder.medium).blocks table.file)
    old.recorder.kept new.recorder.kept old.recorder.medium new.recorder.medium r

abbrev pub refusal_of : Result Cursor Refusal → Option Refusal
refusal_of (Ok cursor) = None
refusal_of (Err r) = Some r

abbrev pub cursors_in : Result Cursor Refusal → List Cursor
cursors_in (Ok cursor) = cursor ∷ []
cursors_in (Err r) = []

-- each reader's cursor was opened, one after the other, or refused; the cursors of those that were not are these
abbrev pub AreCursorsOpened : {M : Type 0} → (M → Disk) → HeldState M → List ReaderTable → List (Option Refusal) → List Cursor
    → HeldState M → Type 0
AreCursorsOpened disk old [] [] cursors new = (cursors ≡ []) × (new ≡ old)
AreCursorsOpened {M} disk old (table ∷ tables) (refused ∷ others) cursors new =
    (next : HeldState M) × (opened : Result Cursor Refusal) × (rest : List Cursor) × OpensReader disk old table opened next
    × (refused ≡ refusal_of opened) × (cursors ≡ cursors_in opened ++ rest)
    × AreCursorsOpened disk next tables others rest new
AreCursorsOpened disk old tables refused cursors new = ⊥

-- from some recorder that a lock keeps, the steps were asked, and then the cursors were opened
abbrev pub BeginsReading : {M : Type 0} → (M → Disk) → List Order → List ReaderTable → List Reply → List (Option Refusal)
    → List Cursor → Type 0
BeginsReading {M} disk steps tables replies refused cursors =
    (first : HeldState M) × (stepped : HeldState M) × (opened : HeldState M) × Answered disk first steps replies stepped
    × AreCursorsOpened disk stepped tables refused cursors opened

-- ---- what was read

-- what a cursor's reader wrote down: of its file what it wants, instalment by instalment, from what it had covered on
pub record IsReadOf (c : Cursor) (t : Transcript) : Type 0 where
  pub file : t.file ≡ c.file
  pub channels : t.channels ≡ c.reading.channels
  pub first : t.first ≡ c.reading.from
  pub last : t.last ≡ c.reading.to
  pub covered : ℕ
  pub goes_on : EachGoesOn c.reading.covered t.instalments.items covered

-- the ends of readers: the refusals, and between them these numbers in order
abbrev pub fill : List (Option Refusal) → List ℕ → List ReaderEnd
fill [] numbers = []
fill (Some r ∷ refused) numbers = ends.Refused r ∷ fill refused numbers
fill (None ∷ refused) numbers = ends.Read (slice_index_or numbers 0 0) ∷ fill refused (drop 1 numbers)

-- what a table's reader wrote down, instalment by instalment from the first packet on, and how many entries that is
pub record IsReadBy (table : ReaderTable) (t : Transcript) (entries : ℕ) : Type 0 where
  pub file : t.file ≡ table.file
  pub channels : t.channels ≡ table.channels
  pub first : t.first ≡ table.from
  pub last : t.last ≡ table.to
  pub covered : ℕ
  pub goes_on : EachGoesOn 0 t.instalments.items covered
  pub number : entries ≡ entries_in t.instalments.items

-- each reader was refused its cursor, or has a transcript, in order
abbrev pub AreRead : List ReaderTable → List ReaderEnd → List Transcript → Type 0
AreRead [] [] transcripts = transcripts ≡ []
AreRead (table ∷ tables) (ends.Refused r ∷ readers) transcripts = AreRead tables readers transcripts
AreRead (table ∷ tables) (ends.Read entries ∷ readers) (t ∷ transcripts) = IsReadBy table t entries
    × AreRead tables readers transcripts
AreRead tables readers transcripts = ⊥
