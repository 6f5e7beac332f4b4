-- When an audit is refused, and how it goes through instalments.
use Rattle.std.specs.Prelude.{◌≡◌, ◌⊎◌, ◌↔◌, ℕ, ◌≤◌, Bool, List, [], ◌∷◌, ◌++◌, length, Option, None}
use Rattle.std.specs.Prelude.{Result, IfErr, IfOk, IsTrue, OnOk}
use Rattle.r10_body.specs.Packets.{Packet}
use Rattle.r10_body.specs.declared.refusal.Refusal.{Refusal}
use Rattle.r10_body.specs.declared.refusal.Refusal.TheVariants.{Failed, NotMounted, NoSuchFile, BadFile}
use Rattle.r10_control.specs.Checks.{files_of, recorder_refusal}
use Rattle.r10_control.specs.Reading.{IsReadAt, IsReadFileRefusal, OnlyReads, ShowsAt}
use Rattle.r10_control.specs.Refused.{RefusesCall}
use Rattle.r10_control.specs.State.{RecorderState}
use Rattle.r10_count.specs.Checks.{first_broken}
use Rattle.r10_count.specs.Count.{IsCount}
use Rattle.r10_cursor.specs.RepresentedCursors.{fresh_slot}
use Rattle.r10_cursor.specs.declared.cursor.Cursor.{Cursor}
use Rattle.r10_machine.specs.Checks.{is_working, mounted_checks}
use Rattle.r10_machine.specs.declared.event.Event.TheVariants as events
use Rattle.r10_refinement.specs.KeptState.{Kept, Work, mode_of}
use Rattle.r10_medium.specs.Disk.{Disk, Image}
use Rattle.r10_held.specs.Transcripts.{Agrees, AllAgree, IsPart}
use Rattle.r10_held.specs.declared.transcript.Instalment.{Instalment}
use Rattle.r10_held.specs.declared.transcript.Transcript.{Transcript}

-- ---- what is refused

-- a recorder that failed is not audited
abbrev pub audit_refusal : Kept → Option Refusal
audit_refusal k = first_broken ((is_working (mode_of k.work), Failed) ∷ [])

-- the file ended, and is at fault, first so
abbrev pub IsAuditRefusal : Work → Image → ℕ → Refusal → Type 0
IsAuditRefusal work image file (BadFile offset fault) = IsReadFileRefusal work image file (BadFile offset fault)
IsAuditRefusal work image file r = ⊥

-- of several transcripts, the first that doesn't agree is of such a file
pub record IsFirstRefused (work : Work) (image : Image) (transcripts : List Transcript) (r : Refusal) : Type 0 where
  pub front : List Transcript
  pub transcript : Transcript
  pub rest : List Transcript
  pub split : transcripts ≡ front ++ transcript ∷ rest
  pub agree : AllAgree work image front
  pub refused : IsAuditRefusal work image transcript.file r

-- the refusals of a file that isn't there
abbrev pub is_absence : Refusal → Bool
is_absence r = elim r [ NotMounted ↦ Bool.true | NoSuchFile ↦ Bool.true | _ ↦ Bool.false ]

-- ---- what an answer rests on

-- no file has this number; or it is read as one that is whole, so that of a file at fault no audit answers
abbrev pub IsAbsentOrRead : Work → Image → ℕ → Type 0
IsAbsentOrRead work image file = (length (files_of work) ≤ file) ⊎ IsReadAt work image file

-- so it is of each transcript's file, one after the other, up to the first that doesn't agree
abbrev pub AreAbsentOrRead : Work → Image → List Transcript → Type 0
AreAbsentOrRead work image [] = Unit {0}
AreAbsentOrRead work image (t ∷ transcripts) = IsAbsentOrRead work image t.file
    × (Agrees work image t → AreAbsentOrRead work image transcripts)

-- ---- instalment by instalment

-- a cursor may be read on: a medium is mounted, it is of this generation, and it has nothing left to give
pub record MayReadOn (k : Kept) (c : Cursor) : Type 0 where
  pub mounted : first_broken (mounted_checks (mode_of k.work)) ≡ None
  pub generation : c.generation ≡ k.generation
  pub left : c.reading.queue ≡ []

-- the same cursor where it has covered so many packets
abbrev pub at_place : ℕ → Cursor → Cursor
at_place n c = record c { reading = record c.reading { covered = n } }

-- an instalment goes on from a place, and is a part
pub record IsNext (packets : List Packet) (channels : List ℕ) (first last at : ℕ) (i : Instalment) : Type 0 where
  pub begins : i.from ≡ at
  pub forward : i.from ≤ i.to
  pub part : IsPart packets channels first last i

-- and so do all, one after the other
abbrev pub GoOn : List Packet → List ℕ → ℕ → ℕ → ℕ → List Instalment → Type 0
GoOn packets channels first last at [] = Unit {0}
GoOn packets channels first last at (i ∷ instalments) = IsNext packets channels first last at i
    × GoOn packets channels first last i.to instalments

-- ---- the calls of an audit

-- A cursor is opened again on a transcript's file, for its channels and its range; it has covered nothing.
pub record OpensAgain {M L : Type 0} (disk : M → Disk) (t : Transcript) (before after : RecorderState M L)
    (answer : Result Cursor Refusal)
    : Type 0 where
  pub passed : OnOk answer (recorder_refusal before.kept (events.Cursor t.file t.channels t.first t.last) ≡ None)
  pub opened : IfOk answer (λ c. c ≡ fresh_slot before.kept.generation t.channels t.file t.first t.last)
  pub ready : IfOk answer (MayReadOn after.kept)
  pub there : OnOk answer (IsReadAt before.kept.work (disk before.medium).blocks t.file)
  pub refused : IfErr answer (RefusesCall disk (recorder_refusal before.kept (events.Cursor t.file t.channels t.first t.last))
      (IsReadFileRefusal before.kept.work (disk before.medium).blocks t.file) before.kept after.kept before.medium after.medium)
  pub counts : IsCount t.first × IsCount t.last
  pub reads : OnlyReads disk before after answer

-- An instalment is read again, where it goes on from where the cursor is; whether it is the same.
pub record ReadsInstalment {M L : Type 0} (disk : M → Disk) (i : Instalment) (before after : RecorderState M L) (was next : Cursor)
    (answer : Result Bool Refusal) : Type 0 where
  pub same : (packets : List Packet) → ShowsAt before.kept.work (disk before.medium).blocks was.file packets
      → was.reading.covered ≤ length packets
      → IfOk answer (λ yes. IsTrue yes
      ↔ IsNext packets was.reading.channels was.reading.from was.reading.to was.reading.covered i)
  pub covers : (packets : List Packet) → ShowsAt before.kept.work (disk before.medium).blocks was.file packets
      → was.reading.covered ≤ length packets → IfOk answer (λ yes. IsTrue yes → next ≡ at_place i.to was)
  pub ready : OnOk answer (MayReadOn after.kept next)
  pub file : next.file ≡ was.file
  pub refused : IfErr answer (RefusesCall disk None (IsReadFileRefusal before.kept.work (disk before.medium).blocks was.file)
      before.kept after.kept before.medium after.medium)
  pub reads : OnlyReads disk before after answer
