-- An event that leaves the medium itself.
use Rattle.std.proofs.Common.{◌≡◌, Option, true, None, Some, ap, sym, ◌∙◌, true≢false, [], ◌∷◌}
use Rattle.r10_body.specs.declared.refusal.Refusal.{Refusal as RefusalValue}
use Rattle.r10_body.specs.declared.refusal.Refusal.TheVariants as refusals
use Rattle.r10_machine.specs.declared.event.Event.{Event as EventValue}
use Rattle.r10_machine.specs.declared.event.Event.TheVariants as events
use Rattle.r10_machine.specs.declared.reply.Reply.{Reply as ReplyValue}
use Rattle.r10_machine.specs.declared.reply.Reply.TheVariants as replies
use Rattle.r10_medium.specs.Disk.{Disk}
use Rattle.r10_world.specs.Answering.{AnswersEach, AnswersSo, LeavesAll, MayLack, RefusesSo, first_refusal}
use Rattle.r10_world.specs.State.{WorldState}
use Rattle.r10_calls.specs.EventCalls.{StepsToReply, leaves_medium}

module _ {M : Type 0} (disk : M → Disk) (old new : WorldState M) where
  -- where the medium can't be lacking, and what can be leaves it
  checked : (event : EventValue) (o : Option RefusalValue) (r : RefusalValue) → RefusesSo disk o old.recorder old.slots event r new.recorder new.slots
      → (MayLack disk old.recorder old.slots event new.recorder refusals.Medium → ⊥) → ((x : RefusalValue) → MayLack disk old.recorder old.slots event new.recorder x → LeavesAll disk old.recorder event new.recorder → new.recorder.medium ≡ old.recorder.medium)
      → new.recorder.medium ≡ old.recorder.medium
  checked event (Some first) r is never leaves = is.medium
  checked event None refusals.Failed is never leaves = leaves refusals.Failed is.cause is.leaves
  checked event None refusals.NotMounted is never leaves = leaves refusals.NotMounted is.cause is.leaves
  checked event None refusals.AlreadyMounted is never leaves = leaves refusals.AlreadyMounted is.cause is.leaves
  checked event None refusals.Busy is never leaves = leaves refusals.Busy is.cause is.leaves
  checked event None refusals.NotRecording is never leaves = leaves refusals.NotRecording is.cause is.leaves
  checked event None refusals.NoSuchChannel is never leaves = leaves refusals.NoSuchChannel is.cause is.leaves
  checked event None refusals.WrongKind is never leaves = leaves refusals.WrongKind is.cause is.leaves
  checked event None refusals.BadMessage is never leaves = leaves refusals.BadMessage is.cause is.leaves
  checked event None refusals.TooLong is never leaves = leaves refusals.TooLong is.cause is.leaves
  checked event None refusals.CountRange is never leaves = leaves refusals.CountRange is.cause is.leaves
  checked event None refusals.CountBack is never leaves = leaves refusals.CountBack is.cause is.leaves
  checked event None refusals.Overflow is never leaves = leaves refusals.Overflow is.cause is.leaves
  checked event None refusals.BadCivil is never leaves = leaves refusals.BadCivil is.cause is.leaves
  checked event None refusals.NoTime is never leaves = leaves refusals.NoTime is.cause is.leaves
  checked event None refusals.BadName is never leaves = leaves refusals.BadName is.cause is.leaves
  checked event None refusals.NameTaken is never leaves = leaves refusals.NameTaken is.cause is.leaves
  checked event None refusals.BadEvent is never leaves = leaves refusals.BadEvent is.cause is.leaves
  checked event None refusals.Unsealed is never leaves = leaves refusals.Unsealed is.cause is.leaves
  checked event None refusals.NoSuchFile is never leaves = leaves refusals.NoSuchFile is.cause is.leaves
  checked event None refusals.Stale is never leaves = leaves refusals.Stale is.cause is.leaves
  checked event None refusals.NoCursor is never leaves = leaves refusals.NoCursor is.cause is.leaves
  checked event None refusals.Unread is never leaves = leaves refusals.Unread is.cause is.leaves
  checked event None refusals.DirectoryFull is never leaves = leaves refusals.DirectoryFull is.cause is.leaves
  checked event None refusals.MediumFull is never leaves = leaves refusals.MediumFull is.cause is.leaves
  checked event None (refusals.BadDirectory a) is never leaves = leaves (refusals.BadDirectory a) is.cause is.leaves
  checked event None (refusals.BadFile a b) is never leaves = leaves (refusals.BadFile a b) is.cause is.leaves
  checked event None refusals.Medium is never leaves = absurd (never is.cause)
  checked event None (refusals.Behind a) is never leaves = leaves (refusals.Behind a) is.cause is.leaves
  checked event None refusals.OutOfMemory is never leaves = leaves refusals.OutOfMemory is.cause is.leaves

  answered : (event : EventValue) (reply : ReplyValue) → leaves_medium event ≡ true → AnswersSo disk old.recorder old.slots event reply new.recorder new.slots → new.recorder.medium ≡ old.recorder.medium
  answered events.Mount reply quiet is = absurd (true≢false (sym quiet))
  answered events.Dismount reply quiet is = absurd (true≢false (sym quiet))
  answered (events.Tick a b) reply quiet is = absurd (true≢false (sym quiet))
  answered (events.Start a b) reply quiet is = absurd (true≢false (sym quiet))
  answered (events.Offer a b c) replies.Done quiet (passed, (lanes, kept, medium, slots)) = medium
  answered (events.Offer a b c) (replies.Moved x) quiet (passed, is) = absurd is
  answered (events.Offer a b c) (replies.Stopped x) quiet (passed, is) = absurd is
  answered (events.Offer a b c) (replies.Files x) quiet (passed, is) = absurd is
  answered (events.Offer a b c) (replies.Status x) quiet (passed, is) = absurd is
  answered (events.Offer a b c) (replies.Cursor x) quiet (passed, is) = absurd is
  answered (events.Offer a b c) (replies.Advanced x) quiet (passed, is) = absurd is
  answered (events.Offer a b c) (replies.Next x) quiet (passed, is) = absurd is
  answered (events.Offer a b c) (replies.Found x) quiet (passed, is) = absurd is
  answered (events.Offer a b c) (replies.CountAt x) quiet (passed, is) = absurd is
  answered (events.Offer a b c) (replies.Refused r) quiet is = checked (events.Offer a b c) (first_refusal old.recorder.kept old.recorder.lanes old.slots (events.Offer a b c)) r is (λ lacks. lacks) (λ x lacks left. absurd lacks)
  answered (events.Lose a b) replies.Done quiet (passed, (lanes, kept, medium, slots)) = medium
  answered (events.Lose a b) (replies.Moved x) quiet (passed, is) = absurd is
  answered (events.Lose a b) (replies.Stopped x) quiet (passed, is) = absurd is
  answered (events.Lose a b) (replies.Files x) quiet (passed, is) = absurd is
  answered (events.Lose a b) (replies.Status x) quiet (passed, is) = absurd is
  answered (events.Lose a b) (replies.Cursor x) quiet (passed, is) = absurd is
  answered (events.Lose a b) (replies.Advanced x) quiet (passed, is) = absurd is
  answered (events.Lose a b) (replies.Next x) quiet (passed, is) = absurd is
  answered (events.Lose a b) (replies.Found x) quiet (passed, is) = absurd is
  answered (events.Lose a b) (replies.CountAt x) quiet (passed, is) = absurd is
  answered (events.Lose a b) (replies.Refused r) quiet is = checked (events.Lose a b) (first_refusal old.recorder.kept old.recorder.lanes old.slots (events.Lose a b)) r is (λ lacks. lacks) (λ x lacks left. absurd lacks)
  answered (events.Pump a b) reply quiet is = absurd (true≢false (sym quiet))
  answered (events.Event a b) reply quiet is = absurd (true≢false (sym quiet))
  answered events.Commit reply quiet is = absurd (true≢false (sym quiet))
  answered events.Stop reply quiet is = absurd (true≢false (sym quiet))
  answered events.Seal reply quiet is = absurd (true≢false (sym quiet))
  answered events.Erase reply quiet is = absurd (true≢false (sym quiet))
  answered events.Files replies.Done quiet (passed, is) = absurd is
  answered events.Files (replies.Moved x) quiet (passed, is) = absurd is
  answered events.Files (replies.Stopped x) quiet (passed, is) = absurd is
  answered events.Files (replies.Files x) quiet (passed, (tells, same, cursors)) = ap (λ (s : _). s.medium) same
  answered events.Files (replies.Status x) quiet (passed, is) = absurd is
  answered events.Files (replies.Cursor x) quiet (passed, is) = absurd is
  answered events.Files (replies.Advanced x) quiet (passed, is) = absurd is
  answered events.Files (replies.Next x) quiet (passed, is) = absurd is
  answered events.Files (replies.Found x) quiet (passed, is) = absurd is
  answered events.Files (replies.CountAt x) quiet (passed, is) = absurd is
  answered events.Files (replies.Refused r) quiet is = checked events.Files (first_refusal old.recorder.kept old.recorder.lanes old.slots events.Files) r is (λ lacks. lacks) (λ x lacks left. left.1)
  answered events.Status replies.Done quiet (passed, is) = absurd is
  answered events.Status (replies.Moved x) quiet (passed, is) = absurd is
  answered events.Status (replies.Stopped x) quiet (passed, is) = absurd is
  answered events.Status (replies.Files x) quiet (passed, is) = absurd is
  answered events.Status (replies.Status x) quiet (passed, (tells, same, cursors)) = ap (λ (s : _). s.medium) same
  answered events.Status (replies.Cursor x) quiet (passed, is) = absurd is
  answered events.Status (replies.Advanced x) quiet (passed, is) = absurd is
  answered events.Status (replies.Next x) quiet (passed, is) = absurd is
  answered events.Status (replies.Found x) quiet (passed, is) = absurd is
  answered events.Status (replies.CountAt x) quiet (passed, is) = absurd is
  answered events.Status (replies.Refused r) quiet is = checked events.Status (first_refusal old.recorder.kept old.recorder.lanes old.slots events.Status) r is (λ lacks. lacks) (λ x lacks left. left.1)
  answered (events.Cursor a b c d) reply quiet is = absurd (true≢false (sym quiet))
  answered (events.Advance a) reply quiet is = absurd (true≢false (sym quiet))
  answered (events.Next a) replies.Done quiet (passed, is) = absurd is
  answered (events.Next a) (replies.Moved x) quiet (passed, is) = absurd is
  answered (events.Next a) (replies.Stopped x) quiet (passed, is) = absurd is
  answered (events.Next a) (replies.Files x) quiet (passed, is) = absurd is
  answered (events.Next a) (replies.Status x) quiet (passed, is) = absurd is
  answered (events.Next a) (replies.Cursor x) quiet (passed, is) = absurd is
  answered (events.Next a) (replies.Advanced x) quiet (passed, is) = absurd is
  answered (events.Next a) (replies.Next x) quiet (passed, (slots, same)) = ap (λ (s : _). s.medium) same
  answered (events.Next a) (replies.Found x) quiet (passed, is) = absurd is
  answered (events.Next a) (replies.CountAt x) quiet (passed, is) = absurd is
  answered (events.Next a) (replies.Refused r) quiet is = checked (events.Next a) (first_refusal old.recorder.kept old.recorder.lanes old.slots (events.Next a)) r is (λ lacks. lacks) (λ x lacks left. absurd lacks)
  answered (events.Close a) replies.Done quiet (passed, (slots, same)) = ap (λ (s : _). s.medium) same
  answered (events.Close a) (replies.Moved x) quiet (passed, is) = absurd is
  answered (events.Close a) (replies.Stopped x) quiet (passed, is) = absurd is
  answered (events.Close a) (replies.Files x) quiet (passed, is) = absurd is
  answered (events.Close a) (replies.Status x) quiet (passed, is) = absurd is
  answered (events.Close a) (replies.Cursor x) quiet (passed, is) = absurd is
  answered (events.Close a) (replies.Advanced x) quiet (passed, is) = absurd is
  answered (events.Close a) (replies.Next x) quiet (passed, is) = absurd is
  answered (events.Close a) (replies.Found x) quiet (passed, is) = absurd is
  answered (events.Close a) (replies.CountAt x) quiet (passed, is) = absurd is
  answered (events.Close a) (replies.Refused r) quiet is = checked (events.Close a) (first_refusal old.recorder.kept old.recorder.lanes old.slots (events.Close a)) r is (λ lacks. lacks) (λ x lacks left. absurd lacks)
  answered (events.Find a b c) reply quiet is = absurd (true≢false (sym quiet))
  answered (events.CountAt a b) reply quiet is = absurd (true≢false (sym quiet))

each : {M : Type 0} (disk : M → Disk) (old new : WorldState M) (event : EventValue) (reply : ReplyValue) → leaves_medium event ≡ true → AnswersEach disk old (event ∷ []) (reply ∷ []) new
    → new.recorder.medium ≡ old.recorder.medium
each disk old new event reply quiet (mid, is, same) = ap (λ (w : WorldState _). w.recorder.medium) same ∙ answered disk old mid event reply quiet is.answer

-- the medium is the very same
pub left_alone : {M : Type 0} (disk : M → Disk) (old new : WorldState M) (event : EventValue) (reply : ReplyValue) → leaves_medium event ≡ true → StepsToReply disk old event reply new
    → new.recorder.medium ≡ old.recorder.medium
left_alone disk old new event reply quiet steps = each disk old new event reply quiet steps.answers
