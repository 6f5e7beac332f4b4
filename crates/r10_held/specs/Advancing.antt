-- How a player takes its next instalment.
use Rattle.std.specs.Prelude.{◌≡◌, ℕ, ◌<◌, ◌≤◌, List, [], length, Result, Err, IfErr, IfOk, OnErr, OnOk}
use mathlib.Core.List.{IsPrefix}
use Rattle.r10_body.specs.Packets.{Packet}
use Rattle.r10_body.specs.declared.refusal.Glance.{Glance}
use Rattle.r10_body.specs.declared.refusal.Refusal.{Refusal}
use Rattle.r10_body.specs.declared.refusal.Refusal.TheVariants.{Behind}
use Rattle.r10_control.specs.Calls.{AdvancesRecorder}
use Rattle.r10_cursor.specs.Replays.{AdvancesReading}
use Rattle.r10_cursor.specs.declared.cursor.Cursor.{Cursor}
use Rattle.r10_gauge.specs.Published.{LookingEnd, commits_of, last_triple}
use Rattle.r10_held.specs.LockFact.{LockFact}
use Rattle.r10_held.specs.Naming.{ChannelRing}
use Rattle.r10_held.specs.Publishing.{StaysPublished}
use Rattle.r10_held.specs.State.{HeldState}
use Rattle.r10_held.specs.declared.player.Player.{Player}
use Rattle.r10_medium.specs.Disk.{Disk}

-- a refusal is After only where this is so
abbrev pub SaysBehind : Type 0 → Refusal → Type 0
SaysBehind so (Behind seen) = so
SaysBehind so r = Unit {0}

-- of a lock's value: refused After, with the last that was seen, exactly where less was published than was seen, and then nothing
-- changes; else the recorder's advance
pub record AdvancesHeld {M : Type 0} (disk : M → Disk) (seen : List Glance) (old new : HeldState M) (cursor later : Cursor)
    (result : Result ℕ Refusal) : Type 0 where
  pub at_least : OnOk result (commits_of seen ≤ commits_of old.published)
  pub behind : commits_of old.published < commits_of seen → (result ≡ Err (Behind (last_triple seen))) × (later ≡ cursor)
      × (new ≡ old)
  pub only_behind : IfErr result (SaysBehind (commits_of old.published < commits_of seen))
  pub advances : commits_of seen ≤ commits_of old.published → AdvancesRecorder disk old.recorder new.recorder cursor later result
  pub gauge : StaysPublished old new

-- So it was of what the lock had when it was taken: a value that publishes at the gauge at which the pass looks, and has published
-- all that the pass has seen. Of it is known what is known of whatever a lock keeps.
pub record AdvancesUnderLock {M : Type 0} (disk : M → Disk) (rings : List ChannelRing) (pass : LookingEnd) (cursor later : Cursor)
    (result : Result ℕ Refusal) : Type 0 where
  pub old : HeldState M
  pub new : HeldState M
  pub fact : LockFact disk rings old.recorder old.published
  pub gauge : old.cell ≡ pass.cell
  pub published : IsPrefix pass.seen old.published
  pub advances : AdvancesHeld disk pass.seen old new cursor later result

-- the cursor had given all that it had, and took, of some packets, those that it wants and had not covered: so many, in order
pub record TakesInstalment (old new : Cursor) (n : ℕ) : Type 0 where
  pub given : old.reading.queue ≡ []
  pub packets : List Packet
  pub advances : AdvancesReading old.reading new.reading packets
  pub place : (new.file ≡ old.file) × (new.generation ≡ old.generation)
  pub length_is : n ≡ length new.reading.queue

-- A player's advance. What was seen before is a beginning of what is seen then; the cursor takes its next instalment, or stays.
pub record AdvancesPlayer {M : Type 0} (disk : M → Disk) (rings : List ChannelRing) (before after : Player)
    (result : Result ℕ Refusal)
    : Type 0 where
  pub same : after.pass.cell ≡ before.pass.cell
  pub seen : IsPrefix before.pass.seen after.pass.seen
  pub advances : AdvancesUnderLock disk rings after.pass before.cursor after.cursor result
  -- it is never refused as After
  pub ahead : (seen : Glance) → result ≡ Err (Behind seen) → ⊥
  pub takes : IfOk result (λ n. TakesInstalment before.cursor after.cursor n)
  -- where it is refused, the cursor stays
  pub cursor : OnErr result (after.cursor ≡ before.cursor)
