-- What is stated of a recorder, of its lock and of its readers, passed on: crates above need not list those that define it.
pub use Rattle.r10_held.specs.Account.{IsNew}
pub use Rattle.r10_held.specs.LockFact.{outlet_received, outlet_spec}
pub use Rattle.r10_held.specs.Naming.{AreNamed, ChannelRing, ring_for}
pub use Rattle.r10_held.specs.Recorder.{AreOwn, Cursor, IsReadFileRefusal, Kept, RefusesCall, entries_on, fresh_slot}
pub use Rattle.r10_held.specs.Recorder.{recorder_refusal}
pub use Rattle.r10_held.specs.State.{HeldState}
pub use Rattle.r10_held.specs.Transcripts.{AllAgree}
pub use Rattle.r10_held.specs.declared.player.Player.{Player}
pub use Rattle.r10_held.specs.declared.transcript.Instalment.{Instalment}
pub use Rattle.r10_held.specs.declared.transcript.Transcript.{Transcript}
