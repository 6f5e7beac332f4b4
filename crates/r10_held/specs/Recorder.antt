-- What is stated of a recorder, of what it keeps and of its cursors, passed on: crates above need not list those that define it.
pub use Rattle.r10_cursor.specs.Replays.{Reading}
pub use Rattle.r10_cursor.specs.RepresentedCursors.{fresh_slot}
pub use Rattle.r10_cursor.specs.declared.cursor.Cursor.{Cursor}
pub use Rattle.r10_refinement.specs.KeptState.{Kept, Work, failed, idle, recording, unmounted}
pub use Rattle.r10_refinement.specs.PowerLossInCalls.{AnswersSafely}
pub use Rattle.r10_control.specs.Calls.{EffectBy, OwnsBy, RefusesBy}
pub use Rattle.r10_control.specs.Checks.{recorder_refusal}
pub use Rattle.r10_control.specs.Effects.{CommitEffect, PumpEffect}
pub use Rattle.r10_control.specs.Leading.{CallStepsTaking, MachinesKeepShown, none_taken}
pub use Rattle.r10_control.specs.Own.{AreOwn}
pub use Rattle.r10_control.specs.Reading.{IsReadFileRefusal, OnlyReads}
pub use Rattle.r10_control.specs.Refused.{RefusesCall, nothing_lacks}
pub use Rattle.r10_control.specs.Safely.{LeavesTaking, StopsSafely}
pub use Rattle.r10_control.specs.Started.{IsStartRefusal}
pub use Rattle.r10_control.specs.State.{RecorderState}
pub use Rattle.r10_control.specs.Taking.{CountsMoved, HadRoom, IsStopped, LeftNone, RefusesReadied, StepsByTaking, entries_on}
pub use Rattle.r10_control.specs.Taking.{most_of}
pub use Rattle.r10_control.specs.RecorderStatus.{number_on}
