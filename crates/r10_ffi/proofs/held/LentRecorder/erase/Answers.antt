use Rattle.std.proofs.Common.{rules, refl}
use Rattle.r10_ffi.proofs.Rooms.{refused_erase}
use Rattle.r10_ffi.proofs.held.LentRecorder.erase.Goals as goal

pub returns-then-not-make_room : goal.returns-then-not-make_room
returns-then-not-make_room c = refused_erase c.args.self.now _ _ c.make_room.ensures (search rules) refl refl
