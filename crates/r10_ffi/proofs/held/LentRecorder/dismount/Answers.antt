use Rattle.std.proofs.Common.{rules, refl}
use Rattle.r10_ffi.proofs.Rooms.{refused, wrote}
use Rattle.r10_ffi.proofs.held.LentRecorder.dismount.Goals as goal

pub returns-then-not-make_room : goal.returns-then-not-make_room
returns-then-not-make_room c = refused c.args.self.now _ _ _ _ c.make_room.ensures (search rules) refl refl refl

pub returns : goal.returns
returns c = wrote c.args.self.now _ _ _ _ c.make_room.ensures (search rules) c.dismount.ensures.does refl
