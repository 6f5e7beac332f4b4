use Rattle.r10_ffi.proofs.Between.{opened}
use Rattle.r10_ffi.proofs.calls.r10_open.Goals as goal

pub returns-in-Ok-new-clause-opens : goal.returns-in-Ok-new-clause-opens
returns-in-Ok-new-clause-opens c zero = (
  c.put.ensures.1,
  opened c.args.script.now c.args.region.held c.args.room c.put.new.self.handle.held _ _ c.put.ensures.0 c.in-Ok-new.ensures.ok (record {
    medium = c.in-Ok.medium;
    lent = c.in-Ok.ensures.lent;
    none_yet = c.in-Ok.ensures.none_yet;
    queue = c.in-Ok.ensures.other_end;
    room_is = c.in-Ok.ensures.room.0;
    places = c.in-Ok.ensures.room.1;
    each_call = c.in-Ok.ensures.each_call;
    opens = c.in-Ok-open.ensures.opens;
    accepted = c.in-Ok-open.ensures.accepted;
    empty = c.in-Ok-open.ensures.empty;
  }),
)
