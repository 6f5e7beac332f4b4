use Rattle.std.proofs.Common.{◌≡◌, rules, subst, ap, ◌∙◌}
use Rattle.r10_medium.specs.Disk.{Image}
use Rattle.r10_calls.specs.Opening.{FormatsOver}
use Rattle.r10_region.specs.Identity.{Identity}
use Rattle.r10_region.specs.RegionDisk.{region_disk}
use Rattle.r10_ffi.proofs.Between.{formatted}
use Rattle.r10_ffi.proofs.calls.r10_format.Goals as goal

pub returns-in-Ok-new-clause-formats : goal.returns-in-Ok-new-clause-formats
returns-in-Ok-new-clause-formats c zero =
    let done : c.format-number.result.0 ≡ 0 = search rules in (
      c.put.ensures.1,
      formatted c.args.script.now c.args.region.held c.put.new.self.handle.held _ _ c.put.ensures.0 c.in-Ok-new.ensures.ok (record {
        medium = c.format-number.result.1;
        lent = ap (λ (i : Identity). i.lent) c.format-number.ensures.stays ∙ c.in-Ok.ensures.lent;
        nothing = c.in-Ok.ensures.other_end.nothing;
        formats = c.format-number.ensures.formats done;
        over = subst (λ (image : Image). FormatsOver c.args.script.now image (region_disk c.format-number.result.1)) c.in-Ok.ensures.blocks (c.format-number.ensures.over done);
        opens = c.in-Ok-open.ensures.opens;
        accepted = c.in-Ok-open.ensures.accepted;
        empty = c.in-Ok-open.ensures.empty;
      }),
    )

pub returns-then-number-ne0-clause-failed : goal.returns-then-number-ne0-clause-failed
returns-then-number-ne0-clause-failed c = λ failed. record {
  medium = c.in-Ok.blank;
  later = c.format-number.result.1;
  lent = c.in-Ok.ensures.lent;
  none_yet = c.in-Ok.ensures.none_yet;
  none_failed = c.in-Ok.ensures.failures;
  room_is = c.in-Ok.ensures.room.0;
  same = c.format-number.ensures.stays;
  rose = c.format-number.ensures.failed failed;
}
