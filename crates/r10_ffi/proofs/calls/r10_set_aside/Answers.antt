use Rattle.std.proofs.Common.{◌≡◌, ◌⊎◌, inl, inr, arith, ℕ, Bool, length, Result, IfErr, IfOk, subst, ap, ◌∙◌}
use Rattle.r10_medium.specs.Disk.{Rose}
use Rattle.r10_calls.specs.Aside.{SetsAsideByScript}
use Rattle.r10_calls.specs.Opening.{HasOtherBlocks}
use Rattle.r10_region.specs.Identity.{Identity}
use Rattle.r10_region.specs.RegionDisk.{region_disk}
use Rattle.r10_ffi.proofs.Between.{aside}
use Rattle.r10_ffi.proofs.calls.r10_set_aside.Goals as goal

pub returns-in-Err-clause-failed : goal.returns-in-Err-clause-failed
returns-in-Err-clause-failed c = λ failed.
    let old = region_disk c.in-Ok.lent in
    let new = region_disk c.set_aside-done.result.1 in
    record {
      medium = c.in-Ok.lent;
      later = c.set_aside-done.result.1;
      lent = c.in-Ok.ensures.lent;
      none_yet = c.in-Ok.ensures.none_yet;
      none_failed = c.in-Ok.ensures.failures;
      room_is = c.in-Ok.ensures.room.0;
      same = c.set_aside-done.ensures.stays;
      rose = subst (λ (r : Result Bool ℕ). IfErr r (λ n. n ≡ 28 → Rose old.failures new.failures)) c.in-Err.is c.set_aside-done.ensures.failed failed;
    }

-- what `open` answers is no failure of the medium
no_failure : (n : ℕ) → n ≡ 28 → (n ≡ 30) ⊎ (n ≡ 40) ⊎ (n ≡ 41) → ⊥
no_failure n failed (inl is) = omega (arith, failed, is)
no_failure n failed (inr (inl is)) = omega (arith, failed, is)
no_failure n failed (inr (inr is)) = omega (arith, failed, is)

pub returns-in-Err-open-clause-failed : goal.returns-in-Err-open-clause-failed
returns-in-Err-open-clause-failed c = λ failed. absurd (no_failure c.in-Err-open.number failed c.in-Err-open.ensures.refused)

pub returns-in-Err-open-clause-other : goal.returns-in-Err-open-clause-other
returns-in-Err-open-clause-other c = λ other.
    subst (λ (n : ℕ). HasOtherBlocks c.args.script.now n) (c.set_aside-done.ensures.size ∙ ap length c.in-Ok.ensures.blocks) (c.in-Err-open.ensures.other other)

pub returns-in-Ok-new-clause-aside : goal.returns-in-Ok-new-clause-aside
returns-in-Ok-new-clause-aside c zero =
    let old = region_disk c.in-Ok.lent in
    let new = region_disk c.set_aside-done.result.1 in
    let done : SetsAsideByScript c.args.script.now c.in-Ok-done.found old new =
    subst (λ (r : Result Bool ℕ). IfOk r (λ was_open. SetsAsideByScript c.args.script.now was_open old new)) c.in-Ok-done.is c.set_aside-done.ensures.aside in (
      c.put.ensures.1,
      aside c.args.script.now c.in-Ok-done.found c.args.region.held c.put.new.self.handle.held _ _ c.put.ensures.0 c.in-Ok-new.ensures.ok (record {
        medium = c.set_aside-done.result.1;
        lent = ap (λ (i : Identity). i.lent) c.set_aside-done.ensures.stays ∙ c.in-Ok.ensures.lent;
        nothing = c.in-Ok.ensures.other_end.nothing;
        before = c.in-Ok.lent;
        over = (c.in-Ok.ensures.lent, c.in-Ok.ensures.blocks, c.in-Ok.ensures.none_yet);
        aside = done;
        opens = c.in-Ok-open.ensures.opens;
        accepted = c.in-Ok-open.ensures.accepted;
        empty = c.in-Ok-open.ensures.empty;
      }),
    )
