use Rattle.std.specs.Borrow.{Bor}
use Rattle.std.proofs.Common.{rules, arith, ℕ, List, [], length, ap, drop, length-append}
use Rattle.r10_count.proofs.Joined.{joined, part_within}
use Rattle.r10_count.proofs.append.append_all.Goals as goal

pub returns-in-Err : goal.returns-in-Err
returns-in-Err c = record {
  written = tt;
  kept = search rules;
  full =
      let parts = c.args.parts.now in
      let i = c.loop-part.part-index in
      let out = c.loop-part.out in
      let none : Bor (List ℕ) = record { ref_ptr = (0, 0); now = [] } in
      omega (
        arith,
        c.in-Err.ensures.full,
        c.loop-part.invariant.capacity,
        part_within parts i none c.loop-part-test.true,
        out.ok.0,
        ap length c.loop-part.invariant.written,
        length-append out.items (joined (drop i parts)),
        length-append c.args.out.now.items (joined parts),
      );
  capacity = search rules;
}
