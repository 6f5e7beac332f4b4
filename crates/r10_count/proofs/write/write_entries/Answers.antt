use Rattle.std.proofs.Common.{rules, arith, length, ap, drop, length-append}
use Rattle.r10_count.specs.Form.{spelled_all}
use Rattle.r10_count.proofs.Joined.{first_within}
use Rattle.r10_count.proofs.write.write_entries.Goals as goal

pub returns-in-Err : goal.returns-in-Err
returns-in-Err g c =
    let form = g.E.BodyEntry.form in
    let es = c.args.entries.now in
    let i = c.loop-entry.entry-index in
    let out = c.loop-entry.out in
    record {
      written = tt;
      kept = search rules;
      full =
          omega (
            arith,
            c.in-Err.ensures.full,
            c.loop-entry.invariant.capacity,
            first_within form c.loop-entry.count es i c.entry-item.result c.loop-entry-test.true c.entry-item.is,
            ap length c.loop-entry.invariant.written,
            length-append out.items (spelled_all form c.loop-entry.count (drop i es)),
            length-append c.args.out.now.items (spelled_all form c.args.before es),
          );
      capacity = search rules;
    }
