use Rattle.std.proofs.Common.{◌++◌, take, arith}
use Rattle.std.proofs.KnownBytes.{Consumes-trans, Consumes-kept}
use Rattle.r10_surveyor.proofs.input.survey_through.Goals as goal

pub loop-calls-preserved-in-Ok : goal.loop-calls-preserved-in-Ok
loop-calls-preserved-in-Ok g c =
    let now = c.loop-calls.invariant in
    record {
      fed = now.fed ++ take c.in-Ok.count c.read.new.buf;
      given = Consumes-trans _ _ _ now.fed (take c.in-Ok.count c.read.new.buf) now.given c.in-Ok.ensures.bytes.0;
      taken = c.in-Ok-feed.ensures now.fed now.taken;
      room = omega (arith, c.read.auto.buf, now.room);
      within = omega (arith, c.loop-calls-test.true);
    }

pub loop-calls-preserved : goal.loop-calls-preserved
loop-calls-preserved g c =
    let now = c.loop-calls.invariant in
    record {
      fed = now.fed;
      given = Consumes-kept _ _ _ now.fed now.given c.in-Err.ensures.bytes;
      taken = now.taken;
      room = omega (arith, c.read.auto.buf, now.room);
      within = omega (arith, c.loop-calls-test.true);
    }
