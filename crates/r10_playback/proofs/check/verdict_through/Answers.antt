use Rattle.std.proofs.Common.{◌≡◌, ℕ, List, ◌++◌, take, subst, arith}
use Rattle.std.proofs.KnownBytes.{Consumes-trans, Consumes-kept}
use Rattle.std.proofs.lemmas.Option.{IfSome_then}
use Rattle.std.proofs.lemmas.Result.{IfOk-weaker}
use Rattle.r10_checker.specs.Verdict.{IsVerdict}
use Rattle.r10_playback.proofs.WrittenStays.{whole_of}
use Rattle.r10_playback.proofs.check.verdict_through.Goals as goal

pub loop-calls-preserved-in-Ok : goal.loop-calls-preserved-in-Ok
loop-calls-preserved-in-Ok g c =
    let now = c.loop-calls.invariant in
    record {
      fed = now.fed ++ take c.in-Ok.count c.read.new.buf;
      given = Consumes-trans _ _ _ now.fed (take c.in-Ok.count c.read.new.buf) now.given c.in-Ok.ensures.bytes.0;
      taken = c.in-Ok-feed.ensures now.fed now.taken;
      room = omega (arith, c.read.auto.buf, now.room);
      within = omega (arith, c.loop-calls-test.true);
    }

pub loop-calls-preserved : goal.loop-calls-preserved
loop-calls-preserved g c =
    let now = c.loop-calls.invariant in
    record {
      fed = now.fed;
      given = Consumes-kept _ _ _ now.fed now.given c.in-Err.ensures.bytes;
      taken = now.taken;
      room = omega (arith, c.read.auto.buf, now.room);
      within = omega (arith, c.loop-calls-test.true);
    }

pub returns-in-Ok-eq0-clause-verdict : goal.returns-in-Ok-eq0-clause-verdict
returns-in-Ok-eq0-clause-verdict g c =
    let left = g.R.Read.remaining in
    let now = c.loop-calls.invariant in
    let read = c.in-Ok-eq0.ensures.bytes in
    let none : c.in-Ok-eq0.field-0 ≡ 0 = omega (arith, c.in-Ok-eq0.field-0-test) in
    let whole = whole_of (left c.args.reader.now) (left c.loop-calls.reader) (left c.read.new.self) now.fed c.read.new.buf c.in-Ok-eq0.field-0 none now.given read.0
    (read.1 none (omega (arith, c.read.auto.buf, now.room))) in
    IfOk-weaker c.ended.result _ _ (λ verdict has. IfSome_then (left c.args.reader.now) whole (λ bytes is. subst (λ (l : List ℕ). IsVerdict l verdict) is (has now.fed now.taken))) c.ended.ensures.verdict
