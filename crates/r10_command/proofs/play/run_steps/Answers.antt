use Rattle.std.proofs.Common.{rules, arith, ◌≡◌, ◌+◌, ◌≤◌, ◌-◌, [], length, length-drop, take, drop, vec_len, refl}
use Rattle.std.proofs.lemmas.List.{take_all}
use Rattle.r10_world.specs.WorldSteps.{WorldRuns}
use Rattle.r10_command.specs.Lines.{WritesLines}
use Rattle.r10_command.proofs.Rounds.{no_lines}
use Rattle.r10_command.proofs.Running.{round_more}
use Rattle.r10_command.proofs.play.run_steps.Goals as goal

pub loop-done-init : goal.loop-done-init
loop-done-init g c = record {
  within = omega arith;
  config = refl;
  ran = λ m stands. (
    record {
      replies = [];
      images = [];
      machine = m;
      run = refl;
      stands = stands;
      lines = no_lines (g.W.Write.contents c.args.writer.now) 0;
    },
    refl,
  );
}

pub loop-done-preserved : goal.loop-done-preserved
loop-done-preserved g c =
    let contents = g.W.Write.contents in
    let disk = g.M.BlockMedium.disk in
    let events = c.args.events.now in
    let done = c.loop-done.done in
    let n = c.in_ok-count.count in
    let new = c.run.new.replies.items in
    let within : done + n ≤ length events = search rules in
    let many : length new ≡ n = search rules in
    let left = drop done events in
    let rest : take (length events - done) left ≡ left = take_all (length events - done) left (omega (arith, length-drop done events)) in
    let emptied : vec_len c.clear.new.self ≡ 0 = c.clear.ensures.len in
    let ran : WorldRuns disk c.loop-done.world (take n (drop done events)) new c.run.new.world = rw (rest, emptied) at c.in_ok-count.ensures.run in
    let wrote : WritesLines (contents c.loop-done.writer) (contents c.write_lines.new.writer) done new = search rules in
    record {
      within = within;
      config = search rules;
      ran = round_more disk c.args.world.now c.loop-done.world c.run.new.world events done n new (contents c.args.writer.now) (contents c.loop-done.writer) (contents c.write_lines.new.writer)
          c.runs_join.ensures c.loop-done.invariant.within many c.loop-done.invariant.config c.loop-done.invariant.ran ran wrote;
    }

pub returns-clause-runs : goal.returns-clause-runs
returns-clause-runs g c =
    let events = c.args.events.now in
    let done = c.loop-done.done in
    let all : take done events ≡ events = take_all done events (omega arith) in
    λ m stands. rw all at (c.loop-done.invariant.ran m stands).0
