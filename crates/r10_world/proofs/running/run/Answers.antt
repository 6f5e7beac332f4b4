use Rattle.std.proofs.Common.{◌≡◌, ◌≤◌, ◌<◌, ◌++◌, ◌∷◌, [], ◌∙◌, length, arith, ap, drop, refl, subst, sym, take, vec_len, ℕ, List}
use Rattle.r10_world.proofs.Going.{all_of, answer_more, begun, begun_each, run_more, take_one_more}
use Rattle.r10_world.proofs.running.run.Goals as goal
use Rattle.r10_world.proofs.PowerLossInRuns.{begun_safely, run_more_safely}
use Rattle.r10_world.specs.Answering.{AnswersEach}
use Rattle.r10_world.specs.PowerLoss.{RunsSafely}
use Rattle.r10_world.specs.WorldSteps.{WorldRuns}
use Rattle.r10_machine.specs.declared.reply.Reply.{Reply}

pub loop-i-init : goal.loop-i-init
loop-i-init g c =
    let replies = c.args.replies.now in
    let number : vec_len replies ≡ length replies.items = omega (arith, replies.ok.0) in
    record {
      run = begun g.M.BlockMedium.disk c.args.world.now (vec_len replies) replies.items number;
      answers = begun_each g.M.BlockMedium.disk c.args.world.now (vec_len replies) replies.items number;
      power_loss = begun_safely g.M.BlockMedium.disk c.args.world.now (vec_len replies) replies.items number;
      config = refl;
      earlier = all_of (vec_len replies) replies.items number;
      count = omega arith;
      world_first = λ h. refl;
      replies_first = λ h. refl;
    }

pub returns-clause-run : goal.returns-clause-run
returns-clause-run g c =
    let ended : c.loop-i.i ≡ length c.args.events.now = omega arith in
    subst (λ (n : ℕ). WorldRuns g.M.BlockMedium.disk c.args.world.now (take n c.args.events.now) (drop (vec_len c.args.replies.now) c.loop-i.replies.items) c.loop-i.world) ended c.loop-i.invariant.run

pub returns-clause-answers : goal.returns-clause-answers
returns-clause-answers g c =
    let ended : c.loop-i.i ≡ length c.args.events.now = omega arith in
    subst (λ (n : ℕ). AnswersEach g.M.BlockMedium.disk c.args.world.now (take n c.args.events.now) (drop (vec_len c.args.replies.now) c.loop-i.replies.items) c.loop-i.world) ended c.loop-i.invariant.answers

pub returns-else-i-eq0-clause-answers : goal.returns-else-i-eq0-clause-answers
returns-else-i-eq0-clause-answers g c =
    subst (λ (xs : List Reply). AnswersEach g.M.BlockMedium.disk c.args.world.now (take c.loop-i.i c.args.events.now) (drop (vec_len c.args.replies.now) xs) c.loop-i.world) (sym c.reserve-place.ensures.items) c.loop-i.invariant.answers

pub returns-clause-power_loss : goal.returns-clause-power_loss
returns-clause-power_loss g c =
    let ended : c.loop-i.i ≡ length c.args.events.now = omega arith in
    subst (λ (n : ℕ). RunsSafely g.M.BlockMedium.disk c.args.world.now (take n c.args.events.now) (drop (vec_len c.args.replies.now) c.loop-i.replies.items) c.loop-i.world) ended c.loop-i.invariant.power_loss

pub returns-else-i-eq0-clause-power_loss : goal.returns-else-i-eq0-clause-power_loss
returns-else-i-eq0-clause-power_loss g c =
    subst (λ (xs : List Reply). RunsSafely g.M.BlockMedium.disk c.args.world.now (take c.loop-i.i c.args.events.now) (drop (vec_len c.args.replies.now) xs) c.loop-i.world) (sym c.reserve-place.ensures.items) c.loop-i.invariant.power_loss

pub loop-i-preserved : goal.loop-i-preserved
loop-i-preserved g c =
    let n = vec_len c.args.replies.now in
    let xs = c.loop-i.replies.items in
    let ys = c.push_reserved.new.self.items in
    let event = c.index-events-i.result in
    let reply = c.step-reply.result in
    let so_far = c.loop-i.invariant in
    let here : c.loop-i.i < length c.args.events.now = omega arith in
    let longer : ys ≡ xs ++ reply ∷ [] = ◌∙◌ {A = List Reply} c.push_reserved.ensures.items (ap (λ (l : List Reply). l ++ reply ∷ []) c.reserve-place.ensures.items) in
    let within : n ≤ length xs = omega (arith, so_far.count, c.loop-i.replies.ok.0) in
    record {
      run = run_more g.M.BlockMedium.disk c.args.world.now c.loop-i.world c.step-reply.new.self c.args.events.now c.loop-i.i n event reply xs ys c.runs_join.ensures
          here c.index-events-i.is within longer so_far.run c.step-reply.ensures.tells;
      answers = answer_more g.M.BlockMedium.disk c.args.world.now c.loop-i.world c.step-reply.new.self c.args.events.now c.loop-i.i n event reply xs ys here c.index-events-i.is within longer so_far.answers (record { answer = c.step-reply.ensures.answers; spares = c.step-reply.ensures.spares });
      power_loss = run_more_safely g.M.BlockMedium.disk c.args.world.now c.loop-i.world c.step-reply.new.self c.args.events.now c.loop-i.i n event reply xs ys c.runs_join.ensures
          here c.index-events-i.is within longer so_far.power_loss c.step-reply.ensures.tells c.step-reply.ensures.power_loss;
      config = c.step-reply.ensures.config ∙ so_far.config;
      earlier = take_one_more n xs ys reply within longer ∙ so_far.earlier;
      count = omega (arith, so_far.count, c.push_reserved.ensures.len, c.reserve-place.ensures.len);
      world_first = λ h. absurd (omega arith);
      replies_first = λ h. absurd (omega arith);
    }
