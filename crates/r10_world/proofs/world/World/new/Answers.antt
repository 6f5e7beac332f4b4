use Rattle.std.proofs.Common.{List, ap, map, ◌∙◌}
use Rattle.r10_body.specs.declared.spec.ChannelSpec.{ChannelSpec}
use Rattle.r10_machine.specs.Machine.{Lane, fresh_lane}
use Rattle.r10_machine.proofs.Entering.{specs_of_fresh}
use Rattle.r10_world.proofs.Beginning.{is_begun_world, new_safe, new_world}
use Rattle.r10_refinement.proofs.Finding.{again_said, found_again}
use Rattle.r10_world.proofs.world.World.new.Goals as goal

pub new-requires-clause-lanes : goal.new-requires-clause-lanes
new-requires-clause-lanes g c = ap (λ (ls : List Lane). map (λ (lane : Lane). lane.spec) ls) c.in-Ok.ensures ∙ specs_of_fresh c.channels.result.now ∙ c.channels.ensures.value

pub returns-in-Ok-new-clause-stands : goal.returns-in-Ok-new-clause-stands
returns-in-Ok-new-clause-stands g c = λ files has.
    new_world g.M.BlockMedium.disk c.a_new_recorder_stands.ensures c.args.settings c.in-Ok-new.recorder c.new-cursors.result.slots c.args.medium files c.channels.ensures.limits c.in-Ok-new.ensures.kept
    (c.in-Ok-new.ensures.lanes ∙ c.in-Ok.ensures ∙ ap (λ (xs : List ChannelSpec). map fresh_lane xs) c.channels.ensures.value) c.in-Ok-new.ensures.medium c.new-cursors.ensures.empty has

pub returns-in-Ok-new-clause-recovers : goal.returns-in-Ok-new-clause-recovers
returns-in-Ok-new-clause-recovers g c = λ files says.
    let finds = found_again c.args.settings (g.M.BlockMedium.disk c.args.medium).blocks files says in
    record {
      finds = finds;
      stands = new_world g.M.BlockMedium.disk c.a_new_recorder_stands.ensures c.args.settings c.in-Ok-new.recorder c.new-cursors.result.slots c.args.medium finds.again c.channels.ensures.limits c.in-Ok-new.ensures.kept
          (c.in-Ok-new.ensures.lanes ∙ c.in-Ok.ensures ∙ ap (λ (xs : List ChannelSpec). map fresh_lane xs) c.channels.ensures.value) c.in-Ok-new.ensures.medium c.new-cursors.ensures.empty finds.has;
      safe = λ settled. new_safe g.M.BlockMedium.disk c.args.settings c.in-Ok-new.recorder c.args.medium finds.again c.in-Ok-new.ensures.kept c.in-Ok-new.ensures.medium
          (λ image may. again_said c.args.settings image files finds.again finds.same (settled image may));
    }

pub returns-in-Ok-new-clause-safe : goal.returns-in-Ok-new-clause-safe
returns-in-Ok-new-clause-safe g c = λ files settled. new_safe g.M.BlockMedium.disk c.args.settings c.in-Ok-new.recorder c.args.medium files c.in-Ok-new.ensures.kept c.in-Ok-new.ensures.medium settled

pub returns-in-Ok-new-clause-begins : goal.returns-in-Ok-new-clause-begins
returns-in-Ok-new-clause-begins g c =
    is_begun_world c.args.settings c.in-Ok-new.recorder c.new-cursors.result.slots c.args.medium c.in-Ok-new.ensures.kept
    (c.in-Ok-new.ensures.lanes ∙ c.in-Ok.ensures ∙ ap (λ (xs : List ChannelSpec). map fresh_lane xs) c.channels.ensures.value) c.in-Ok-new.ensures.medium c.new-cursors.ensures.empty
