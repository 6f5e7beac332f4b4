use Rattle.std.proofs.Common.{refl, ap, ◌∙◌}
use Rattle.r10_region.proofs.Turns.{end_queue, queue_on, run_next}
use Rattle.r10_region.specs.RegionDisk.{asked, identity_of}
use Rattle.r10_ffi.proofs.Ties.{both_tied}
use Rattle.r10_ffi.proofs.held.LentRecorder.hand_out_run.Goals as goal

pub invariant_of-self : goal.invariant_of-self
invariant_of-self c =
    let shown = c.show.ensures.shows in let old = c.args.self.now in let mid = c.show.new.onlooker in let new = c.hand_out_run.new.self in
    record {
      tied = both_tied old.desk.world.recorder.medium c.show.new.self.world.recorder.medium old.orders new old.tied (ap (λ (w : _). identity_of w.recorder.medium) shown.same ∙ shown.stays)
          (queue_on old.orders mid new shown.looks.0.queue (end_queue mid new c.hand_out_run.ensures.queue));
    }

pub returns : goal.returns
returns c =
    let shown = c.show.ensures.shows in let reach = shown.looks.0 in let old = c.args.self.now in let mid = c.show.new.onlooker in let new = c.hand_out_run.new.self in let h = c.hand_out_run.ensures in record {
      medium = shown.medium;
      desk = c.show.ensures.rest ∙ ap (λ (w : _). record old.desk { world = w }) shown.same;
      hands = record {
        region = shown.looks.1;
        queue = queue_on old.orders mid new reach.queue (end_queue mid new h.queue);
        hands = run_next (asked shown.medium) reach.more old.orders mid new reach.same reach.all h.queue c.hand_out_run.new.out c.args.bytes.now c.hand_out_run.new.bytes reach.none h.hands;
      };
      accepted = refl;
    }
