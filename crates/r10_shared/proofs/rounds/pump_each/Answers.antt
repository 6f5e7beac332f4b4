use Rattle.std.proofs.Common.{◌∙◌, sym, arith}
use Rattle.r10_shared.proofs.Pumping.{pumped_idle, pumped_moved, pumped_over}
use Rattle.r10_shared.proofs.rounds.pump_each.Goals.{in-Moved, in-Idle}
use Rattle.r10_shared.proofs.rounds.pump_each.Goals as goal

pub returns-in-Over : goal.returns-in-Over
returns-in-Over g c =
    let (answer, asked, came) = c.pump_at.ensures in
    pumped_over g.H.Recording.asked g.met.H.Recording.joins _ _ _ c.loop-place.place _ _ c.loop-place.invariant.0 (omega (arith, c.loop-place-test.true, c.channel_count-channels.ensures)) answer asked (sym came ∙ c.in-Over.is)

pub loop-place-preserved : goal.loop-place-preserved
loop-place-preserved g c =
    let (answer, asked, came) = c.pump_at.ensures in (
      elim c.match-pump_at.branch [
        | in-Moved w ↦ rw w.turn-is (pumped_moved g.H.Recording.asked g.met.H.Recording.joins _ _ _ c.loop-place.place _ c.loop-place.invariant.0 answer asked (sym came ∙ w.in-Moved.is))
        | in-Idle w ↦ rw w.turn-is (pumped_idle g.H.Recording.asked g.met.H.Recording.joins _ _ _ c.loop-place.place _ c.loop-place.invariant.0 answer asked (sym came ∙ w.in-Idle.is))
      ],
      c.loop-place.invariant.1,
      g.met.H.Recording.keeps _ _ _ asked ∙ c.loop-place.invariant.2,
    )
