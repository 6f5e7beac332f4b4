use Rattle.std.proofs.Common.{ap, ◌∙◌}
use Rattle.r10_held.specs.declared.player.Player.{Player}
use Rattle.r10_tests.proofs.handing.run_handing.Goals as goal

pub run_session_handing-requires-after_bounds : goal.run_session_handing-requires-after_bounds
run_session_handing-requires-after_bounds g c κs within = rw c.as_mut_slice-2.ensures.value
    (λ k d inside. ap (λ (p : Player). p.pass.cell) (c.in_ok-players.ensures k d inside) ∙ (rw c.new.ensures.1 c.cabinet_of-cabinet.ensures))
