use Rattle.std.proofs.Common.{◌≡◌, ap, ◌∙◌}
use Rattle.r10_shared.proofs.Written.{took_idle, took_nothing}
use Rattle.r10_shared.proofs.reading.Transcribing.write_next.Goals as goal

pub returns-else-to-from-clause-reads : goal.returns-else-to-from-clause-reads
returns-else-to-from-clause-reads g c =
    took_idle c.args.self.now.player c.advance.new.self.cursor c.in-Ok.field-0 c.in-Ok.ensures.takes c.args.self.now.instalments.items _ _ (search)
    (ap (λ p. p.cell) c.rest.ensures.pass ∙ c.advance.ensures.same) c.rest.ensures.left c.reserve.ensures.items

pub returns-in-Err-clause-reads : goal.returns-in-Err-clause-reads
returns-in-Err-clause-reads g c = took_nothing c.args.self.now.player _ c.args.self.now.instalments.items _ c.advance.ensures.same c.in-Err.ensures.cursor c.reserve.ensures.items
