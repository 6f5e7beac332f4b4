use Rattle.std.proofs.Common.{sym, ◌∙◌}
use Rattle.r10_dirchain.proofs.Turning.{in_place}
use Rattle.r10_dirchain.proofs.chain.Directory.add.Goals as goal

pub returns-clause-turns : goal.returns-clause-turns
returns-clause-turns g c =
    in_place c.args.self.now c.args.entry _ _ c.add_entry.result (sym c.last_is_full.ensures ∙ c.if-last_is_full.false) c.add_entry.ensures.turns
