use Rattle.std.proofs.Common.{refl, sym}
use Rattle.r10_region.proofs.Lines.{keeps_behind, none_of}
use Rattle.r10_region.proofs.line.Line.ask.Goals as goal
use Rattle.std.proofs.lemmas.Bool.{true≢false}

pub returns-in-Err-Full-clause-keeps : goal.returns-in-Err-Full-clause-keeps
returns-in-Err-Full-clause-keeps c =
    keeps_behind c.ask_anew.result c.args.self.now _ c.ask_anew.new.self refl refl refl c.push.ensures.ring c.in-Err-Full.ensures.full.1
    (none_of _ (λ lt. true≢false (sym (c.in-Err-Full.ensures.succeeds lt)))) c.ask_anew.ensures.keeps
