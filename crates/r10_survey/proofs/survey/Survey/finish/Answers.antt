use Rattle.std.proofs.Common.{[], refl, sym, ◌∙◌}
use Rattle.std.proofs.lemmas.List.{append-nil}
use Rattle.r10_survey.proofs.Taking.{report_of}
use Rattle.r10_survey.proofs.survey.Survey.finish.Goals as goal

pub returns : goal.returns
returns c = λ file so_far.
    report_of c.walk.new.self _ file c.deref.result.now c.in-Ok._done (c.in-Ok.ensures.whole refl)
    (c.in-Ok.ensures.taken file c.args.self.pending.items [] so_far (c.deref.ensures.value ∙ sym (append-nil c.args.self.pending.items)))
    refl refl c.in-Ok-end.ensures.kept
