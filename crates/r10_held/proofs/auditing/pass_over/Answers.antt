use Rattle.r10_held.proofs.Comparing.{covers_so}
use Rattle.r10_held.proofs.auditing.pass_over.Goals as goal

pub returns-in-Ok-clause-covers : goal.returns-in-Ok-clause-covers
returns-in-Ok-clause-covers g c = λ packets shows.
    covers_so c.args.cursor.now c.advance_to.new.cursor c.rest-passed_over.new.self _ c.in-Ok.ensures.does.place.0 c.in-Ok.ensures.does.place.1 c.requires.left (c.in-Ok.ensures.does.advances packets shows) c.rest-passed_over.ensures.left
