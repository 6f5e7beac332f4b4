use Rattle.r10_survey.proofs.Entering.{of_events, of_time, of_changes, of_words}
use Rattle.r10_survey.proofs.entries.count_after.Goals as goal

pub returns-in-2 : goal.returns-in-2
returns-in-2 c = λ body is foreign. of_events c.args.data_type c.args.word c.args.rest.now body c.in-2.is c.ranges.word.fits is foreign

pub returns-in-17 : goal.returns-in-17
returns-in-17 c = λ body is foreign. of_time c.args.data_type c.args.word c.args.rest.now body c.in-17.is c.ranges.word.fits is foreign

pub returns-in-41 : goal.returns-in-41
returns-in-41 c = λ body is foreign. of_changes c.args.data_type c.args.word c.args.rest.now body c.in-41.is c.ranges.word.fits is foreign

pub returns-in-56 : goal.returns-in-56
returns-in-56 c = λ body is foreign. of_words c.args.data_type c.args.word c.args.rest.now body c.in-56.is c.ranges.word.fits is foreign
