use Rattle.r10_refinement.proofs.LaneCalls.{count_told, files_told, found_told, status_told}
use Rattle.r10_refinement.proofs.reports.reports_are_steps.Goals as goal

pub returns-clause-files : goal.returns-clause-files
returns-clause-files c = files_told c.a_step_stays_sound.ensures

pub returns-clause-status : goal.returns-clause-status
returns-clause-status c = status_told c.a_step_stays_sound.ensures

pub returns-clause-found : goal.returns-clause-found
returns-clause-found c = found_told c.a_step_stays_sound.ensures

pub returns-clause-count : goal.returns-clause-count
returns-clause-count c = count_told c.a_step_stays_sound.ensures
