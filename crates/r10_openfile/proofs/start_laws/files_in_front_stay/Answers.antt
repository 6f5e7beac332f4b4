use Rattle.r10_openfile.proofs.BehindAll.{behind_holds, behind_says}
use Rattle.r10_openfile.proofs.start_laws.files_in_front_stay.Goals as goal

pub returns : goal.returns
returns c = record { says = behind_says; holds = behind_holds }
