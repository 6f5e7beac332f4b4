-- What a recorder does, by its directory and its open file.
use Rattle.r10_refinement.specs.KeptState.{Work, unmounted, idle, recording, failed}
use Rattle.r10_control.specs.declared.work.Doing.{Doing}
use Rattle.r10_control.specs.declared.work.Doing.TheVariants as doing

abbrev pub work_of : Doing → Work
work_of doing.Unmounted = unmounted
work_of (doing.Idle directory) = idle directory
work_of (doing.Recording directory file) = recording directory file
work_of doing.Failed = failed
