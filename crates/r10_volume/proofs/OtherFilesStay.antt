-- Files of other recorders whose bytes stay.
use Rattle.std.proofs.Common.{List, [], ◌∷◌, ◌∙◌}
use Rattle.r10_volume.specs.Holding.{OthersAreFound}
use Rattle.r10_machine.specs.Machine.{File}
use Rattle.r10_medium.specs.Disk.{Image}
use Rattle.r10_machine.specs.Bytes.{KeepBytes}

pub found_stays : (old new : Image) (files : List File) → KeepBytes old new files → OthersAreFound old files → OthersAreFound new files
found_stays old new [] keep found = tt
found_stays old new (f ∷ files) (here, keep) (first, found) =
    (λ own. let was = first own in record { packets = was.packets; bytes_are = here ∙ was.bytes_are; each = was.each; entries_are = was.entries_are; shown = was.shown; own = was.own }, found_stays old new files keep found)
