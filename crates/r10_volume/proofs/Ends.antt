-- Lists of files with a last one.
use Rattle.std.proofs.Common.{List, [], ◌∷◌, ◌++◌}
use Rattle.std.specs.List.{AllByRecursion}
use Rattle.r10_machine.specs.Machine.{File}

pub all_front : (P : File → Type 0) (files : List File) (f : File) → AllByRecursion P (files ++ f ∷ []) → AllByRecursion P files × P f
all_front P [] f all = (tt, all.0)
all_front P (g ∷ files) f all = let rest = all_front P files f all.1 in ((all.0, rest.0), rest.1)

pub all_with : (P : File → Type 0) (files : List File) (f : File) → AllByRecursion P files → P f → AllByRecursion P (files ++ f ∷ [])
all_with P [] f all here = (here, tt)
all_with P (g ∷ files) f all here = (all.0, all_with P files f all.1 here)
