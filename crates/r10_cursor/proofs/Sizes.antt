-- Files of which none has fewer bytes.
use Rattle.std.proofs.Common.{◌≤◌, List, [], ◌∷◌, ◌++◌, arith}
use Rattle.r10_machine.specs.Machine.{File}
use Rattle.r10_cursor.specs.Staying.{NoneShrinks}

pub none_shrinks : (files : List File) → NoneShrinks files files
none_shrinks [] = tt
none_shrinks (f ∷ files) = (omega arith, none_shrinks files)

pub last_grows : (files : List File) (f g : File) → f.size ≤ g.size → NoneShrinks (files ++ f ∷ []) (files ++ g ∷ [])
last_grows [] f g more = (more, tt)
last_grows (x ∷ files) f g more = (omega arith, last_grows files f g more)

pub more_come : (files more : List File) → NoneShrinks files (files ++ more)
more_come [] more = tt
more_come (f ∷ files) more = (omega arith, more_come files more)
