use Rattle.r10_control.proofs.Meant.{meant_own}
use Rattle.r10_control.proofs.own_laws.own_entries_are_meant.Goals as goal

pub returns : goal.returns
returns c = λ k image failures m means works. meant_own k image failures m means works
