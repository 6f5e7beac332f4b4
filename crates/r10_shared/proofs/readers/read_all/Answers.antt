use Rattle.r10_shared.proofs.Looks.{some_element}
use Rattle.r10_shared.proofs.readers.read_all.Goals as goal

pub returns-then-threads-gt0-clause-watch : goal.returns-then-threads-gt0-clause-watch
returns-then-threads-gt0-clause-watch g c = λ i inside. let each = c.for_each_mut.ensures i (some_element c.args.readings.now i inside) inside in search
